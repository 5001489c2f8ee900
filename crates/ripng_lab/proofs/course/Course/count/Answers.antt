use Rattle.std.proofs.Common.{Some}
use Rattle.ripng_lab.specs.ScriptWatching.{value_of}
use Rattle.ripng_lab.proofs.Doing.{shown_done}
use Rattle.ripng_lab.proofs.ScriptWatching.{fault_told, has_told, shown, untold}
use Rattle.ripng_lab.proofs.course.Course.count.Goals as goal

pub returns-in_err-counts-clause-told : goal.returns-in_err-counts-clause-told
returns-in_err-counts-clause-told g c =
    has_told g.V.Watch.starts g.V.Observer.takes g.V.Observer.fails g.V.Watch.notes c.from_residual.result (Some (value_of c.args.self.now.site), c.args.watch.now) (Some (value_of c.args.self.now.site), c.args.watch.now) (untold g.V.Watch.starts g.V.Observer.takes g.V.Observer.fails g.V.Watch.notes (Some (value_of c.args.self.now.site), c.args.watch.now))

pub returns-in_err-noticed-clause-told : goal.returns-in_err-noticed-clause-told
returns-in_err-noticed-clause-told g c =
    fault_told g.V.Watch.starts g.V.Observer.takes g.V.Observer.fails g.V.Watch.notes c.from_residual-in_err-noticed.result c.in_err-noticed.field-0.0 (Some (value_of c.args.self.now.site)) c.args.watch.now c.noticed.new.self c.from_residual-in_err-noticed.ensures.1 c.in_err-noticed.ensures.broken

pub returns-clause-told : goal.returns-clause-told
returns-clause-told g c =
    shown g.V.Watch.starts g.V.Observer.takes g.V.Observer.fails g.V.Watch.notes (Some (value_of c.args.self.now.site)) c.args.watch.now c.noticed.new.self c.in_ok-counts.counts c.in_ok-noticed.ensures.notes

pub returns-clause-done : goal.returns-clause-done
returns-clause-done g c =
    shown_done g.V.Watch.starts g.V.Observer.takes g.V.Observer.fails g.V.Watch.notes (Some (value_of c.args.self.now.site)) c.args.watch.now c.noticed.new.self c.in_ok-counts.counts c.in_ok-noticed.ensures.notes
