use Rattle.std.proofs.Common.{Some, subst}
use Rattle.ripng_lab.specs.Asides.{Aside}
use Rattle.ripng_lab.specs.ScriptWatching.{value_of}
use Rattle.ripng_lab.proofs.Doing.{note_done}
use Rattle.ripng_lab.proofs.ScriptWatching.{fault_told, noted}
use Rattle.ripng_lab.proofs.course.Course.tell.Goals as goal

pub returns-in_err-noticed-clause-told : goal.returns-in_err-noticed-clause-told
returns-in_err-noticed-clause-told g c =
    fault_told g.V.Watch.starts g.V.Observer.takes g.V.Observer.fails g.V.Watch.notes c.from_residual.result c.in_err-noticed.field-0.0 (Some (value_of c.args.self.now.site)) c.args.watch.now c.noticed.new.self c.from_residual.ensures.1 c.in_err-noticed.ensures.broken

pub returns-clause-told : goal.returns-clause-told
returns-clause-told g c =
    noted g.V.Watch.starts g.V.Observer.takes g.V.Observer.fails g.V.Watch.notes (Some (value_of c.args.self.now.site)) c.args.watch.now c.noticed.new.self
    (subst (λ (a : Aside). g.V.Watch.notes c.args.watch.now a c.noticed.new.self) c.requires c.in_ok-noticed.ensures.notes)

pub returns-clause-done : goal.returns-clause-done
returns-clause-done g c =
    note_done g.V.Watch.starts g.V.Observer.takes g.V.Observer.fails g.V.Watch.notes (Some (value_of c.args.self.now.site)) c.args.watch.now c.noticed.new.self
    (subst (λ (a : Aside). g.V.Watch.notes c.args.watch.now a c.noticed.new.self) c.requires c.in_ok-noticed.ensures.notes)
