use Rattle.std.proofs.Common.{Some, ap, sym}
use Rattle.ripng_lab.specs.Doing.{IsNote}
use Rattle.ripng_lab.specs.ScriptWatching.{value_of}
use Rattle.ripng_lab.specs.declared.course.Site.{Site}
use Rattle.ripng_lab.proofs.Doing.{done_from}
use Rattle.ripng_lab.proofs.ScriptWatching.{told_from, untold_as}
use Rattle.ripng_lab.proofs.course.Course.bend.Goals as goal

pub returns-in_err-set_horizon-clause-told : goal.returns-in_err-set_horizon-clause-told
returns-in_err-set_horizon-clause-told g c =
    untold_as g.V.Watch.starts g.V.Observer.takes g.V.Observer.fails g.V.Watch.notes c.from_residual.result (Some (value_of c.args.self.now.site)) (Some (value_of c.set_horizon.new.self.site)) c.args.watch.now (ap (λ (s : Site). Some (value_of s)) c.set_horizon.ensures)

pub returns-clause-told : goal.returns-clause-told
returns-clause-told g c = told_from g.V.Watch.starts g.V.Observer.takes g.V.Observer.fails g.V.Watch.notes c.tell.result (Some (value_of c.args.self.now.site)) (Some (value_of c.set_horizon.new.self.site)) c.args.watch.now (Some (value_of c.set_horizon.new.self.site), c.tell.new.watch) (ap (λ (s : Site). Some (value_of s)) (sym c.set_horizon.ensures)) c.tell.ensures.told

pub returns-clause-done : goal.returns-clause-done
returns-clause-done g c = done_from g.V.Watch.starts g.V.Observer.takes g.V.Observer.fails g.V.Watch.notes c.tell.result IsNote (Some (value_of c.args.self.now.site)) (Some (value_of c.set_horizon.new.self.site)) c.args.watch.now (Some (value_of c.set_horizon.new.self.site), c.tell.new.watch) (ap (λ (s : Site). Some (value_of s)) (sym c.set_horizon.ensures)) c.tell.ensures.done
