use Rattle.std.proofs.Common.{◌∷◌, [], Some, Result, ap, refl, sym, subst}
use Rattle.ripng_world.specs.Events.{event_of}
use Rattle.ripng_world.specs.Watching.{failures}
use Rattle.ripng_lab.specs.ScriptWatching.{HasTold, value_of}
use Rattle.ripng_lab.specs.declared.stop.Stop.{Stop}
use Rattle.ripng_lab.proofs.ScriptWatching.{given_ok, has_told, part_none, part_one, step_told}
use Rattle.ripng_lab.proofs.Doing.{event_done, not_ok}
use Rattle.ripng_lab.proofs.course.Course.step.Goals.{in-Ok, in-Err-Refused, in-Err-Failed}
use Rattle.ripng_lab.proofs.course.Course.step.Goals as goal

pub returns-clause-told : goal.returns-clause-told
returns-clause-told g c =
    elim c.match-step_watched.branch [
      | in-Ok w ↦ has_told g.V.Watch.starts g.V.Observer.takes g.V.Observer.fails g.V.Watch.notes c.match-step_watched.result (Some (value_of c.args.self.now.site), c.args.watch.now) (Some (value_of c.step_watched.new.self), c.step_watched.new.watch)
          (step_told g.V.Watch.starts g.V.Observer.takes g.V.Observer.fails g.V.Watch.notes (value_of c.args.self.now.site) (value_of c.step_watched.new.self) (event_of c.args.event.now) _ _ c.args.watch.now c.step_watched.new.watch w.in-Ok.ensures.happens w.in-Ok.ensures.network refl w.in-Ok.ensures.told)
      | in-Err-Refused w ↦ has_told g.V.Watch.starts g.V.Observer.takes g.V.Observer.fails g.V.Watch.notes c.match-step_watched.result (Some (value_of c.args.self.now.site), c.args.watch.now) (Some (value_of c.step_watched.new.self), c.step_watched.new.watch)
          (part_none g.V.Watch.starts g.V.Observer.takes g.V.Observer.fails g.V.Watch.notes (value_of c.args.self.now.site) (value_of c.step_watched.new.self) (event_of c.args.event.now ∷ []) c.args.watch.now c.step_watched.new.watch _ (ap failures w.in-Err-Refused.field-0-is) w.in-Err-Refused.ensures.network w.in-Err-Refused.ensures.stopped)
      | in-Err-Failed w ↦ subst (λ (r : Result _ Stop). HasTold r g.V.Watch.starts g.V.Observer.takes g.V.Observer.fails g.V.Watch.notes (Some (value_of c.args.self.now.site), c.args.watch.now) (Some (value_of c.step_watched.new.self), c.step_watched.new.watch)) (sym w.result-is)
          (part_one g.V.Watch.starts g.V.Observer.takes g.V.Observer.fails g.V.Watch.notes (value_of c.args.self.now.site) (value_of c.step_watched.new.self) (event_of c.args.event.now ∷ []) c.args.watch.now c.step_watched.new.watch _ (ap failures w.in-Err-Failed.field-0-is) w.in-Err-Failed.ensures.network w.in-Err-Failed.ensures.stopped)
    ]

pub returns-clause-done : goal.returns-clause-done
returns-clause-done g c =
    elim c.match-step_watched.branch [
      | in-Ok w ↦ given_ok c.match-step_watched.result
          (event_done g.V.Watch.starts g.V.Observer.takes g.V.Observer.fails g.V.Watch.notes (value_of c.args.self.now.site) (value_of c.step_watched.new.self) (event_of c.args.event.now) _ _ c.args.watch.now c.step_watched.new.watch w.in-Ok.ensures.happens w.in-Ok.ensures.network refl w.in-Ok.ensures.told)
      | in-Err-Refused w ↦ not_ok c.match-step_watched.result _ _ w.result-is
      | in-Err-Failed w ↦ not_ok c.match-step_watched.result _ _ w.result-is
    ]
