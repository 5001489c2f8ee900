use Rattle.std.proofs.Common.{◌≡◌, ℕ, Err, Some, ap, subst, sym}
use Rattle.std.proofs.lemmas.Result.{IfErr-at_err, IfOk-at_ok}
use Rattle.ripng_phases.specs.Making.{AreMadeInPart, AreMadePhases, HealsIn}
use Rattle.ripng_world.specs.Labs.{LabValue}
use Rattle.ripng_lab.specs.Phasing.{AreMadeAndCounted}
use Rattle.ripng_lab.specs.ScriptWatching.{IsToldOfLab, value_of}
use Rattle.ripng_lab.specs.Doing.{EndsInPhases, HasDone}
use Rattle.ripng_lab.proofs.Doing.{counted_done}
use Rattle.ripng_lab.proofs.ScriptWatching.{counted_on, fault_told, has_told_on, phases_told, phases_stopped, told_from}
use Rattle.ripng_lab.proofs.course.Course.make_phases.Goals as goal

pub returns-in_err-noticed-in-Ok-clause-told : goal.returns-in_err-noticed-in-Ok-clause-told
returns-in_err-noticed-in-Ok-clause-told g c =
    told_from g.V.Watch.starts g.V.Observer.takes g.V.Observer.fails g.V.Watch.notes c.from_residual.result (Some (value_of c.args.self.now.site)) (Some c.in-Lawful.lab) c.args.watch.now (Some c.run_phases-phase.new.lab, c.noticed.new.self) (ap Some (ap value_of c.in-Lawful.is))
    (has_told_on g.V.Watch.starts g.V.Observer.takes g.V.Observer.fails g.V.Watch.notes c.from_residual.result (Some c.in-Lawful.lab, c.args.watch.now) (Some c.run_phases-phase.new.lab, c.run_phases-phase.new.watch) (Some c.run_phases-phase.new.lab, c.noticed.new.self) (phases_told g.V.Watch.starts g.V.Observer.takes g.V.Observer.fails g.V.Watch.notes c.in-Lawful.lab c.run_phases-phase.new.lab c.args.watch.now c.run_phases-phase.new.watch c.run_phases-phase.result.0 c.in-Ok.last c.run_phases-phase.ensures.network (IfOk-at_ok (λ last. AreMadePhases g.V.Observer.takes c.in-Lawful.lab.network (c.in-Lawful.lab.world, c.args.watch.now) c.run_phases-phase.result.0 last (c.run_phases-phase.new.lab.world, c.run_phases-phase.new.watch)) c.in-Ok.is c.run_phases-phase.ensures.made))
    (fault_told g.V.Watch.starts g.V.Observer.takes g.V.Observer.fails g.V.Watch.notes c.from_residual.result c.in_err-noticed-in-Ok.field-0.0 (Some c.run_phases-phase.new.lab) c.run_phases-phase.new.watch c.noticed.new.self c.from_residual.ensures.1 c.in_err-noticed-in-Ok.ensures.broken))

pub returns-in_ok-noticed-in-Ok-clause-told : goal.returns-in_ok-noticed-in-Ok-clause-told
returns-in_ok-noticed-in-Ok-clause-told g c =
    subst (λ (l : LabValue). IsToldOfLab g.V.Watch.starts g.V.Observer.takes g.V.Watch.notes (Some l, c.args.watch.now) (Some c.run_phases-phase.new.lab, c.noticed.new.self)) (ap value_of (sym c.in-Lawful.is))
    (counted_on g.V.Watch.starts g.V.Observer.takes g.V.Observer.fails g.V.Watch.notes (Some c.in-Lawful.lab, c.args.watch.now) (Some c.run_phases-phase.new.lab) c.run_phases-phase.new.watch c.noticed.new.self c.args.line.now.count c.in-Ok.last (phases_told g.V.Watch.starts g.V.Observer.takes g.V.Observer.fails g.V.Watch.notes c.in-Lawful.lab c.run_phases-phase.new.lab c.args.watch.now c.run_phases-phase.new.watch c.run_phases-phase.result.0 c.in-Ok.last c.run_phases-phase.ensures.network (IfOk-at_ok (λ last. AreMadePhases g.V.Observer.takes c.in-Lawful.lab.network (c.in-Lawful.lab.world, c.args.watch.now) c.run_phases-phase.result.0 last (c.run_phases-phase.new.lab.world, c.run_phases-phase.new.watch)) c.in-Ok.is c.run_phases-phase.ensures.made)) c.in_ok-noticed-in-Ok.ensures.notes)

pub returns-in_ok-noticed-in-Ok-clause-made : goal.returns-in_ok-noticed-in-Ok-clause-made
returns-in_ok-noticed-in-Ok-clause-made g c =
    let all : c.run_phases-phase.result.0 ≡ c.args.line.now.count = IfOk-at_ok (λ _. c.run_phases-phase.result.0 ≡ c.args.line.now.count) c.in-Ok.is c.run_phases-phase.ensures.all in
    let made = subst (λ (n : ℕ). AreMadePhases g.V.Observer.takes c.in-Lawful.lab.network (c.in-Lawful.lab.world, c.args.watch.now) n c.in-Ok.last (c.run_phases-phase.new.lab.world, c.run_phases-phase.new.watch)) all
    (IfOk-at_ok (λ last. AreMadePhases g.V.Observer.takes c.in-Lawful.lab.network (c.in-Lawful.lab.world, c.args.watch.now) c.run_phases-phase.result.0 last (c.run_phases-phase.new.lab.world, c.run_phases-phase.new.watch)) c.in-Ok.is c.run_phases-phase.ensures.made) in
    subst (λ (l : LabValue). AreMadeAndCounted g.V.Observer.takes g.V.Watch.notes (l, c.args.watch.now) c.args.line.now.count (c.run_phases-phase.new.lab, c.noticed.new.self)) (ap value_of (sym c.in-Lawful.is))
    (c.run_phases-phase.new.watch, c.in-Ok.last, made, c.in_ok-noticed-in-Ok.ensures.notes)

pub returns-in_ok-noticed-in-Ok-clause-heals : goal.returns-in_ok-noticed-in-Ok-clause-heals
returns-in_ok-noticed-in-Ok-clause-heals g c =
    let all : c.run_phases-phase.result.0 ≡ c.args.line.now.count = IfOk-at_ok (λ _. c.run_phases-phase.result.0 ≡ c.args.line.now.count) c.in-Ok.is c.run_phases-phase.ensures.all in
    subst (λ (l : LabValue). HealsIn l.network l.world c.args.line.now.count c.run_phases-phase.new.lab.world) (ap value_of (sym c.in-Lawful.is))
    (subst (λ (n : ℕ). HealsIn c.in-Lawful.lab.network c.in-Lawful.lab.world n c.run_phases-phase.new.lab.world) all
    (IfOk-at_ok (λ _. HealsIn c.in-Lawful.lab.network c.in-Lawful.lab.world c.run_phases-phase.result.0 c.run_phases-phase.new.lab.world) c.in-Ok.is c.run_phases-phase.ensures.heals))

pub returns-in-Err-clause-told : goal.returns-in-Err-clause-told
returns-in-Err-clause-told g c =
    told_from g.V.Watch.starts g.V.Observer.takes g.V.Observer.fails g.V.Watch.notes (Err c.stop_at.result) (Some (value_of c.args.self.now.site)) (Some c.in-Lawful.lab) c.args.watch.now (Some c.run_phases-phase.new.lab, c.run_phases-phase.new.watch) (ap Some (ap value_of c.in-Lawful.is))
    (phases_stopped g.V.Watch.starts g.V.Observer.takes g.V.Observer.fails g.V.Watch.notes c.in-Lawful.lab c.run_phases-phase.new.lab c.args.watch.now c.run_phases-phase.new.watch c.run_phases-phase.result.0 c.in-Err.why c.stop_at.result c.run_phases-phase.ensures.network c.stop_at.ensures
    (IfErr-at_err (λ e. AreMadeInPart g.V.Observer.takes g.V.Observer.fails c.in-Lawful.lab.network (c.in-Lawful.lab.world, c.args.watch.now) c.run_phases-phase.result.0 e (c.run_phases-phase.new.lab.world, c.run_phases-phase.new.watch)) c.in-Err.is c.run_phases-phase.ensures.stopped))

pub returns-in_ok-noticed-in-Ok-clause-done : goal.returns-in_ok-noticed-in-Ok-clause-done
returns-in_ok-noticed-in-Ok-clause-done g c =
    subst (λ (l : LabValue). HasDone (EndsInPhases c.args.line.now.count) g.V.Watch.starts g.V.Observer.takes g.V.Watch.notes (Some l, c.args.watch.now) (Some c.run_phases-phase.new.lab, c.noticed.new.self)) (ap value_of (sym c.in-Lawful.is))
    (counted_done g.V.Watch.starts g.V.Observer.takes g.V.Observer.fails g.V.Watch.notes (Some c.in-Lawful.lab, c.args.watch.now) (Some c.run_phases-phase.new.lab) c.run_phases-phase.new.watch c.noticed.new.self c.args.line.now.count c.in-Ok.last (phases_told g.V.Watch.starts g.V.Observer.takes g.V.Observer.fails g.V.Watch.notes c.in-Lawful.lab c.run_phases-phase.new.lab c.args.watch.now c.run_phases-phase.new.watch c.run_phases-phase.result.0 c.in-Ok.last c.run_phases-phase.ensures.network (IfOk-at_ok (λ last. AreMadePhases g.V.Observer.takes c.in-Lawful.lab.network (c.in-Lawful.lab.world, c.args.watch.now) c.run_phases-phase.result.0 last (c.run_phases-phase.new.lab.world, c.run_phases-phase.new.watch)) c.in-Ok.is c.run_phases-phase.ensures.made)) c.in_ok-noticed-in-Ok.ensures.notes)
