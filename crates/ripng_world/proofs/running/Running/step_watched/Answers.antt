use Rattle.std.proofs.Common.{[], ◌∷◌, ap, length}
use Rattle.ripng_world.specs.Events.{event_of}
use Rattle.ripng_world.specs.Labs.{LabValue}
use Rattle.ripng_world.specs.World.{World}
use Rattle.ripng_world.specs.declared.watch.Stopped.TheVariants.{Refused}
use Rattle.ripng_world.proofs.Watched.{failed_one, given_told, handed_on, in_whole, none_yet}
use Rattle.ripng_world.proofs.running.Running.step_watched.Goals as goal

pub returns-in_err-answer-clause-stopped : goal.returns-in_err-answer-clause-stopped
returns-in_err-answer-clause-stopped g c =
    handed_on c.from_residual.result (Refused c.in_err-answer.field-0.0) _ c.from_residual.ensures.1
    (none_yet g.V.Observer.takes g.V.Observer.fails c.args.self.now.network (event_of c.args.event.now ∷ []) (c.args.self.now.world, c.args.watch.now) (c.step.new.self.world, c.args.watch.now)
    (ap (λ (l : LabValue). (l.world, c.args.watch.now)) c.in_err-answer.ensures.ends.unchanged))

pub returns-in-Err-clause-stopped : goal.returns-in-Err-clause-stopped
returns-in-Err-clause-stopped g c =
    let e = event_of c.args.event.now in
    let h = c.in_ok-answer.ensures.happens in
    let before : World × _ = (c.args.self.now.world, c.args.watch.now) in
    let after : World × _ = (c.step.new.self.world, c.happened.new.self) in
    in_whole g.V.Observer.takes g.V.Observer.fails 1 c.args.self.now.network (e ∷ []) before after
    (failed_one g.V.Observer.takes g.V.Observer.fails c.args.self.now.network e h.0 before after h.1
    (given_told g.V.Observer.fails c.args.self.now c.step.new.self e c.in_ok-answer.answer _ c.args.watch.now c.happened.new.self h c.in_ok-answer.ensures.network (ap length c.sent-first.ensures) c.in-Err.ensures.fails))
