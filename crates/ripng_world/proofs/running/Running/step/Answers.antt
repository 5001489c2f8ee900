use Rattle.std.proofs.Common.{refl, sym}
use Rattle.std.proofs.lemmas.Result.{IfOk-weaker}
use Rattle.ripng_world.specs.Events.{event_of}
use Rattle.ripng_world.proofs.StationMoves.{happened, placed, refused_first, step_ends, step_refused}
use Rattle.ripng_world.proofs.running.Running.step.Goals as goal

pub act-requires : goal.act-requires
act-requires g c = placed c.args.self.now (event_of c.args.event.now) (sym c.in_ok-check.ensures)

pub returns-clause-happens : goal.returns-clause-happens
returns-clause-happens g c =
    IfOk-weaker c.act.result _ _
    (λ answer acts. (acts.answer, happened c.args.self.now answer c.act.new.self.world (event_of c.args.event.now) (sym c.in_ok-check.ensures) acts, acts.given_is)) c.act.ensures.acts

pub returns-clause-ends : goal.returns-clause-ends
returns-clause-ends g c =
    step_ends c.args.self.now c.act.new.self (event_of c.args.event.now) c.act.result (sym c.in_ok-check.ensures) c.act.ensures.acts c.act.ensures.refused c.act.ensures.err

pub returns-in_err-check-clause-ends : goal.returns-in_err-check-clause-ends
returns-in_err-check-clause-ends g c =
    let lab = c.args.self.now in
    let e = event_of c.args.event.now in
    step_refused lab lab e c.from_residual.result c.in_err-check.field-0.0 c.from_residual.ensures.1 (refused_first lab e c.in_err-check.field-0.0 (sym c.in_err-check.ensures)) refl
