use Rattle.ripngd_control.specs.declared.answering.RunState.TheVariants as states
use Rattle.ripngd_control.proofs.Answered.{stops_again}
use Rattle.ripngd_control.proofs.answering.make_step.Goals as goal

pub returns-in-Ok-clause-obeys : goal.returns-in-Ok-clause-obeys
returns-in-Ok-clause-obeys g c =
    let first = c.in-Ok.ensures.shuts_down c.requires in
    rw c.in-Stop.is
    (stops_again _ _ _ c.shutdown-in-Ok.result states.Stopped _ c.step_reply.ensures first (c.shutdown-in-Ok.ensures.shuts_down first.0))
