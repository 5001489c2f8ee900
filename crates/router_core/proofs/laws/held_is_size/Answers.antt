use Rattle.router_core.proofs.HearingSteps.{size_after}
use Rattle.router_core.proofs.laws.held_is_size.Goals as goal

pub returns : goal.returns
returns c = size_after
