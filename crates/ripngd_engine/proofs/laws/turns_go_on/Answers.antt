use Rattle.ripngd_engine.proofs.Steps.{Ran-trans}
use Rattle.ripngd_engine.proofs.laws.turns_go_on.Goals as goal

pub returns : goal.returns
returns c = Ran-trans
