use Rattle.router_core.proofs.Counting.{limit_kept}
use Rattle.router_core.proofs.laws.limit_holds.Goals as goal

pub returns : goal.returns
returns c = limit_kept
