use Rattle.router_core.proofs.Counting.{brought_is_held}
use Rattle.router_core.proofs.laws.brought_is_held.Goals as goal

pub returns : goal.returns
returns c = brought_is_held
