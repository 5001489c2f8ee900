use Rattle.router_core.proofs.Reasons.{adopted_is}
use Rattle.router_core.proofs.laws.adopted_by_row.Goals as goal

pub returns : goal.returns
returns c = λ g held o. adopted_is g o held
