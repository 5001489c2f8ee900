use Rattle.router_core.proofs.OwnedStay.{moves_keep_owned, starts_owned}
use Rattle.router_core.proofs.laws.owned_routes_stay.Goals as goal

pub returns-clause-starts : goal.returns-clause-starts
returns-clause-starts c = starts_owned

pub returns-clause-moves : goal.returns-clause-moves
returns-clause-moves c = moves_keep_owned
