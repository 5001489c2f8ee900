use Rattle.router_core.proofs.NoFilters.{refuses_nothing}
use Rattle.router_core.proofs.laws.nothing_is_refused.Goals as goal

pub returns : goal.returns
returns c = refuses_nothing
