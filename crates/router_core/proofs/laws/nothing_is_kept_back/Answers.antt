use Rattle.router_core.proofs.ListLaws.{replies_as_ever, updates_as_ever}
use Rattle.router_core.proofs.Announced.{announced_all}
use Rattle.router_core.proofs.laws.nothing_is_kept_back.Goals as goal

pub returns-clause-announced : goal.returns-clause-announced
returns-clause-announced c = λ config iface table no_lists. announced_all config iface no_lists table

pub returns-clause-updates : goal.returns-clause-updates
returns-clause-updates c = λ config which table no_passive no_lists. updates_as_ever config no_passive no_lists table which

pub returns-clause-replies : goal.returns-clause-replies
returns-clause-replies c = λ config table arrival asked no_passive no_lists. replies_as_ever config no_passive no_lists table arrival asked
