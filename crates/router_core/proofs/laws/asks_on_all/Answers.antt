use Rattle.router_core.proofs.ListLaws.{starts_as_ever, asked_as_ever}
use Rattle.router_core.proofs.laws.asks_on_all.Goals as goal

pub returns-clause-starts : goal.returns-clause-starts
returns-clause-starts c = λ config no_passive. starts_as_ever config no_passive

pub returns-clause-one : goal.returns-clause-one
returns-clause-one c = λ config iface no_passive. asked_as_ever config no_passive iface
