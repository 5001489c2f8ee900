use Rattle.ripngd_theorems.proofs.Truth.{route_backed, route_least, route_backed_fixed, route_least_fixed, follows, entry_backed, told_true}
use Rattle.ripngd_theorems.proofs.laws.daemons_invent_no_distance.Goals as goal

pub returns-clause-backed : goal.returns-clause-backed
returns-clause-backed c = route_backed

pub returns-clause-least : goal.returns-clause-least
returns-clause-least c = route_least

pub returns-clause-backed_fixed : goal.returns-clause-backed_fixed
returns-clause-backed_fixed c = route_backed_fixed

pub returns-clause-least_fixed : goal.returns-clause-least_fixed
returns-clause-least_fixed c = route_least_fixed

pub returns-clause-forwards : goal.returns-clause-forwards
returns-clause-forwards c = follows

pub returns-clause-entries : goal.returns-clause-entries
returns-clause-entries c = entry_backed

pub returns-clause-told : goal.returns-clause-told
returns-clause-told c = told_true
