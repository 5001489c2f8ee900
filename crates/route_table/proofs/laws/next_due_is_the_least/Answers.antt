use Rattle.route_table.proofs.NextDue.{least_of_next, none_due}
use Rattle.route_table.proofs.FirstDue.{next_is_first, none_ages}
use Rattle.route_table.proofs.laws.next_due_is_the_least.Goals as goal

pub returns-clause-least : goal.returns-clause-least
returns-clause-least c = least_of_next

pub returns-clause-idle : goal.returns-clause-idle
returns-clause-idle c = none_due

pub returns-clause-first : goal.returns-clause-first
returns-clause-first c = next_is_first

pub returns-clause-none : goal.returns-clause-none
returns-clause-none c = none_ages
