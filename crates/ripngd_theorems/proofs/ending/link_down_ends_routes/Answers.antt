use Rattle.ripngd_theorems.proofs.LinkDown.{none_forwarded, none_left, others_stay}
use Rattle.ripngd_theorems.proofs.ending.link_down_ends_routes.Goals as goal

pub returns-clause-none_left : goal.returns-clause-none_left
returns-clause-none_left c = none_left

pub returns-clause-none_forwarded : goal.returns-clause-none_forwarded
returns-clause-none_forwarded c = none_forwarded

pub returns-clause-others_stay : goal.returns-clause-others_stay
returns-clause-others_stay c = others_stay
