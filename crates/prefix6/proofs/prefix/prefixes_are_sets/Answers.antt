use Rattle.prefix6.proofs.PrefixSets.{is_cleared, holds_own, is_the_one, same_sets}
use Rattle.prefix6.proofs.prefix.prefixes_are_sets.Goals as goal

pub returns-clause-cleared_is : goal.returns-clause-cleared_is
returns-clause-cleared_is c = λ a len low short. (is_cleared a len low short, holds_own a len low)

pub returns-clause-only : goal.returns-clause-only
returns-clause-only c = is_the_one

pub returns-clause-same : goal.returns-clause-same
returns-clause-same c = same_sets
