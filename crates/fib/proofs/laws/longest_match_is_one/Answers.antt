use Rattle.fib.proofs.LongestMatch.{one_longest}
use Rattle.fib.proofs.laws.longest_match_is_one.Goals as goal

pub returns : goal.returns
returns c = one_longest
