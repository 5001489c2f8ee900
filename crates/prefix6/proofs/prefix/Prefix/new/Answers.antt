use Rattle.std.proofs.Common.{rules, arith}
use Rattle.prefix6.proofs.PrefixSets.{is_prefix_at}
use Rattle.prefix6.proofs.prefix.Prefix.new.Goals as goal

pub invariant_of-result : goal.invariant_of-result
invariant_of-result c = is_prefix_at c.args.addr _ _ (search rules) (omega arith) (search rules)

pub returns-clause-prefix : goal.returns-clause-prefix
returns-clause-prefix c = is_prefix_at c.args.addr _ _ (search rules) (omega arith) (search rules)
