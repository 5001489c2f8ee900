use Rattle.std.proofs.Common.{◌≤◌, rules, subst, arith}
use Rattle.prefix6.specs.Prefix.{IsPrefix}
use Rattle.prefix6.proofs.PrefixSets.{is_prefix_at}
use Rattle.prefix6.proofs.prefix.Prefix.meet.Goals as goal

pub invariant_of-result : goal.invariant_of-result
invariant_of-result c =
    let short : c.args.self.now.len ≤ 128 = (subst IsPrefix c.self.view_is c.self.invariant).short in
    is_prefix_at c.args.self.now.addr _ _ (search rules) (omega (arith, short, c.loop-other.invariant.0)) (search rules)
