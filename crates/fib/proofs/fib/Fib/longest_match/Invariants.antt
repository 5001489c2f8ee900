use Rattle.std.proofs.Common.{◌≤◌}
use Rattle.prefix6.specs.Prefix.{Prefix6, IsPrefix, Holds}
use Rattle.fib.specs.Forwarding.{IsMatch}
use Rattle.fib.proofs.fib.Fib.longest_match.Given as goal

abbrev pub invariant-loop-entry : goal.invariant-loop-entry
invariant-loop-entry l = record {
  is_prefix : IsPrefix l.bound;
  holds : Holds l.bound l.fn.addr;
  longest : (p : Prefix6) → IsMatch l.self l.fn.addr p → p.len ≤ l.bound.len;
}

abbrev pub decreases-loop-entry : goal.decreases-loop-entry
decreases-loop-entry l = l.bound.len
