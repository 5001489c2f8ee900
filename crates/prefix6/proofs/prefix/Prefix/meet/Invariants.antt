use Rattle.std.proofs.Common.{◌≢◌, ◌≤◌, ◌<◌, ℕ}
use Rattle.prefix6.specs.Prefix.{first_bits}
use Rattle.prefix6.proofs.prefix.Prefix.meet.Given as goal

abbrev pub invariant-loop-other : goal.invariant-loop-other
invariant-loop-other l = (l.len ≤ l.self.len) × (l.len ≤ l.other.len) × ((n : ℕ) → l.len < n → n ≤ l.self.len → n ≤ l.other.len → first_bits l.self.addr n ≢ first_bits l.other.addr n)

abbrev pub decreases-loop-other : goal.decreases-loop-other
decreases-loop-other l = l.len
