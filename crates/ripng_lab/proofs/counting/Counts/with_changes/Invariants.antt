use Rattle.std.proofs.Common.{◌≡◌, drop}
use Rattle.ripng_lab.specs.Counting.{counted_changes}
use Rattle.ripng_lab.proofs.counting.Counts.with_changes.Given as goal

abbrev pub invariant-loop-change : goal.invariant-loop-change
invariant-loop-change l =
    counted_changes l.router l.at (drop l.change-index l.changes) l.counts ≡ counted_changes l.router l.at l.changes l.fn.self
