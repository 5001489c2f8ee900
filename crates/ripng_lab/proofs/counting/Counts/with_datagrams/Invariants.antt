use Rattle.std.proofs.Common.{◌≡◌, drop}
use Rattle.ripng_lab.specs.Counting.{counted_datagrams}
use Rattle.ripng_lab.proofs.counting.Counts.with_datagrams.Given as goal

abbrev pub invariant-loop-number : goal.invariant-loop-number
invariant-loop-number l =
    counted_datagrams l.answers (drop l.number l.sent) l.counts ≡ counted_datagrams l.answers (drop l.first l.sent) l.fn.self
