use Rattle.std.proofs.Common.{◌≡◌, [], drop}
use Rattle.std.specs.Prelude.{fold}
use Rattle.ripng_lab_numbers.specs.Numbers.{with_sent}
use Rattle.ripng_lab_numbers.proofs.cells.Cells.started.Given as goal

abbrev pub invariant-loop-datagram : goal.invariant-loop-datagram
invariant-loop-datagram l =
    (l.cells.layout ≡ l.fn.layout)
    × (fold (with_sent l.fn.layout l.now) l.cells.counts.items (drop l.datagram-index l.sent) ≡ fold (with_sent l.fn.layout l.now) [] l.sent)
