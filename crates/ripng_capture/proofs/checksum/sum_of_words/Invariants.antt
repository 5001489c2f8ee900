use Rattle.std.proofs.Common.{◌≡◌, ◌≤◌, length, ◌+◌, ◌*◌}
use Rattle.ripng_capture.specs.Checksum.{word_sum}
use Rattle.ripng_capture.proofs.checksum.sum_of_words.Given as goal

-- the sum so far, and that of what is left, is the whole; and no word is above 65535
abbrev pub invariant-loop-left : goal.invariant-loop-left
invariant-loop-left l = (l.sum + word_sum l.left ≡ word_sum l.bytes) × (l.sum + 65535 * length l.left ≤ 65535 * length l.bytes)

abbrev pub decreases-loop-left : goal.decreases-loop-left
decreases-loop-left l = length l.left
