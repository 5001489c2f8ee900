use Rattle.std.proofs.Common.{length}
use Rattle.ripng_capture.specs.Found.{IsTail}
use Rattle.ripng_capture.proofs.frame.upper_layer.Given as goal

-- what is left stands at the end of the whole
abbrev pub invariant-loop-next : goal.invariant-loop-next
invariant-loop-next l = IsTail l.body l.left

abbrev pub decreases-loop-next : goal.decreases-loop-next
decreases-loop-next l = length l.left
