use Rattle.std.proofs.Common.{◌≤◌, length}
use Rattle.ripng_capture.specs.Found.{IsTail}
use Rattle.ripng_capture.proofs.frames.FramesIterator.next.Given as goal

-- what is left is the end of what was left
abbrev pub invariant-loop-self : goal.invariant-loop-self
invariant-loop-self l = IsTail l.fn.self l.self × (length l.self ≤ length l.fn.self)

abbrev pub decreases-loop-self : goal.decreases-loop-self
decreases-loop-self l = length l.self
