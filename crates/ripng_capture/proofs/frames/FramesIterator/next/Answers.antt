use Rattle.ripng_capture.proofs.Standing.{gives_error}
use Rattle.ripng_capture.proofs.frames.FramesIterator.next.Goals as goal

pub returns-in-Err-clause-steps : goal.returns-in-Err-clause-steps
returns-in-Err-clause-steps c = gives_error _ _
