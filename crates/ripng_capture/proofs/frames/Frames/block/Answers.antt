use Rattle.ripng_capture.proofs.Standing.{has_frame_through}
use Rattle.ripng_capture.proofs.frames.Frames.block.Goals as goal

pub returns-clause-part : goal.returns-clause-part
returns-clause-part c = rw (← c.self.view_is) (has_frame_through _ _ c.part.result c.in_ok-block.ensures.stands c.part.ensures)
