use Rattle.ripng_capture.proofs.Standing.{has_frame}
use Rattle.ripng_capture.proofs.frames.Frames.old_packet.Goals as goal

pub returns : goal.returns
returns c = has_frame c.args.body.now c.in_ok-bytes.bytes.now c.frame.result c.in_ok-bytes.ensures.stands c.frame.ensures
