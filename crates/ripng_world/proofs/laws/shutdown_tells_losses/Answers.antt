use Rattle.ripng_world.proofs.Shutdown.{shutdown_tells_losses}
use Rattle.ripng_world.proofs.laws.shutdown_tells_losses.Goals as goal

pub returns : goal.returns
returns c = shutdown_tells_losses
