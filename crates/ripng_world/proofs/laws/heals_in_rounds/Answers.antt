use Rattle.ripng_world.proofs.Healed.{heals_after}
use Rattle.ripng_world.proofs.laws.heals_in_rounds.Goals as goal

pub returns : goal.returns
returns c = heals_after
