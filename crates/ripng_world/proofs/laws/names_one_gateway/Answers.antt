use Rattle.ripng_world.proofs.RoundNeighbors.{one_first_hop}
use Rattle.ripng_world.proofs.laws.names_one_gateway.Goals as goal

pub returns : goal.returns
returns c = one_first_hop
