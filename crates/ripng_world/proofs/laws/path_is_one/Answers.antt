use Rattle.ripng_world.proofs.PathEnds.{one_path}
use Rattle.ripng_world.proofs.laws.path_is_one.Goals as goal

pub returns : goal.returns
returns c = λ net fibs addr router path other distinct is is'. one_path net fibs addr distinct router path other is is'
