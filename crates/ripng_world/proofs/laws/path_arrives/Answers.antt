use Rattle.ripng_world.proofs.PathEnds.{is_delivered, passes_once}
use Rattle.ripng_world.proofs.laws.path_arrives.Goals as goal

pub returns-clause-delivered : goal.returns-clause-delivered
returns-clause-delivered c = is_delivered

pub returns-clause-once : goal.returns-clause-once
returns-clause-once c = passes_once
