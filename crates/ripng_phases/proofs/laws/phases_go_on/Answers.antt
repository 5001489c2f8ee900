use Rattle.ripng_phases.proofs.Runs.{phases_first}
use Rattle.ripng_phases.proofs.laws.phases_go_on.Goals as goal

pub returns : goal.returns
returns c = λ net phases later w w' is. phases_first net phases later _ w w' is
