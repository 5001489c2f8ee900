use Rattle.ripng_world.proofs.RoundRuns.{run_on}
use Rattle.ripng_world.proofs.laws.runs_go_on.Goals as goal

pub returns : goal.returns
returns c = λ net events later w mid end first rest. run_on net events later w mid end first rest
