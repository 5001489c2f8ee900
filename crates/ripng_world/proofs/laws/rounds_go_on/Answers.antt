use Rattle.ripng_world.proofs.RoundRuns.{rounds_on}
use Rattle.ripng_world.proofs.laws.rounds_go_on.Goals as goal

pub returns : goal.returns
returns c = λ net rounds later w mid end first rest. rounds_on net rounds later w mid end first rest
