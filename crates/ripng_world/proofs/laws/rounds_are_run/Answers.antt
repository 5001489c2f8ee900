use Rattle.ripng_world.proofs.RoundRuns.{rounds_run}
use Rattle.ripng_world.proofs.laws.rounds_are_run.Goals as goal

pub returns : goal.returns
returns c = λ net rounds w w' run. rounds_run net rounds w w' run
