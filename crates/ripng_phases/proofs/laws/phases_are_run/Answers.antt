use Rattle.ripng_phases.proofs.Runs.{takes_run, phases_take}
use Rattle.ripng_phases.specs.Phases.{steps_of}
use Rattle.ripng_phases.proofs.laws.phases_are_run.Goals as goal

pub returns : goal.returns
returns c = λ net phases w w' is. takes_run net (steps_of phases) w w' (phases_take net phases _ w w' is)
