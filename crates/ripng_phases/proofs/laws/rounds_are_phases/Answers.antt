use Rattle.ripng_phases.proofs.Rounds.{rounds_are_phases}
use Rattle.ripng_phases.proofs.laws.rounds_are_phases.Goals as goal

pub returns : goal.returns
returns c = λ net rounds w end is close. rounds_are_phases net rounds w end is close
