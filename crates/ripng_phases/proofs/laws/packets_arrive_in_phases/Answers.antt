use Rattle.ripng_phases.proofs.Healing.{arrive_in_phases}
use Rattle.ripng_phases.proofs.laws.packets_arrive_in_phases.Goals as goal

pub returns : goal.returns
returns c = arrive_in_phases
