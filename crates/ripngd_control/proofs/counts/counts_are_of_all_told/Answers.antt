use Rattle.ripngd_control.proofs.Counted.{Counted-all}
use Rattle.ripngd_control.proofs.counts.counts_are_of_all_told.Goals as goal

pub returns : goal.returns
returns c = Counted-all
