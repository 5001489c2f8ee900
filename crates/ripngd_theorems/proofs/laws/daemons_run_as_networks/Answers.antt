use Rattle.ripngd_theorems.proofs.Running.{run_of}
use Rattle.ripngd_theorems.proofs.laws.daemons_run_as_networks.Goals as goal

pub returns : goal.returns
returns c = run_of
