use Rattle.ripngd_runs.specs.Dated.{daemons_of}
use Rattle.ripngd_runs.proofs.laws.programs_deliver.Goals as goal

pub returns : goal.returns
returns c = λ net runs before daemons history start stop is_network loud fits so late going.
    c.daemons_deliver.ensures.deliver net before daemons (daemons_of runs) history start stop is_network loud so.ran fits so.go_on so.on_time late going
