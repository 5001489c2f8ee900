use Rattle.ripng_world.specs.Healing.{network_now}
use Rattle.ripngd_theorems.specs.Links.{past_of_daemons}
use Rattle.ripngd_runs.specs.Dated.{daemons_of}
use Rattle.ripngd_runs.proofs.Dating.{holds_least, last_is, last_of}
use Rattle.ripngd_runs.proofs.laws.programs_heal.Goals as goal

pub returns : goal.returns
returns c = λ net runs before daemons history start stop is_network loud fits so late router low.
    let up = c.daemons_heal.ensures.up net before daemons (daemons_of runs) history start stop is_network loud so.ran fits so.go_on so.on_time late router low in
    let last = last_of runs router up.0 up.1 in
    let is = last_is runs router last.0 last.1 in (
      last.0,
      last.1,
      holds_least (network_now (past_of_daemons net before)) router last.0
          (c.daemons_heal.ensures.healed net before daemons (daemons_of runs) history start stop is_network loud so.ran fits so.go_on so.on_time late
          router last.0.now.machine low is)
          (c.daemons_heal.ensures.forwards net before daemons (daemons_of runs) history start stop is_network loud so.ran fits so.go_on so.on_time late
          router last.0.now.machine low is),
    )
