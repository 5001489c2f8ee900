use Rattle.ripngd_theorems.proofs.Healing.{daemon_forwards, daemon_healed, daemon_up}
use Rattle.ripngd_theorems.proofs.Staying.{goes_until, on_time_until}
use Rattle.ripngd_theorems.proofs.laws.daemons_heal.Goals as goal

pub returns-clause-healed : goal.returns-clause-healed
returns-clause-healed c = λ net before daemons daemons' history start stop is_net noisy ran fits go on_time late.
    daemon_healed net before daemons history start stop daemons' is_net noisy ran fits go on_time late

pub returns-clause-forwards : goal.returns-clause-forwards
returns-clause-forwards c = λ net before daemons daemons' history start stop is_net noisy ran fits go on_time late.
    daemon_forwards net before daemons history start stop daemons' is_net noisy ran fits go on_time late

pub returns-clause-up : goal.returns-clause-up
returns-clause-up c = λ net before daemons daemons' history start stop is_net noisy ran fits go on_time late.
    daemon_up net before daemons history start stop daemons' is_net noisy ran fits go on_time late

pub returns-clause-stays : goal.returns-clause-stays
returns-clause-stays c = λ net before daemons now daemons' early late start until stop is_net noisy ran fits go on_time long within by_then from_then first rest router m low up.
    let g = goes_until net before daemons early late start until stop daemons' now go on_time within by_then from_then first rest in
    let l = on_time_until net before daemons early late start until stop daemons' now go on_time within by_then from_then first rest in (
      daemon_healed net before daemons early start until now is_net noisy ran fits g l long router m low up,
      daemon_forwards net before daemons early start until now is_net noisy ran fits g l long router m low up,
    )
