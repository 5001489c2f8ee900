use Rattle.ripngd_theorems.proofs.Delivering.{daemons_deliver}
use Rattle.ripngd_theorems.proofs.Staying.{goes_until, on_time_until}
use Rattle.ripngd_theorems.proofs.laws.daemons_deliver.Goals as goal

pub returns-clause-deliver : goal.returns-clause-deliver
returns-clause-deliver c = λ net before daemons daemons' history start stop is_net noisy ran fits go on_time late all_go.
    daemons_deliver net before daemons history start stop daemons' is_net noisy ran fits go on_time late all_go

pub returns-clause-stays : goal.returns-clause-stays
returns-clause-stays c = λ net before daemons now daemons' early late start until stop is_net noisy ran fits go on_time long within by_then from_then first rest all_go.
    let g = goes_until net before daemons early late start until stop daemons' now go on_time within by_then from_then first rest in
    let l = on_time_until net before daemons early late start until stop daemons' now go on_time within by_then from_then first rest in
    daemons_deliver net before daemons early start until now is_net noisy ran fits g l long all_go
