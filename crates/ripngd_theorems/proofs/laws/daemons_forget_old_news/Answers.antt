use Rattle.std.proofs.Common.{◌++◌, refl}
use Rattle.ripngd_theorems.proofs.Anyhow.{goes_anyhow}
use Rattle.ripngd_theorems.proofs.Forgetting.{daemon_backed, daemon_by_age, daemon_by_metric}
use Rattle.ripngd_theorems.proofs.laws.daemons_forget_old_news.Goals as goal

pub returns-clause-by_metric : goal.returns-clause-by_metric
returns-clause-by_metric c = λ net before daemons daemons' history start stop is_net ran go router m p r low up awake at below late.
    daemon_by_metric net before daemons history start daemons' is_net ran go stop router m p r low up awake at below late

pub returns-clause-by_age : goal.returns-clause-by_age
returns-clause-by_age c = λ net before daemons daemons' early late start from stop is_net ran go begun soon after router m p r low up awake at below long.
    daemon_by_age net before daemons (early ++ late) start daemons' is_net ran go early late from refl begun soon after stop router m p r low up awake at below long

pub returns-clause-backed : goal.returns-clause-backed
returns-clause-backed c = λ net before daemons daemons' history start stop is_net ran go late router m p f low up going awake at.
    daemon_backed net before daemons history start daemons' is_net ran go stop router m p f late low up going awake at

pub returns-clause-gone : goal.returns-clause-gone
returns-clause-gone c = λ net before daemons daemons' history start stop is_net ran go late router m p f low up going awake none at.
    let b = daemon_backed net before daemons history start daemons' is_net ran go stop router m p f late low up going awake at in
    none _ b.0.tag b.3.1.owner

pub returns-clause-weaker : goal.returns-clause-weaker
returns-clause-weaker c = λ net before daemons daemons' history start stop go on_time. goes_anyhow net before daemons history start stop daemons' go on_time
