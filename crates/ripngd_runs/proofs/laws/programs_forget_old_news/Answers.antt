use Rattle.std.proofs.Common.{None, ◌<◌, arith}
use Rattle.ripngd_theorems.specs.Ages.{past_since}
use Rattle.ripngd_runs.specs.Dated.{daemons_of}
use Rattle.ripngd_runs.proofs.Dating.{has_no_entry, holds_walks, last_is, lives_of, ordered_deeds}
use Rattle.ripngd_runs.proofs.laws.programs_forget_old_news.Goals as goal

pub returns-clause-backed : goal.returns-clause-backed
returns-clause-backed c = λ net runs before daemons history start stop is_network so late router run low last awake.
    holds_walks (past_since net before history) router run
    (λ p r here under. let low16 : r.metric < 16 = under in
    c.daemons_forget_old_news.ensures.by_metric net before daemons (daemons_of runs) history start stop is_network so.ran so.go_on
    router run.now.machine p r low (last_is runs router run last) awake here under (omega (arith, late, low16)))
    (λ p f going here. c.daemons_forget_old_news.ensures.backed net before daemons (daemons_of runs) history start stop is_network so.ran so.go_on (omega (arith, late))
    router run.now.machine p f low (last_is runs router run last) going awake here)

pub returns-clause-by_metric : goal.returns-clause-by_metric
returns-clause-by_metric c = λ net runs before daemons history start stop is_network so router run p r low last awake here under old.
    c.daemons_forget_old_news.ensures.by_metric net before daemons (daemons_of runs) history start stop is_network so.ran so.go_on
    router run.now.machine p r low (last_is runs router run last) awake here under old

pub returns-clause-gone : goal.returns-clause-gone
returns-clause-gone c = λ net runs before daemons history start stop is_network so late router run p low last awake unowned.
    has_no_entry p run
    (λ f going here. c.daemons_forget_old_news.ensures.gone net before daemons (daemons_of runs) history start stop is_network so.ran so.go_on late
    router run.now.machine p f low (last_is runs router run last) going awake unowned here)

pub returns-clause-ordered : goal.returns-clause-ordered
returns-clause-ordered c = λ net runs before daemons history start so. ordered_deeds net runs before history so.ran.known so.go_on.known so.deeds

pub returns-clause-lives : goal.returns-clause-lives
returns-clause-lives c = λ config runs turn. lives_of config None runs turn
