use Rattle.route_table.specs.Route.{infinity}
use Rattle.std.proofs.Common.{ℕ, ◌+◌, ◌*◌, ◌++◌, refl, ◌≤◌, ◌<◌, ◌⊎◌, inl, inr, arith}
use Rattle.ripng_phases.specs.Minutes.{untimed}
use Rattle.ripng_phases.specs.Phases.{events_of, reached}
use Rattle.ripng_phases.proofs.Ages.{backed, by_metric}
use Rattle.ripng_phases.proofs.Births.{lead_here}
use Rattle.ripng_phases.proofs.Leading.{lead_run}
use Rattle.ripng_phases.proofs.Runs.{run_on}
use Rattle.ripng_phases.proofs.Sliding.{awake_from, recent_from, recent_until}
use Rattle.ripng_phases.proofs.laws.forgets_old_news.Goals as goal

split : (a b : ℕ) → (b ≤ a) ⊎ (a < b)
split a b = grind arith

pub returns-clause-by_metric : goal.returns-clause-by_metric
returns-clause-by_metric c = λ net moments events history start stop cold w end is_net is run recent router state p r at awake is_route low late.
    by_metric net is_net moments events cold w is run history start end recent stop router state p r at (λ some. awake) is_route low late

pub returns-clause-backed : goal.returns-clause-backed
returns-clause-backed c = λ net moments events history start stop cold w end is_net is run recent late router state at awake p r is_route low.
    backed net is_net moments events cold w is run history start end recent stop router state p r late at awake is_route low

pub returns-clause-least : goal.returns-clause-least
returns-clause-least c = λ net moments events history start stop cold w end is_net is run recent late router state p r metric at awake is_route low least.
    let b = backed net is_net moments events cold w is run history start end recent stop router state p r late at awake is_route low in
    least.least r.metric r.tag b.0 b.1

pub returns-clause-gone : goal.returns-clause-gone
returns-clause-gone c = λ net moments events history start stop cold w end is_net is run recent late router state p r at awake none is_route.
    elim (split r.metric infinity) [
      | inl out ↦ out
      | inr low ↦ let b = backed net is_net moments events cold w is run history start end recent stop router state p r late at awake is_route low in absurd (none _ r.tag b.1.owner)
    ]

later : (s n t : ℕ) → s + n * 197_000 ≤ t → 1 ≤ n → s + 1_000 ≤ t
later s n t e f = omega arith

pub returns-clause-always : goal.returns-clause-always
returns-clause-always c = λ net moments events early between late start from until cold w end is_net is run recent begun before after router state p r at awake is_route low long.
    let mid = reached w (untimed early) in
    let first = run_on net events (events_of (untimed early)) cold w mid run
    (lead_run net (untimed early) w mid (lead_here net is_net moments events cold w is run (early ++ (between ++ late)) start end recent early (between ++ late) refl)) in
    let rest = recent_from net is_net moments events cold w is run early (between ++ late) start end recent from begun before after in
    let until_then = recent_until net is_net moments (events ++ events_of (untimed early)) cold mid is first between late from end rest in
    by_metric net is_net moments (events ++ events_of (untimed early)) cold mid is first between from (reached mid (untimed between)) until_then until router state p r at
    (λ some. awake_from net is_net moments events cold w is run early (between ++ late) start end recent from begun before after between router until (later from _ until long some) awake) is_route low long
