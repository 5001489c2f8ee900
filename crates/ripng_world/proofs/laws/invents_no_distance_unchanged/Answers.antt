use Rattle.ripng_world.specs.Truth.{IsSoundDatagram}
use Rattle.ripng_world.specs.TruthSince.{IsSoundDatagramSince}
use Rattle.ripng_world.specs.World.{past_of}
use Rattle.ripng_world.proofs.Each.{each_weaker}
use Rattle.ripng_world.proofs.Growing.{backed_first}
use Rattle.ripng_world.proofs.WorldRuns.{run_from_cold}
use Rattle.ripng_world.proofs.Unchanged.{truth_first}
use Rattle.ripng_world.proofs.laws.invents_no_distance_unchanged.Goals as goal

pub returns-clause-backed : goal.returns-clause-backed
returns-clause-backed c = λ net moments events cold w owns is run unchanged router state here p r at low.
    backed_first (past_of net w) unchanged router p r ((((run_from_cold net owns moments events cold w is run).states_good router state here).sound p r at).backed low)

pub returns-clause-least : goal.returns-clause-least
returns-clause-least c = λ net moments events cold w owns is run unchanged router state p r metric here at low least.
    let b = backed_first (past_of net w) unchanged router p r ((((run_from_cold net owns moments events cold w is run).states_good router state here).sound p r at).backed low) in
    least.least r.metric r.tag b.0 b.1

pub returns-clause-sent : goal.returns-clause-sent
returns-clause-sent c = λ net moments events cold w owns is run unchanged.
    each_weaker (λ d. IsSoundDatagram net d.router d.bytes) (λ d. IsSoundDatagramSince (past_of net w) d.router d.bytes)
    (λ d. truth_first (past_of net w) unchanged d.router d.bytes) w.sent (run_from_cold net owns moments events cold w is run).sent_true
