use Rattle.ripng_world.proofs.WorldRuns.{run_from_cold, done_in_run}
use Rattle.ripng_world.proofs.laws.invents_no_distance.Goals as goal

pub returns-clause-backed : goal.returns-clause-backed
returns-clause-backed c = λ net moments events cold w owns is run router state here p r at low.
    (((run_from_cold net owns moments events cold w is run).states_good router state here).sound p r at).backed low

pub returns-clause-least : goal.returns-clause-least
returns-clause-least c = λ net moments events cold w owns is run router state p r metric here at low least.
    let b = (((run_from_cold net owns moments events cold w is run).states_good router state here).sound p r at).backed low in
    least.least r.metric r.tag b.0 b.1

pub returns-clause-sent : goal.returns-clause-sent
returns-clause-sent c = λ net moments events cold w owns is run. (run_from_cold net owns moments events cold w is run).sent_true

pub returns-clause-done : goal.returns-clause-done
returns-clause-done c = λ net moments events cold w is run. done_in_run net moments events cold w is run
