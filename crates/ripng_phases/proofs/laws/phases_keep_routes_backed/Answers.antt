use Rattle.std.proofs.Common.{◌++◌}
use Rattle.ripng_world.proofs.WorldRuns.{run_from_cold}
use Rattle.ripng_phases.proofs.Runs.{run_on, run_until}
use Rattle.ripng_phases.specs.Phases.{events_of, reached}
use Rattle.ripng_phases.proofs.laws.phases_keep_routes_backed.Goals as goal

pub returns-clause-backed : goal.returns-clause-backed
returns-clause-backed c = λ net moments events phases before after cold w w' owns is run is_phases parts router state here p r at low.
    let all = run_on net events (events_of before) cold w (reached w before) run (run_until net phases before after _ w w' is_phases parts) in
    (((run_from_cold net owns moments (events ++ events_of before) cold (reached w before) is all).states_good router state here).sound p r at).backed low

pub returns-clause-sent : goal.returns-clause-sent
returns-clause-sent c = λ net moments events phases before after cold w w' owns is run is_phases parts.
    let all = run_on net events (events_of before) cold w (reached w before) run (run_until net phases before after _ w w' is_phases parts) in
    (run_from_cold net owns moments (events ++ events_of before) cold (reached w before) is all).sent_true
