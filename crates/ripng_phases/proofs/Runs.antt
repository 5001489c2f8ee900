-- Phases are a run of their events, and may be cut anywhere.
use Rattle.std.proofs.Common.{◌≡◌, List, [], ◌∷◌, ◌++◌, refl, sym, ap, subst, ◌∙◌}
use Rattle.ripng_world.specs.Network.{Network}
use Rattle.ripng_world.specs.World.{World, Event, WorldRun}
use Rattle.ripng_phases.specs.Phases.{Step, Takes, Before, PhasesAfter, before_next, steps_of, events_of, reached}

-- one run after another
pub run_on : (net : Network) (es fs : List Event) (w mid w' : World) → WorldRun net w es mid → WorldRun net mid fs w' → WorldRun net w (es ++ fs) w'
run_on net [] fs w mid w' first rest = subst (λ v. WorldRun net v fs w') first rest
run_on net (e ∷ es) fs w mid w' first rest = (first.0, first.1, first.2, run_on net es fs first.0 mid w' first.3 rest)

-- steps are a run of their events
pub takes_run : (net : Network) (steps : List Step) (w w' : World) → Takes net w steps w' → WorldRun net w (events_of steps) w'
takes_run net [] w w' is = is
takes_run net (s ∷ steps) w w' is = (s.after, s.answer, is.1, takes_run net steps s.after w' is.3)

-- steps after steps
pub takes_on : (net : Network) (steps later : List Step) (w mid w' : World) → Takes net w steps mid → Takes net mid later w' → Takes net w (steps ++ later) w'
takes_on net [] later w mid w' first rest = subst (λ v. Takes net v later w') first rest
takes_on net (s ∷ steps) later w mid w' first rest = (first.0, first.1, first.2, takes_on net steps later s.after mid w' first.3 rest)

-- steps lead to the world that they reach
pub takes_reached : (net : Network) (steps : List Step) (w w' : World) → Takes net w steps w' → w' ≡ reached w steps
takes_reached net [] w w' is = is
takes_reached net (s ∷ steps) w w' is = takes_reached net steps s.after w' is.3

-- the first of them lead to the world that these reach
pub takes_first : (net : Network) (steps later : List Step) (w w' : World) → Takes net w (steps ++ later) w' → Takes net w steps (reached w steps)
takes_first net [] later w w' is = refl
takes_first net (s ∷ steps) later w w' is = (is.0, is.1, is.2, takes_first net steps later s.after w' is.3)

-- and the others lead on from there
pub takes_rest : (net : Network) (steps later : List Step) (w w' : World) → Takes net w (steps ++ later) w' → Takes net (reached w steps) later w'
takes_rest net [] later w w' is = is
takes_rest net (s ∷ steps) later w w' is = takes_rest net steps later s.after w' is.3

-- what is reached by steps after steps
pub reached_on : (steps later : List Step) (w : World) → reached w (steps ++ later) ≡ reached (reached w steps) later
reached_on [] later w = refl
reached_on (s ∷ steps) later w = reached_on steps later s.after

-- phases are steps
pub phases_take : (net : Network) (phases : List (List Step)) (past : Before) (w w' : World) → PhasesAfter net past w phases w' → Takes net w (steps_of phases) w'
phases_take net [] past w w' is = is
phases_take net (steps ∷ phases) past w w' is =
    takes_on net steps (steps_of phases) w is.0 w' is.1.takes (phases_take net phases (before_next w steps) is.0 w' is.2)

-- the first of phases are phases
pub phases_first : (net : Network) (phases later : List (List Step)) (past : Before) (w w' : World) → PhasesAfter net past w (phases ++ later) w'
    → PhasesAfter net past w phases (reached w (steps_of phases))
phases_first net [] later past w w' is = refl
phases_first net (steps ∷ phases) later past w w' is =
    let same = takes_reached net steps w is.0 is.1.takes in
    let end_is = ap (λ v. reached v (steps_of phases)) same ∙ sym (reached_on steps (steps_of phases) w) in
    (is.0, is.1, subst (λ v. PhasesAfter net (before_next w steps) is.0 phases v) end_is (phases_first net phases later (before_next w steps) is.0 w' is.2))

-- the run up to a moment of phases
pub run_until : (net : Network) (phases : List (List Step)) (before after : List Step) (past : Before) (w w' : World) → PhasesAfter net past w phases w'
    → steps_of phases ≡ before ++ after → WorldRun net w (events_of before) (reached w before)
run_until net phases before after past w w' is parts =
    takes_run net before w (reached w before)
    (takes_first net before after w w' (subst (λ steps. Takes net w steps w') parts (phases_take net phases past w w' is)))
