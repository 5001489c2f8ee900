-- Which of several phases was the last in which some table changed.
use Rattle.std.specs.Prelude.{◌≡◌, ◌≢◌, ℕ, suc, zero, ◌<◌, Bool, if◌then◌else◌, List, [], ◌++◌, map, take, length, Option, Some, None, slice_get}
use Rattle.ripng_phases.specs.Below.{Prefix6, RouteValue, State, Network, World, ShownRoute}
use Rattle.std.specs.FinMap as map_of
use Rattle.ripng_phases.specs.Phases.{Step, reached, steps_of}

-- what is shown of a route of a router: all but its clock and its route change flag
abbrev pub shown_route : ℕ → Prefix6 × RouteValue → ShownRoute
shown_route router x = record { router = router; prefix = x.0; metric = x.1.metric; tag = x.1.tag; origin = x.1.origin }

-- what is shown of the table of a router, if there is such a router
abbrev pub shown_table : ℕ → Option State → List ShownRoute
shown_table router None = []
shown_table router (Some s) = map (shown_route router) (map_of.entries s.table)

-- what is shown of the tables of the first n routers, router by router
abbrev pub shown_below : List State → ℕ → List ShownRoute
shown_below states zero = []
shown_below states (suc n) = shown_below states n ++ shown_table n (slice_get states n)

-- what is shown of all tables of a network
abbrev pub shown_in : Network → World → List ShownRoute
shown_in net w = shown_below w.states (length net)

-- what is shown once the first `count` phases are over
abbrev pub shown_after : Network → World → List (List Step) → ℕ → List ShownRoute
shown_after net w phases count = shown_in net (reached w (steps_of (take count phases)))

-- the table of some router is another at the end of a phase than it was at its beginning; phases are numbered from 0
abbrev pub ChangesIn : Network → World → List (List Step) → ℕ → Type 0
ChangesIn net w phases phase = shown_after net w phases (suc phase) ≢ shown_after net w phases phase

-- the last phase in which some table changes, or none if no table does
abbrev pub IsLastChange : Network → World → List (List Step) → Option ℕ → Type 0
IsLastChange net w phases None = (phase : ℕ) → phase < length phases → shown_after net w phases (suc phase) ≡ shown_after net w phases phase
IsLastChange net w phases (Some last) =
    (last < length phases) × ChangesIn net w phases last
    × ((phase : ℕ) → last < phase → phase < length phases → shown_after net w phases (suc phase) ≡ shown_after net w phases phase)

-- the last change once one more phase is made, which changes no table or does
abbrev pub last_change : Option ℕ → Bool → ℕ → Option ℕ
last_change last stays phase = if stays then last else Some phase
