-- Networks in which each router is the program, by one true clock, in milliseconds, which no router sees.
--
-- What a run does is a daemon's life (`runs_are_lives`): deeds, of each of which it is known what the link gave, which moment the clock
-- gave, and what was handed to the link. Here each deed has a true time. What is asked of links, ticks and clocks is what the laws of
-- daemons ask.
use Rattle.std.specs.Prelude.{◌≡◌, ℕ, false, List, [], ◌∷◌, ◌++◌, Option, None, Some, slice_get}
use Rattle.std.specs.FinMap as map_of
use Rattle.ripngd_runs.specs.Below.{Prefix6, Forward, Network, Node, config_of, IsHealed, History, ShowsRun, Machine, all_joined, Deed, Happened, HaveRun, Dated, undated, GoOn, GoOnAnyhow, AreOnTime, ForwardsLeast, in_force, own_deeds, traces_of, Config}
use Rattle.ripngd_runs.specs.Lives.{IsLife}
use Rattle.ripngd_runs.specs.Networks.{Program}

-- ---- the deeds of runs

-- these deeds are the lives of the runs of a router, one after another. Each run starts with the configuration in force, and its life
-- has the calls of its link and the moments of its clock
abbrev pub AreLives : Config → Option Machine → List Program → List Deed → Type 0
AreLives config before [] deeds = deeds ≡ []
AreLives config before (run ∷ runs) deeds =
    (first later : List Deed) × (deeds ≡ first ++ later) × (run.router ≡ in_force config before) × IsLife config before run.order run.lines first run.now
    × (run.calls ≡ (all_joined (traces_of first)).calls) × (run.under_way.moments ≡ (all_joined (traces_of first)).moments) × AreLives config (Some run.now.machine) runs later

-- these are all deeds of the runs of a network, in an order in which they happened
abbrev pub AreDeedsOf : Network → (ℕ → List Program) → List Happened → Type 0
AreDeedsOf net runs order = (router : ℕ) (node : Node) → slice_get net router ≡ Some node → AreLives (config_of node) None (runs router) (own_deeds router order)

-- what a router is after its runs, where it was this before
abbrev pub after_runs : Option Machine → List Program → Option Machine
after_runs before [] = before
after_runs before (run ∷ runs) = after_runs (Some run.now.machine) runs

-- what each router of a network is after its runs, if there was one
abbrev pub daemons_of : (ℕ → List Program) → ℕ → Option Machine
daemons_of runs router = after_runs None (runs router)

-- ---- runs that go on from a moment

-- after all these deeds, runs go on from a moment so that whatever happens, they forget: links give nothing that was handed over 15
-- seconds before, whoever acts has ticked within a second and no tick is lost for memory, and clocks lose at most a second
pub record RunAnyhow (net : Network) (runs : ℕ → List Program) (before : List Happened) (daemons : ℕ → Option Machine) (history : List Dated) (start : ℕ) : Type 0 where
  pub deeds : AreDeedsOf net runs (before ++ undated history)
  pub ran : HaveRun net before daemons
  pub go_on : GoOnAnyhow net before daemons history start (daemons_of runs)

-- or so that they heal: none starts, stops, is changed or loses a link; each ticks every half second, and memory suffices; links keep
-- order, lose no regular update, and take less than 13 seconds
pub record RunOnTime (net : Network) (runs : ℕ → List Program) (before : List Happened) (daemons : ℕ → Option Machine) (history : List Dated) (start stop : ℕ) : Type 0 where
  pub deeds : AreDeedsOf net runs (before ++ undated history)
  pub ran : HaveRun net before daemons
  pub go_on : GoOn net before daemons history start stop (daemons_of runs)
  pub on_time : AreOnTime net before daemons history start stop

-- the last run of a router
abbrev pub IsLastRun : (ℕ → List Program) → ℕ → Program → Type 0
IsLastRun runs router run = (earlier : List Program) × (runs router ≡ earlier ++ run ∷ [])

-- ---- what runs hold

-- the run forwards no packet to the prefix, and no table that it printed has it
pub record HasNoEntry (p : Prefix6) (run : Program) : Type 0 where
  pub entries : (f : Forward) → run.now.machine.ended ≡ false → map_of.get run.now.machine.fib p ≡ Some f → ⊥
  pub printed : (history : History) (old new : Option (List ℕ)) (shows : ShowsRun run.order run.router run.rng history old new) → run.now ≡ shows.1.done
      → (f : Forward) → map_of.get shows.0 p ≡ Some f → ⊥

-- the run holds, forwards by and prints exactly the least costs
pub record HoldsLeast (net : Network) (router : ℕ) (run : Program) : Type 0 where
  pub routes : IsHealed net router run.now.machine.router.table
  pub entries : run.now.machine.ended ≡ false → ForwardsLeast net router run.now.machine.fib
  pub printed : (history : History) (old new : Option (List ℕ)) (shows : ShowsRun run.order run.router run.rng history old new) → run.now ≡ shows.1.done → ForwardsLeast net router shows.0
