-- Networks in which each router is the program, run once or again and again.
use Rattle.std.specs.Prelude.{◌≡◌, ◌≢◌, ℕ, ◌<◌, ◌==◌, if◌then◌else◌, ⊤, false, List, [], ◌∷◌, ◌++◌, length, map, filter_map, flat_map, Option, None, Some, slice_get}
use Rattle.ripngd_runs.specs.Below.{AllByRecursion, Forward, Prefix6, Lcg, Network, Node, AreZoned, config_of, Past, IsBackedSince, sent_by, Sent, Order, control_text, IsUnderWay, ShowsRun, History, Call, Seen, Act, Listen, reconfiguration_of, IsGiven, handed_in, RouteValue, infinity, forward, Config, Change}
use Rattle.std.specs.FinMap as map_of
use Rattle.ripngd_control.specs.declared.command.Command.TheVariants as commands
use Rattle.ripngd_runs.specs.Lives.{AreActsForLines}

-- ---- the runs of one router

-- a run of the program, so far, or whole
pub record Program : Type 0 where
  pub order : Order
  pub router : Config
  pub rng : Lcg
  pub calls : List Call
  pub lines : List (List ℕ)
  pub now : Seen
  pub under_way : IsUnderWay order router rng calls lines now

-- each run starts with the configuration in force: the first with this one, and each other as clients left that of the run before
abbrev pub AreInTurn : Config → List Program → Type 0
AreInTurn config [] = ⊤
AreInTurn config (run ∷ runs) = (run.router ≡ config) × AreInTurn run.now.machine.router.config runs

-- the calls of a router's link, in all of its runs
abbrev pub calls_of : List Program → List Call
calls_of runs = flat_map (λ run. run.calls) runs

-- ---- the runs of a network

-- a call of the link of one router
pub record LinkCall : Type 0 where
  pub router : ℕ
  pub call : Call

-- the calls of one router's link, in their order
abbrev pub own_calls : ℕ → List LinkCall → List Call
own_calls router order = filter_map (λ c. if c.router == router then Some c.call else None) order

-- the datagram that a call handed over, if it did
abbrev pub handed_at : LinkCall → List Sent
handed_at c = map (sent_by c.router) (filter_map handed_in (c.call ∷ []))

-- each datagram that a link gave is a copy of one that was handed to it before, or an outside host's (`IsGiven`), where this was
-- handed over before the first call
abbrev pub AreCallsGiven : Network → List Sent → List LinkCall → Type 0
AreCallsGiven net handed [] = ⊤
AreCallsGiven net handed (c ∷ order) =
    ((node : Node) → slice_get net c.router ≡ Some node → IsGiven net handed c.router (config_of node) (Listen c.call))
    × AreCallsGiven net (handed ++ handed_at c) order

-- each router of a network is the program: these are its runs, and these all calls of their links, in an order in which they happened.
-- To each router a link is in one zone (RFC 4007, 5), as it is where no zone is named
pub record AreRunning (net : Network) (runs : ℕ → List Program) (order : List LinkCall) : Type 0 where
  pub zoned : AreZoned net
  pub known : AllByRecursion (λ c. c.router < length net) order
  pub in_turn : (router : ℕ) (node : Node) → slice_get net router ≡ Some node → AreInTurn (config_of node) (runs router)
  pub calls : (router : ℕ) → router < length net → own_calls router order ≡ calls_of (runs router)
  pub given : AreCallsGiven net [] order

-- ---- the changes that clients ordered

-- the acts for the lines of all these runs, one run after another
abbrev pub AreActsForRuns : List Program → List Act → Type 0
AreActsForRuns [] acts = acts ≡ []
AreActsForRuns (run ∷ runs) acts =
    (first later : List Act) × AreActsForLines run.router run.lines first × AreActsForRuns runs later × (acts ≡ first ++ later)

-- the changes of one router among those of all, in their order
abbrev pub own_changes : ℕ → List (ℕ × Change) → List Change
own_changes router changes = filter_map (λ c. if c.0 == router then Some c.1 else None) changes

-- of these changes, those of each router are just what its clients ordered and it did, in their order
abbrev pub WereOrdered : Network → (ℕ → List Program) → List (ℕ × Change) → Type 0
WereOrdered net runs changes =
    AllByRecursion (λ c. c.0 < length net) changes
    × ((router : ℕ) → router < length net → (acts : List Act) × AreActsForRuns (runs router) acts × (own_changes router changes ≡ filter_map reconfiguration_of acts))

-- no client of the run ordered `gain`, `drop` or `cost`
abbrev pub OrdersNoChange : Program → Type 0
OrdersNoChange run = AllByRecursion (λ line. (c : Change) → line ≢ control_text (commands.Reconfigure c)) run.lines

-- ---- what runs hold

-- walks at costs, and to owners, of this past back all that the run holds: each route below 16; each entry of its forwarding table,
-- unless it ran out of memory for that; and each entry of the table that it printed, if it has ended
pub record HoldsOnlyWalks (past : Past) (router : ℕ) (run : Program) : Type 0 where
  pub routes : (p : Prefix6) (r : RouteValue) → map_of.get run.now.machine.router.table p ≡ Some r → r.metric < infinity → IsBackedSince past router p r
  pub entries : (p : Prefix6) (f : Forward) → run.now.machine.ended ≡ false → map_of.get run.now.machine.fib p ≡ Some f
      → (r : RouteValue) × (map_of.get run.now.machine.router.table p ≡ Some r) × (forward r ≡ Some f) × IsBackedSince past router p r
  pub printed : (history : History) (old new : Option (List ℕ)) (shows : ShowsRun run.order run.router run.rng history old new) → run.now ≡ shows.1.done
      → (p : Prefix6) (f : Forward) → map_of.get shows.0 p ≡ Some f → (r : RouteValue) × (forward r ≡ Some f) × IsBackedSince past router p r
