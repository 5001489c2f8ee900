-- The laws of daemons, for runs of the program.
use Rattle.std.proofs.Common.{◌≡◌, ℕ, ◌+◌, ◌-◌, ◌*◌, ◌<◌, ◌≤◌, false, List, [], ◌∷◌, ◌++◌, length, Option, Some, None, slice_get, refl, ap, sym, subst, ◌∙◌, arith}
use Rattle.std.specs.FinMap as map_of
use Rattle.std.specs.List.{AllByRecursion}
use Rattle.fib.specs.Forwarding.{Forward}
use Rattle.prefix6.specs.Prefix.{Prefix6}
use Rattle.route_table.specs.Route.{RouteValue, infinity}
use Rattle.route_table.proofs.TableLaws.{None-Some}
use Rattle.router_core.specs.Changes.{forward}
use Rattle.router_core.specs.Config.{Config}
use Rattle.ripng_world.specs.Healing.{IsHealed}
use Rattle.ripng_world.specs.Network.{Network, Node, config_of}
use Rattle.ripng_world.specs.Past.{Past, IsBackedSince}
use Rattle.ripngd_daemon.specs.Run.{ShowsRun}
use Rattle.ripngd_daemon.specs.declared.history.History.{History}
use Rattle.ripngd_engine.specs.Run.{Machine}
use Rattle.ripngd_theorems.specs.Daemons.{Deed, Happened, in_force, own_deeds, reconfigurations_by}
use Rattle.ripngd_theorems.specs.OnTime.{Dated, ForwardsLeast, undated}
use Rattle.ripngd_runs.specs.Dated.{AreDeedsOf, AreLives, HasNoEntry, HoldsLeast, IsLastRun, after_runs, daemons_of}
use Rattle.ripngd_runs.specs.Lives.{AreActsForLines, ordered_acts}
use Rattle.ripngd_runs.specs.Networks.{AreActsForRuns, AreInTurn, HoldsOnlyWalks, Program, WereOrdered}
use Rattle.ripngd_runs.proofs.Obeying.{ordered-append}
use Rattle.ripngd_runs.proofs.Ordering.{changes_known, own_ordered}
use Rattle.ripngd_runs.proofs.Programs.{own_life, there_is}

-- ---- the deeds of runs

-- runs that start in turn have them
pub lives_of : (config : Config) (before : Option Machine) (runs : List Program) → AreInTurn (in_force config before) runs → (deeds : List Deed) × AreLives config before runs deeds
lives_of config before [] turn = ([], refl)
lives_of config before (run ∷ runs) turn =
    let one = own_life config before run turn.0 in
    let rest = lives_of config (Some run.now.machine) runs turn.1 in
    (one.0 ++ rest.0, (one.0, rest.0, refl, turn.0, one.1, one.2, one.3, rest.1))

acts_of : (config : Config) (before : Option Machine) (runs : List Program) (deeds : List Deed) → AreLives config before runs deeds → AreActsForRuns runs (ordered_acts deeds)
acts_of config before [] deeds none = ap ordered_acts none
acts_of config before (run ∷ runs) deeds (first, later, are, is, life, calls, moments, rest) = (
  ordered_acts first,
  ordered_acts later,
  subst (λ c. AreActsForLines c run.lines (ordered_acts first)) (sym is) life.ordered,
  acts_of config (Some run.now.machine) runs later rest,
  ap ordered_acts are ∙ ordered-append first later,
)

all_known : (net : Network) (before : List Happened) (history : List Dated) → AllByRecursion (λ h. h.router < length net) before
    → AllByRecursion (λ t. t.happened.router < length net) history → AllByRecursion (λ h. h.router < length net) (before ++ undated history)
all_known net [] [] known later = tt
all_known net [] (t ∷ history) known later = (later.0, all_known net [] history tt later.1)
all_known net (h ∷ before) history known later = (known.0, all_known net before history known.1 later)

pub ordered_deeds : (net : Network) (runs : ℕ → List Program) (before : List Happened) (history : List Dated) → AllByRecursion (λ h. h.router < length net) before
    → AllByRecursion (λ t. t.happened.router < length net) history → AreDeedsOf net runs (before ++ undated history)
    → WereOrdered net runs (reconfigurations_by (before ++ undated history))
ordered_deeds net runs before history known later deeds = (
  changes_known net (before ++ undated history) (all_known net before history known later),
  λ router low. let node = there_is net router low in (
    ordered_acts (own_deeds router (before ++ undated history)),
    acts_of (config_of node.0) None (runs router) (own_deeds router (before ++ undated history)) (deeds router node.0 node.1),
    own_ordered router (before ++ undated history),
  ),
)

-- ---- the last run

after_last : (before : Option Machine) (earlier : List Program) (run : Program) → after_runs before (earlier ++ run ∷ []) ≡ Some run.now.machine
after_last before [] run = refl
after_last before (x ∷ earlier) run = after_last (Some x.now.machine) earlier run

-- a router is what its last run is
pub last_is : (runs : ℕ → List Program) (router : ℕ) (run : Program) → IsLastRun runs router run → daemons_of runs router ≡ Some run.now.machine
last_is runs router run last = ap (after_runs None) last.1 ∙ after_last None last.0 run

-- one that is something has a last run
pub last_of : (runs : ℕ → List Program) (router : ℕ) (m : Machine) → daemons_of runs router ≡ Some m → (run : Program) × IsLastRun runs router run
last_of runs router m is = let found = by (runs router) is in (found.0, (found.1, found.2))
  where
    ends : (x : Program) (xs : List Program) → (run : Program) × (earlier : List Program) × (x ∷ xs ≡ earlier ++ run ∷ [])
    ends x [] = (x, [], refl)
    ends x (y ∷ xs) = let rest = ends y xs in (rest.0, x ∷ rest.1, ap (λ l. x ∷ l) rest.2)

    by : (xs : List Program) → after_runs None xs ≡ Some m → (run : Program) × (earlier : List Program) × (xs ≡ earlier ++ run ∷ [])
    by [] none = absurd (None-Some m none)
    by (x ∷ xs) is = ends x xs

-- ---- what it holds

-- what it printed, it forwarded by
printed_entry : (run : Program) (history : History) (old new : Option (List ℕ)) (shows : ShowsRun run.order run.router run.rng history old new) → run.now ≡ shows.1.done
    → (run.now.machine.ended ≡ false) × (run.now.machine.fib ≡ shows.0)
printed_entry run history old new shows same = (ap (λ s. s.machine.ended) same ∙ shows.1.lasts.goes_on, ap (λ s. s.machine.fib) same ∙ sym shows.1.table_is)

module _ (past : Past) (router : ℕ) (run : Program) where
  abbrev Routes : Type 0
  Routes = (p : Prefix6) (r : RouteValue) → map_of.get run.now.machine.router.table p ≡ Some r → r.metric < infinity → IsBackedSince past router p r

  abbrev Entries : Type 0
  Entries = (p : Prefix6) (f : Forward) → run.now.machine.ended ≡ false → map_of.get run.now.machine.fib p ≡ Some f
      → (r : RouteValue) × (map_of.get run.now.machine.router.table p ≡ Some r) × (forward r ≡ Some f) × IsBackedSince past router p r

  pub holds_walks : Routes → Entries → HoldsOnlyWalks past router run
  holds_walks routes entries = record {
    routes = routes;
    entries = entries;
    printed = λ history old new shows same p f here.
        let so = printed_entry run history old new shows same in
        let e = entries p f so.0 (ap (λ t. map_of.get t p) so.1 ∙ here) in
        (e.0, e.2, e.3);
  }

pub has_no_entry : (p : Prefix6) (run : Program) → ((f : Forward) → run.now.machine.ended ≡ false → map_of.get run.now.machine.fib p ≡ Some f → ⊥) → HasNoEntry p run
has_no_entry p run none = record {
  entries = none;
  printed = λ history old new shows same f here.
      let so = printed_entry run history old new shows same in
      none f so.0 (ap (λ t. map_of.get t p) so.1 ∙ here);
}

pub holds_least : (net : Network) (router : ℕ) (run : Program) → IsHealed net router run.now.machine.router.table
    → (run.now.machine.ended ≡ false → ForwardsLeast net router run.now.machine.fib) → HoldsLeast net router run
holds_least net router run routes entries = record {
  routes = routes;
  entries = entries;
  printed = λ history old new shows same.
      let so = printed_entry run history old new shows same in
      subst (ForwardsLeast net router) so.1 (entries so.0);
}
