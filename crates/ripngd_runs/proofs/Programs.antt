-- Networks of runs of the program are networks of daemons, so they invent no distance.
use Rattle.std.proofs.Common.{◌≡◌, ℕ, zero, suc, ◌<◌, false, List, [], ◌∷◌, ◌++◌, length, Option, Some, None, slice_get, refl, ap, sym, subst, ◌∙◌, append_assoc, arith}
use Rattle.std.specs.FinMap as map_of
use Rattle.std.specs.List.{AllByRecursion}
use Rattle.fib.specs.Forwarding.{Forward}
use Rattle.prefix6.specs.Prefix.{Prefix6}
use Rattle.route_table.specs.Route.{RouteValue, infinity}
use Rattle.route_table.proofs.TableLaws.{Some-same, None-Some}
use Rattle.router_core.specs.Changes.{forward}
use Rattle.router_core.specs.Config.{Config}
use Rattle.router_core.specs.declared.reconfiguring.Change.{Change}
use Rattle.ripng_world.specs.Network.{Network, Node, config_of}
use Rattle.ripng_world.specs.Past.{IsBackedSince}
use Rattle.ripng_world.specs.Walks.{IsBacked}
use Rattle.ripng_world.proofs.Growing.{backed_first}
use Rattle.ripngd_daemon.specs.Run.{ShowsRun, outside_before, words_of}
use Rattle.ripngd_daemon.specs.declared.history.History.{History}
use Rattle.ripngd_engine.specs.Run.{Machine}
use Rattle.ripngd_engine.specs.Seen.{Started}
use Rattle.ripngd_theorems.specs.Daemons.{Deed, Happened, Lives, in_force, own_deeds, reconfigurations_by}
use Rattle.ripngd_theorems.specs.Links.{HaveRun, past_of_daemons}
use Rattle.ripngd_runs.specs.Lives.{AreActsForLines, ordered_acts}
use Rattle.ripngd_runs.specs.Networks.{AreActsForRuns, AreInTurn, AreRunning, HoldsOnlyWalks, LinkCall, OrdersNoChange, Program, WereOrdered, calls_of}
use Rattle.ripngd_runs.proofs.Cutting.{cut, ran_until, reconfigurations-append}
use Rattle.ripngd_runs.proofs.Growing.{backed_later}
use Rattle.ripngd_runs.proofs.Obeying.{lives_on, ordered-append}
use Rattle.ripngd_runs.proofs.Ordering.{all_unchanged, changes_known, own_ordered, runs_unchanged}
use Rattle.ripngd_runs.proofs.Running.{HasLife, run_lives}
use Rattle.ripngd_runs.proofs.Shapes.{joined_calls, lives_shaped}
use Rattle.ripngd_runs.proofs.Weaving.{Woven, calls_in, put_at, put_here, woven_from}

-- ---- one router

calls_in-append : (xs ys : List Deed) → calls_in (xs ++ ys) ≡ calls_in xs ++ calls_in ys
calls_in-append [] ys = refl
calls_in-append (d ∷ xs) ys = ap (λ x. d.trace.calls ++ x) (calls_in-append xs ys) ∙ sym (append_assoc d.trace.calls (calls_in xs) (calls_in ys))

-- what a router is after its runs
abbrev pub last_of : Option Machine → List Program → Option Machine
last_of before [] = before
last_of before (run ∷ runs) = last_of (Some run.now.machine) runs

-- deeds that are the life of a router in all of its runs
record LivesInTurn (config : Config) (before : Option Machine) (runs : List Program) : Type 0 where
  deeds : List Deed
  lives : Lives config before deeds (last_of before runs)
  calls : calls_of runs ≡ calls_in deeds
  acts : AreActsForRuns runs (ordered_acts deeds)

-- one run's
pub own_life : (config : Config) (before : Option Machine) (run : Program) → run.router ≡ in_force config before
    → HasLife config before run.order run.calls run.under_way.moments run.lines run.now
own_life config before run is =
    run_lives run.order config before run.rng run.calls run.lines run.now
    (record {
      begun = run.under_way.begun;
      count = run.under_way.count;
      started = subst (λ c. Started c (words_of run.rng) (outside_before run.order) run.under_way.begun) is run.under_way.started;
      has_done = run.under_way.has_done;
      calls_are = run.under_way.calls_are;
      moments = run.under_way.moments;
      moments_are = run.under_way.moments_are;
    })

lives_in_turn : (config : Config) (before : Option Machine) (runs : List Program) → AreInTurn (in_force config before) runs → LivesInTurn config before runs
lives_in_turn config before [] turn = record { deeds = []; lives = refl; calls = refl; acts = refl }
lives_in_turn config before (run ∷ runs) turn =
    let one = own_life config before run turn.0 in
    let rest = lives_in_turn config (Some run.now.machine) runs turn.1 in
    record {
      deeds = one.0 ++ rest.deeds;
      lives = lives_on config before (Some run.now.machine) (last_of (Some run.now.machine) runs) one.0 rest.deeds one.1.lives rest.lives;
      calls = ap (λ x. x ++ calls_of runs) (one.2 ∙ joined_calls one.0) ∙ ap (λ x. calls_in one.0 ++ x) rest.calls ∙ sym (calls_in-append one.0 rest.deeds);
      acts = (
        ordered_acts one.0,
        ordered_acts rest.deeds,
        subst (λ c. AreActsForLines c run.lines (ordered_acts one.0)) (sym turn.0) one.1.ordered,
        rest.acts,
        ordered-append one.0 rest.deeds,
      );
    }

-- the deeds up to the end of one of the runs
record IsUntil (config : Config) (before : Option Machine) (deeds : List Deed) (m : Machine) : Type 0 where
  early : List Deed
  late : List Deed
  deeds_are : deeds ≡ early ++ late
  lives : Lives config before early (Some m)

lives_until : (config : Config) (before : Option Machine) (runs : List Program) (turn : AreInTurn (in_force config before) runs) (place : ℕ) (run : Program) → slice_get runs place ≡ Some run
    → IsUntil config before (lives_in_turn config before runs turn).deeds run.now.machine
unfolding lives_in_turn
lives_until config before [] turn place run is = absurd (None-Some run is)
lives_until config before (first ∷ runs) turn zero run is =
    let one = own_life config before first turn.0 in
    let rest = lives_in_turn config (Some first.now.machine) runs turn.1 in
    record {
      early = one.0;
      late = rest.deeds;
      deeds_are = refl;
      lives = subst (λ (r : Program). Lives config before one.0 (Some r.now.machine)) (Some-same first run is) one.1.lives;
    }
lives_until config before (first ∷ runs) turn (suc place) run is =
    let one = own_life config before first turn.0 in
    let later = lives_until config (Some first.now.machine) runs turn.1 place run is in
    record {
      early = one.0 ++ later.early;
      late = later.late;
      deeds_are = ap (λ x. one.0 ++ x) later.deeds_are ∙ sym (append_assoc one.0 later.early later.late);
      lives = lives_on config before (Some first.now.machine) (Some run.now.machine) one.0 later.early one.1.lives later.lives;
    }

-- ---- all routers

pub there_is : {X : Type 0} (xs : List X) (i : ℕ) → i < length xs → (x : X) × (slice_get xs i ≡ Some x)
there_is [] i low = absurd (omega (arith, low))
there_is (x ∷ xs) zero low = (x, refl)
there_is (x ∷ xs) (suc i) low = there_is xs i (omega (arith, low))

-- of each node that is there, these; of others, none
abbrev deeds_at : (o : Option Node) → ((node : Node) → o ≡ Some node → List Deed) → List Deed
deeds_at None f = []
deeds_at (Some node) f = f node refl

-- what holds of those of each node holds of them
deeds_hold : (P : Node → List Deed → Type 0) (o : Option Node) (f : (node : Node) → o ≡ Some node → List Deed) → ((node : Node) (is : o ≡ Some node) → P node (f node is))
    → (node : Node) → o ≡ Some node → P node (deeds_at o f)
deeds_hold P None f holds node is = absurd (None-Some node is)
deeds_hold P (Some other) f holds node is = subst (λ n. P n (f other refl)) (Some-same other node is) (holds other refl)

module _ (net : Network) (runs : ℕ → List Program) (order : List LinkCall) (running : AreRunning net runs order) where
  abbrev life : (router : ℕ) (node : Node) → slice_get net router ≡ Some node → LivesInTurn (config_of node) None (runs router)
  life router node is = lives_in_turn (config_of node) None (runs router) (running.in_turn router node is)

  -- the deeds of each router
  pub deeds : ℕ → List Deed
  deeds router = deeds_at (slice_get net router) (λ node is. (life router node is).deeds)

  deeds_are : (P : ℕ → Node → List Deed → Type 0) → ((router : ℕ) (node : Node) (is : slice_get net router ≡ Some node) → P router node (life router node is).deeds)
      → (router : ℕ) (node : Node) → slice_get net router ≡ Some node → P router node (deeds router)
  unfolding deeds
  deeds_are P holds router node is =
      deeds_hold (P router) (slice_get net router) (λ n e. (life router n e).deeds) (holds router) node is

  lives : (router : ℕ) (node : Node) → slice_get net router ≡ Some node → Lives (config_of node) None (deeds router) (last_of None (runs router))
  lives = deeds_are (λ router node ds. Lives (config_of node) None ds (last_of None (runs router))) (λ router node is. (life router node is).lives)

  pub together : Woven net [] deeds
  together =
      woven_from net order deeds running.known running.given
      (λ router low. let node = there_is net router low in lives_shaped (config_of node.0) None (deeds router) (last_of None (runs router)) (lives router node.0 node.1))
      (λ router low. let node = there_is net router low in running.calls router low
      ∙ deeds_are (λ r n ds. calls_of (runs r) ≡ calls_in ds) (λ r n is. (life r n is).calls) router node.0 node.1)

  abbrev pub in_order : List Happened
  in_order = together.order

  below : (router : ℕ) (node : Node) → slice_get net router ≡ Some node → router < length net
  below router node is = low net router is
    where
      low : (xs : Network) (i : ℕ) → slice_get xs i ≡ Some node → i < length xs
      low [] i e = absurd (None-Some node e)
      low (x ∷ xs) zero e = omega arith
      low (x ∷ xs) (suc i) e = let rest = low xs i e in omega (arith, rest)

  -- it is a network of daemons
  have_run : HaveRun net in_order (λ router. last_of None (runs router))
  have_run = record {
    zoned = running.zoned;
    known = together.known;
    lives = λ router node is. subst (λ ds. Lives (config_of node) None ds (last_of None (runs router))) (sym (together.own router (below router node is))) (lives router node is);
    given = together.given;
  }

  changes : List (ℕ × Change)
  changes = reconfigurations_by in_order

  ordered : (router : ℕ) → router < length net → AreActsForRuns (runs router) (ordered_acts (own_deeds router in_order))
  ordered router low =
      let node = there_is net router low in
      subst (λ ds. AreActsForRuns (runs router) (ordered_acts ds)) (sym (together.own router low))
      (deeds_are (λ r n ds. AreActsForRuns (runs r) (ordered_acts ds)) (λ r n is. (life r n is).acts) router node.0 node.1)

  pub were_ordered : WereOrdered net runs (reconfigurations_by in_order)
  were_ordered = (
    changes_known net in_order together.known,
    λ router low. (ordered_acts (own_deeds router in_order), ordered router low, own_ordered router in_order),
  )

  -- the network until the end of one run of a router, or until now
  record Until (router : ℕ) (m : Machine) : Type 0 where
    first : List Happened
    later : List Happened
    order_is : in_order ≡ first ++ later
    daemons : ℕ → Option Machine
    ran : HaveRun net first daemons
    is : daemons router ≡ Some m

  until : (router place : ℕ) (run : Program) → router < length net → slice_get (runs router) place ≡ Some run → Until router run.now.machine
  until router place run low is =
      let node = there_is net router low in
      let part : IsUntil (config_of node.0) None (deeds router) run.now.machine =
      deeds_are (λ r n ds. (place : ℕ) (x : Program) → slice_get (runs r) place ≡ Some x → IsUntil (config_of n) None ds x.now.machine)
      (λ r n e place x. lives_until (config_of n) None (runs r) (running.in_turn r n e) place x) router node.0 node.1 place run is in
      let c = cut router in_order part.early part.late (together.own router low ∙ part.deeds_are) in
      let lived : (n : Node) → slice_get net router ≡ Some n → Lives (config_of n) None (own_deeds router c.first) (Some run.now.machine) =
      λ n e. subst (λ x. Lives (config_of x) None (own_deeds router c.first) (Some run.now.machine)) (Some-same node.0 n (sym node.1 ∙ e))
      (subst (λ ds. Lives (config_of node.0) None ds (Some run.now.machine)) (sym c.own) part.lives) in
      let ran = ran_until net c.first c.later (λ r. last_of None (runs r)) router run.now.machine
      (subst (λ o. HaveRun net o (λ r. last_of None (runs r))) c.order_is have_run) lived in
      record {
        first = c.first;
        later = c.later;
        order_is = c.order_is;
        daemons = put_at ran.0 router (Some run.now.machine);
        ran = ran.1;
        is = put_here ran.0 router (Some run.now.machine);
      }

  -- what was backed then is backed by all that was in force
  backed_now : (router : ℕ) (m : Machine) (u : Until router m) (p : Prefix6) (r : RouteValue) → IsBackedSince (past_of_daemons net u.first) router p r
      → IsBackedSince (record { net = net; reconfigurations = reconfigurations_by in_order }) router p r
  backed_now router m u p r backed =
      subst (λ (cs : List (ℕ × Change)). IsBackedSince (record { net = net; reconfigurations = cs }) router p r) (sym (ap reconfigurations_by u.order_is ∙ reconfigurations-append u.first u.later))
      (backed_later net (reconfigurations_by u.first) (reconfigurations_by u.later) router p r backed)

  -- what is known of networks of daemons
  abbrev RoutesBacked : Type 0
  RoutesBacked = (deeds : List Happened) (daemons : ℕ → Option Machine) → HaveRun net deeds daemons → (router : ℕ) (m : Machine) (p : Prefix6) (r : RouteValue)
      → router < length net → daemons router ≡ Some m → map_of.get m.router.table p ≡ Some r → r.metric < infinity → IsBackedSince (past_of_daemons net deeds) router p r

  abbrev EntriesBacked : Type 0
  EntriesBacked = (deeds : List Happened) (daemons : ℕ → Option Machine) → HaveRun net deeds daemons → (router : ℕ) (m : Machine) (p : Prefix6) (f : Forward)
      → router < length net → daemons router ≡ Some m → m.ended ≡ false → map_of.get m.fib p ≡ Some f
      → (r : RouteValue) × (map_of.get m.router.table p ≡ Some r) × (forward r ≡ Some f) × IsBackedSince (past_of_daemons net deeds) router p r

  module _ (routes_backed : RoutesBacked) (entries_backed : EntriesBacked) where
    pub holds : (router place : ℕ) (run : Program) → router < length net → slice_get (runs router) place ≡ Some run
        → HoldsOnlyWalks (record { net = net; reconfigurations = reconfigurations_by in_order }) router run
    holds router place run low is = record { routes = routes; entries = entries; printed = printed }
      where
        u : Until router run.now.machine
        u = until router place run low is

        routes : (p : Prefix6) (r : RouteValue) → map_of.get run.now.machine.router.table p ≡ Some r → r.metric < infinity
            → IsBackedSince (record { net = net; reconfigurations = reconfigurations_by in_order }) router p r
        routes p r here under = backed_now router run.now.machine u p r (routes_backed u.first u.daemons u.ran router run.now.machine p r low u.is here under)

        entries : (p : Prefix6) (f : Forward) → run.now.machine.ended ≡ false → map_of.get run.now.machine.fib p ≡ Some f
            → (r : RouteValue) × (map_of.get run.now.machine.router.table p ≡ Some r) × (forward r ≡ Some f)
            × IsBackedSince (record { net = net; reconfigurations = reconfigurations_by in_order }) router p r
        entries p f going here =
            let e = entries_backed u.first u.daemons u.ran router run.now.machine p f low u.is going here in
            (e.0, e.1, e.2, backed_now router run.now.machine u p e.0 e.3)

        printed : (history : History) (old new : Option (List ℕ)) (shows : ShowsRun run.order run.router run.rng history old new) → run.now ≡ shows.1.done
            → (p : Prefix6) (f : Forward) → map_of.get shows.0 p ≡ Some f
            → (r : RouteValue) × (forward r ≡ Some f) × IsBackedSince (record { net = net; reconfigurations = reconfigurations_by in_order }) router p r
        printed history old new shows same p f here =
            let e = entries p f (ap (λ s. s.machine.ended) same ∙ shows.1.lasts.goes_on)
            (ap (λ s. map_of.get s.machine.fib p) same ∙ ap (λ t. map_of.get t p) (sym shows.1.table_is) ∙ here) in
            (e.0, e.2, e.3)

    -- ---- where no client ordered a change

    unchanging : (xs : List Program) → ((place : ℕ) (run : Program) → slice_get xs place ≡ Some run → OrdersNoChange run) → AllByRecursion OrdersNoChange xs
    unchanging [] never = tt
    unchanging (x ∷ xs) never = (never 0 x refl, unchanging xs (λ place run is. never (suc place) run is))

    pub fixed : ((router place : ℕ) (run : Program) → router < length net → slice_get (runs router) place ≡ Some run → OrdersNoChange run)
        → (router place : ℕ) (run : Program) (p : Prefix6) (r : RouteValue) → router < length net → slice_get (runs router) place ≡ Some run
        → map_of.get run.now.machine.router.table p ≡ Some r → r.metric < infinity → IsBacked net router p r
    fixed never router place run p r low is here under =
        let none : reconfigurations_by in_order ≡ [] =
        all_unchanged net (reconfigurations_by in_order) (changes_known net in_order together.known)
        (λ other there. own_ordered other in_order
        ∙ runs_unchanged (runs other) (ordered_acts (own_deeds other in_order)) (unchanging (runs other) (λ place' run'. never other place' run' there)) (ordered other there)) in
        backed_first (record { net = net; reconfigurations = reconfigurations_by in_order }) none router p r ((holds router place run low is).routes p r here under)
