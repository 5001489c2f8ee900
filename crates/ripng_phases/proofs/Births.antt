-- When each live route was taken, by the true clock: as long as it is live, and its router looks at its timers, that was not long ago.
use Rattle.std.proofs.Common.{◌≡◌, ◌⊎◌, inl, inr, ℕ, zero, suc, ◌+◌, ◌-◌, max, ◌<◌, ◌≤◌, ◌==◌, Bool, true, false, List, [], ◌∷◌, ◌++◌, fold, Some, slice_get, refl, ap, sym, subst, ◌∙◌, arith, append_assoc, append-nil, le_refl}
use Rattle.std.specs.List.{AllByRecursion}
use Rattle.std.specs.FinMap as map_of
use Rattle.std.proofs.lemmas.Bool.{eq-eqb, eqb-true}
use Rattle.std.proofs.lemmas.List.{map-append}
use Rattle.std.proofs.lemmas.List.Elements.{All-from_recursion, filter_map-append}
use Rattle.std.proofs.lemmas.List.Sums.{fold-append}
use Rattle.prefix6.specs.Prefix.{Prefix6}
use Rattle.route_table.specs.Route.{RouteValue}
use Rattle.route_table.proofs.TableLaws.{None-Some, Some-same}
use Rattle.route_table.specs.declared.route.Clock.TheVariants.{Live}
use Rattle.router_core.specs.Machine.{State, gateway_of}
use Rattle.router_core.specs.Timers.{timeout}
use Rattle.router_core.specs.declared.answer.Answer.{Answer}
use Rattle.router_core.specs.declared.reconfiguring.Change.{Change}
use Rattle.ripng_world.specs.Healing.{network_now, reconfigured_network}
use Rattle.ripng_world.specs.Network.{Network, Node, AreZoned, IsNetwork, Owns, config_of}
use Rattle.ripng_world.specs.Past.{HasCostSince, OwnsSince}
use Rattle.ripng_world.specs.Rounds.{router_of, moment_of}
use Rattle.ripng_world.specs.Walks.{cost_of_interface}
use Rattle.ripng_world.specs.World.{World, Event, Deliver, Stranger, Tick, Restart, Shutdown, LinkDown, LinkUp, Reconfigure, Happens, IsCold, WorldRun, arrival_of, past_of, reconfiguration_in, reconfigurations_in}
use Rattle.ripng_world.proofs.Growing.{cost_grows, owner_grows}
use Rattle.ripng_world.proofs.Members.{At, at_right, split_at}
use Rattle.ripng_world.proofs.NetworkNow.{AreAlike, alike_back, alike_trans, now_alike, now_zoned}
use Rattle.ripng_world.proofs.Reached.{IsReachedBy}
use Rattle.ripng_world.proofs.ReachedRuns.{AreReached}
use Rattle.ripng_world.proofs.ReachedWorlds.{reached_from_cold}
use Rattle.ripng_world.proofs.WorldRuns.{IsGood, done_from, run_from_cold}
use Rattle.ripng_phases.specs.Ages.{IsLooking, IsRecent, Lead, StartsAnew, StaysUp, past_from}
use Rattle.ripng_phases.specs.Minutes.{Timed, AreFrom, untimed}
use Rattle.ripng_phases.specs.Phases.{Step, events_of, reached}
use Rattle.ripng_phases.proofs.Alike.{happens_alike}
use Rattle.ripng_phases.proofs.AnyStep.{IsAnyStep, any_step, started_is}
use Rattle.ripng_phases.proofs.Cutting.{untimed_on}
use Rattle.ripng_phases.proofs.Holding.{rests_later}
use Rattle.ripng_phases.proofs.InForce.{cost_now, owned_now}
use Rattle.ripng_phases.proofs.Leading.{lead_first, lead_rest, lead_run, reached_next}
use Rattle.ripng_phases.proofs.Moving.{HearsHere}
use Rattle.ripng_phases.proofs.OwnTags.{AllOwn, own_in_run}
use Rattle.ripng_phases.proofs.Resting.{IsRestingOn, taken_rests}
use Rattle.ripng_phases.proofs.Rows.{IsSame, IsTaken}
use Rattle.ripng_phases.proofs.Runs.{run_on}

-- a step of a router that comes before it starts anew
pub record IsNext (history : List Timed) (router : ℕ) (t : Timed) : Type 0 where
  pub before : List Timed
  pub after : List Timed
  pub parts : history ≡ before ++ t ∷ after
  pub router_is : router_of t.step.event ≡ router
  pub up : AllByRecursion (λ (x : Timed). StartsAnew router x.step.event → ⊥) (before ++ t ∷ [])

-- so it is from a step on that is no start of the router
later_next : (s : Timed) (history : List Timed) (router : ℕ) (t : Timed) → (StartsAnew router s.step.event → ⊥) → IsNext history router t → IsNext (s ∷ history) router t
later_next s history router t on n = record { before = s ∷ n.before; after = n.after; parts = ap (λ xs. s ∷ xs) n.parts; router_is = n.router_is; up = (on, n.up) }

next_at : (history : List Timed) (router : ℕ) (t : Timed) → IsNext history router t → At history t
next_at history router t n = subst (λ xs. At xs t) (sym n.parts) (at_right n.before (t ∷ n.after) t (0, refl))

-- a router starts anew, or not
is_start : (router : ℕ) (e : Event) → StartsAnew router e ⊎ (StartsAnew router e → ⊥)
is_start router (Restart to now) = by (to == router) refl
  where
    clash : true ≡ false → ⊥
    clash e = cc

    by : (b : Bool) → (to == router) ≡ b → (to ≡ router) ⊎ (to ≡ router → ⊥)
    by true e = inl (eqb-true to router e)
    by false e = inr (λ same. clash (sym (eq-eqb to router same) ∙ e))
is_start router (Deliver datagram to iface now) = inr (λ start. start)
is_start router (Stranger to x) = inr (λ start. start)
is_start router (Tick to now word) = inr (λ start. start)
is_start router (Shutdown to now) = inr (λ start. start)
is_start router (LinkDown to now on) = inr (λ start. start)
is_start router (LinkUp to now on) = inr (λ start. start)
is_start router (Reconfigure to now c) = inr (λ start. start)

-- the route was taken by a step of the history, from a datagram of that number or a later one
pub record IsBorn (net : Network) (w : World) (history : List Timed) (born router : ℕ) (p : Prefix6) (r : RouteValue) : Type 0 where
  pub before : List Timed
  pub heard : Timed
  pub after : List Timed
  pub parts : history ≡ before ++ heard ∷ after
  pub at : heard.at ≡ born
  pub datagram : ℕ
  pub iface : ℕ
  pub now : ℕ
  pub event : heard.step.event ≡ Deliver datagram router iface now
  pub rests : IsRestingOn (network_now (past_of net (reached w (untimed before)))) (reached w (untimed before)) datagram router p r
  pub tag : r.tag ≡ rests.entry.tag

-- a route that is taken has the tag of the entry that it rests on, and so has the same route later
taken_tagged : (net : Network) (zoned : AreZoned net) (w : World) (e : Event) (answer : Answer) (router : ℕ) (s t : State) (node : Node) (node_is : slice_get net router ≡ Some node) (config_is : s.config ≡ config_of node)
    (here : HearsHere net w e answer router s t) (p : Prefix6) (r : RouteValue) (until : ℕ) (taken : IsTaken (gateway_of s (max s.last here.now) (arrival_of net here.sent here.iface here.now)) here.hears.entries p r until)
    → (x : IsRestingOn net w here.datagram router p r) × (r.tag ≡ x.entry.tag)
unfolding taken_rests
taken_tagged net zoned w e answer router s t node node_is config_is here p r until taken =
    (taken_rests net zoned w e answer router s t node node_is config_is here p r until taken here.datagram (le_refl here.datagram), taken.tag)

later_tagged : (net : Network) (w : World) (first router : ℕ) (p : Prefix6) (q r : RouteValue) → IsSame q r → (x : IsRestingOn net w first router p q) → q.tag ≡ x.entry.tag
    → (y : IsRestingOn net w first router p r) × (r.tag ≡ y.entry.tag)
unfolding rests_later
later_tagged net w first router p q r same x tag = (rests_later net w w first router p q r (λ i d e. e) same x, same.tag ∙ tag)

-- a live route was taken at that moment, or it is as old as the history; and its router's clock goes on since
pub record IsAged (net : Network) (w : World) (start : ℕ) (before after : List Timed) (router : ℕ) (p : Prefix6) (r : RouteValue) (until : ℕ) : Type 0 where
  pub born : ℕ
  pub clock : (t : Timed) → IsNext after router t → until + t.at ≤ moment_of t.step.event + 181_000 + born
  pub looked : (k : Timed) → At before k → router_of k.step.event ≡ router → IsLooking k.step.event → k.at < born + 181_000
  pub from : (born ≡ start) ⊎ IsBorn net w before born router p r

-- so are all live routes at a moment of the history
pub record IsAgedWorld (net : Network) (w : World) (start : ℕ) (before : List Timed) (now : ℕ) (after : List Timed) : Type 0 where
  pub past : (k : Timed) → At before k → k.at ≤ now
  pub no_later : (bound : ℕ) → start ≤ bound → ((k : Timed) → At before k → k.at ≤ bound) → now ≤ bound
  pub time : (router : ℕ) (s : State) → slice_get (reached w (untimed before)).states router ≡ Some s → (t : Timed) → IsNext after router t
      → s.last + t.at ≤ moment_of t.step.event + 1_000 + now
  pub rows : (router : ℕ) (s : State) → slice_get (reached w (untimed before)).states router ≡ Some s → (p : Prefix6) (r : RouteValue) (until : ℕ) → map_of.get s.table p ≡ Some r → r.clock ≡ Live until
      → IsAged net w start before after router p r until

-- what a history has that begins at a moment
pub from_at : (start : ℕ) (history : List Timed) → AreFrom start history → (t : Timed) → At history t → start ≤ t.at
from_at start [] is t a = absurd (None-Some t a.1)
from_at start (x ∷ history) is t a = by a.0 a.1 (λ i at. from_at x.at history is.1 t (i, at))
  where
    up : (a b c : ℕ) → a ≤ b → b ≤ c → a ≤ c
    up a b c e f = omega arith

    by : (i : ℕ) → slice_get (x ∷ history) i ≡ Some t → ((j : ℕ) → slice_get history j ≡ Some t → x.at ≤ t.at) → start ≤ t.at
    by zero e later = subst (λ (y : Timed). start ≤ y.at) (Some-same x t e) is.0
    by (suc i) e later = up start x.at t.at is.0 (later i e)

module _ (net : Network) (is_net : IsNetwork net) (moments : List ℕ) (events : List Event) (cold w : World) (is_cold : IsCold net moments cold) (run : WorldRun net cold events w)
    (history : List Timed) (start : ℕ) (w' : World) (recent : IsRecent net w history start w') where
  -- ---- at a moment of the history

  module _ (before after : List Timed) (parts : history ≡ before ++ after) where
    abbrev pub here : World
    here = reached w (untimed before)

    lead : Lead net w (untimed before ++ untimed after) w'
    lead = subst (λ xs. Lead net w xs w') (ap untimed parts ∙ untimed_on before after) recent.steps

    pub lead_here : Lead net w (untimed before) (reached w (untimed before))
    lead_here = lead_first net (untimed before) (untimed after) w w' lead

    pub lead_on : Lead net (reached w (untimed before)) (untimed after) w'
    lead_on = lead_rest net (untimed before) (untimed after) w w' lead

    run_here : WorldRun net cold (events ++ events_of (untimed before)) (reached w (untimed before))
    run_here = run_on net events (events_of (untimed before)) cold w here run (lead_run net (untimed before) w here lead_here)

    pub reached_here : AreReached net (reached w (untimed before))
    reached_here = reached_from_cold net is_net moments (events ++ events_of (untimed before)) cold here is_cold run_here

    pub good_here : IsGood net is_net.owns_prefixes (reached w (untimed before))
    good_here = run_from_cold net is_net.owns_prefixes moments (events ++ events_of (untimed before)) cold here is_cold run_here

    pub own_here : AllOwn (reached w (untimed before))
    own_here = own_in_run net moments (events ++ events_of (untimed before)) cold here is_cold run_here

    -- ---- costs and owners

    abbrev pub base : Network
    base = network_now (past_of net w)

    abbrev pub now : Network
    now = network_now (past_of net (reached w (untimed before)))

    pub alike_here : AreAlike net (network_now (past_of net (reached w (untimed before))))
    alike_here = now_alike here.reconfigurations net

    pub alike_base : AreAlike (network_now (past_of net (reached w (untimed before)))) (network_now (past_of net w))
    alike_base = alike_trans now net base (alike_back net now alike_here) (now_alike w.reconfigurations net)

    now_is : network_now (past_of net (reached w (untimed before))) ≡ fold reconfigured_network (network_now (past_of net w)) (reconfigurations_in (events_of (untimed before)))
    now_is =
        ap (fold reconfigured_network net) (done_from net (events_of (untimed before)) w here (lead_run net (untimed before) w here lead_here))
        ∙ fold-append reconfigured_network net w.reconfigurations (reconfigurations_in (events_of (untimed before)))

    all_changes : reconfigurations_in (events_of (untimed history)) ≡ reconfigurations_in (events_of (untimed before)) ++ reconfigurations_in (events_of (untimed after))
    all_changes =
        ap (λ xs. reconfigurations_in (events_of xs)) (ap untimed parts ∙ untimed_on before after)
        ∙ ap reconfigurations_in (map-append (λ (s : Step). s.event) (untimed before) (untimed after))
        ∙ filter_map-append reconfiguration_in (events_of (untimed before)) (events_of (untimed after))

    pub cost_in_force : (router iface : ℕ) → HasCostSince (past_from net w history) router iface (cost_of_interface (network_now (past_of net (reached w (untimed before)))) router iface)
    cost_in_force router iface =
        subst (λ (cs : List (ℕ × Change)). HasCostSince (record { net = base; reconfigurations = cs }) router iface (cost_of_interface now router iface)) (sym all_changes)
        (cost_grows base (reconfigurations_in (events_of (untimed before))) (reconfigurations_in (events_of (untimed after))) router iface (cost_of_interface now router iface)
        (subst (λ (n : Network). HasCostSince (record { net = base; reconfigurations = reconfigurations_in (events_of (untimed before)) }) router iface (cost_of_interface n router iface)) (sym now_is)
        (cost_now (reconfigurations_in (events_of (untimed before))) base router iface)))

    pub owner_in_force : (router : ℕ) (p : Prefix6) (tag : ℕ) → Owns (network_now (past_of net (reached w (untimed before)))) router p tag → OwnsSince (past_from net w history) router p tag
    owner_in_force router p tag owns =
        subst (λ (cs : List (ℕ × Change)). OwnsSince (record { net = base; reconfigurations = cs }) router p tag) (sym all_changes)
        (owner_grows base (reconfigurations_in (events_of (untimed before))) (reconfigurations_in (events_of (untimed after))) router p tag
        (owned_now (reconfigurations_in (events_of (untimed before))) base router p tag (subst (λ (n : Network). Owns n router p tag) now_is owns)))

  -- ---- one step

  module _ (before : List Timed) (x : ℕ) (s : Timed) (after : List Timed) (parts : history ≡ before ++ s ∷ after) (from : AreFrom x (s ∷ after)) (is : IsAgedWorld net w start before x (s ∷ after)) where
    abbrev v : World
    v = reached w (untimed before)

    happens : Happens (network_now (past_of net (reached w (untimed before)))) (reached w (untimed before)) s.step.event s.step.answer s.step.after
    happens =
        happens_alike net (network_now (past_of net v)) (alike_here before (s ∷ after) parts) v s.step.after s.step.event s.step.answer (lead_on before (s ∷ after) parts).0

    came : (router : ℕ) (t : State) → slice_get s.step.after.states router ≡ Some t
        → (o : State) × (slice_get (reached w (untimed before)).states router ≡ Some o) × IsAnyStep (network_now (past_of net (reached w (untimed before)))) (reached w (untimed before)) s.step.event s.step.answer router o t
    came router t at = any_step (network_now (past_of net v)) v s.step.after s.step.event s.step.answer happens router t at

    -- the clock of the router from this step on
    clock_on : (router : ℕ) (t : Timed) → router_of s.step.event ≡ router → IsNext after router t → moment_of s.step.event + t.at ≤ moment_of t.step.event + 1_000 + s.at
    clock_on router t here n =
        sum (moment_of s.step.event) s.at t.at (moment_of t.step.event) (from_at s.at after from.1 t (next_at after router t n))
        (recent.clocks before s n.before t n.after (parts ∙ ap (λ xs. before ++ s ∷ xs) n.parts) (here ∙ sym n.router_is)
        (subst (λ k. StaysUp k (n.before ++ t ∷ [])) (sym n.router_is) (All-from_recursion (λ (x : Timed). StartsAnew router x.step.event → ⊥) (n.before ++ t ∷ []) n.up)))
      where
        sum : (m a b n : ℕ) → a ≤ b → m + (b - a) ≤ n + 1_000 → m + b ≤ n + 1_000 + a
        sum m a b n e f = omega arith

    time_on : (router : ℕ) (o : State) → slice_get (reached w (untimed before)).states router ≡ Some o → (StartsAnew router s.step.event → ⊥) → (t : Timed) → IsNext after router t
        → o.last + t.at ≤ moment_of t.step.event + 1_000 + s.at
    time_on router o at on t n = up (o.last + t.at) (moment_of t.step.event) x s.at from.0 (is.time router o at t (later_next s after router t on n))
      where
        up : (l m x y : ℕ) → x ≤ y → l ≤ m + 1_000 + x → l ≤ m + 1_000 + y
        up l m x y e f = omega arith

    next_time : (router : ℕ) (t : State) → slice_get s.step.after.states router ≡ Some t → (u : Timed) → IsNext after router u → t.last + u.at ≤ moment_of u.step.event + 1_000 + s.at
    next_time router t at u n = by (is_start router s.step.event) (came router t at)
      where
        same_as : (t o u m : ℕ) → t ≡ o → o + u ≤ m → t + u ≤ m
        same_as t o u m e f = omega arith

        of_both : (t o n u m : ℕ) → t ≤ max o n → o + u ≤ m → n + u ≤ m → t + u ≤ m
        of_both t o n u m e f g = omega arith

        by : StartsAnew router s.step.event ⊎ (StartsAnew router s.step.event → ⊥)
            → (o : State) × (slice_get (reached w (untimed before)).states router ≡ Some o) × IsAnyStep (network_now (past_of net (reached w (untimed before)))) (reached w (untimed before)) s.step.event s.step.answer router o t
            → t.last + u.at ≤ moment_of u.step.event + 1_000 + s.at
        by (inl start) c =
            same_as t.last (moment_of s.step.event) u.at (moment_of u.step.event + 1_000 + s.at) (c.2.anew start)
            (clock_on router u (started_is s.step.event router start) n)
        by (inr on) c =
            elim c.2.last [
              | inl same ↦ same_as t.last c.0.last u.at (moment_of u.step.event + 1_000 + s.at) same (time_on router c.0 c.1 on u n)
              | inr later ↦ of_both t.last c.0.last (moment_of s.step.event) u.at (moment_of u.step.event + 1_000 + s.at) later.1 (time_on router c.0 c.1 on u n)
                  (clock_on router u later.0 n)
            ]

    -- a route that stays
    kept : (router : ℕ) (p : Prefix6) (q r : RouteValue) (until : ℕ) → IsSame q r → (StartsAnew router s.step.event → ⊥) → (IsLooking s.step.event → router_of s.step.event ≡ router → moment_of s.step.event < until)
        → IsAged net w start before (s ∷ after) router p q until → IsAged net w start (before ++ s ∷ []) after router p r until
    kept router p q r until same on looks old =
        record {
          born = old.born;
          clock = λ t n. old.clock t (later_next s after router t on n);
          looked = λ k a here look. by_place k (split_at before (s ∷ []) a.0 k a.1) here look;
          from = by_birth old.from;
        }
      where
        ahead : (m u a b : ℕ) → m < u → u + a ≤ m + 181_000 + b → a < b + 181_000
        ahead m u a b e f = omega arith

        one : (k : Timed) → At (s ∷ []) k → s ≡ k
        one k a = by a.0 a.1
          where
            by : (i : ℕ) → slice_get (s ∷ []) i ≡ Some k → s ≡ k
            by zero e = Some-same s k e
            by (suc i) e = absurd (None-Some k e)

        by_place : (k : Timed) → At before k ⊎ At (s ∷ []) k → router_of k.step.event ≡ router → IsLooking k.step.event → k.at < old.born + 181_000
        by_place k (inl b) here look = old.looked k b here look
        by_place k (inr b) here look =
            subst (λ (y : Timed). router_of y.step.event ≡ router → IsLooking y.step.event → y.at < old.born + 181_000) (one k b)
            (λ here look. ahead (moment_of s.step.event) until s.at old.born (looks look here) (old.clock s (record { before = []; after = after; parts = refl; router_is = here; up = (on, tt) }))) here look

        by_birth : (old.born ≡ start) ⊎ IsBorn net w before old.born router p q → (old.born ≡ start) ⊎ IsBorn net w (before ++ s ∷ []) old.born router p r
        by_birth (inl first) = inl first
        by_birth (inr b) =
            let later = later_tagged (network_now (past_of net (reached w (untimed b.before)))) (reached w (untimed b.before)) b.datagram router p q r same b.rests b.tag in
            inr (record {
              before = b.before;
              heard = b.heard;
              after = b.after ++ s ∷ [];
              parts = ap (λ xs. xs ++ s ∷ []) b.parts ∙ append_assoc b.before (b.heard ∷ b.after) (s ∷ []);
              at = b.at;
              datagram = b.datagram;
              iface = b.iface;
              now = b.now;
              event = b.event;
              rests = later.0;
              tag = later.1;
            })

    -- a route that is taken
    taken : (router : ℕ) (o t : State) → slice_get (reached w (untimed before)).states router ≡ Some o → (p : Prefix6) (r : RouteValue) (until : ℕ)
        → (h : HearsHere (network_now (past_of net (reached w (untimed before)))) (reached w (untimed before)) s.step.event s.step.answer router o t)
        → IsTaken (gateway_of o (max o.last h.now) (arrival_of (network_now (past_of net (reached w (untimed before)))) h.sent h.iface h.now)) h.hears.entries p r until
        → IsAged net w start (before ++ s ∷ []) after router p r until
    taken router o t at p r until h got =
        let here : router_of s.step.event ≡ router = ap router_of h.event in
        let on : StartsAnew router s.step.event → ⊥ = subst (λ (e : Event). StartsAnew router e → ⊥) (sym h.event) (λ start. start) in
        let all = reached_here before (s ∷ after) parts in
        let state = all.states router o at in
        let rests = taken_tagged (network_now (past_of net v)) (now_zoned v.reconfigurations net all.zoned) v s.step.event s.step.answer router o t state.node state.node_is state.config_is h p r until got in
        record {
          born = s.at;
          clock = λ u n. goes_on until o.last h.now u.at (moment_of u.step.event) s.at got.until_is (time_on router o at on u n)
              (subst (λ k. k + u.at ≤ moment_of u.step.event + 1_000 + s.at) (ap moment_of h.event) (clock_on router u here n));
          looked = λ k a mine look. soon k.at s.at (by_place k (split_at before (s ∷ []) a.0 k a.1));
          from = inr (record {
            before = before;
            heard = s;
            after = [];
            parts = refl;
            at = refl;
            datagram = h.datagram;
            iface = h.iface;
            now = h.now;
            event = h.event;
            rests = rests.0;
            tag = rests.1;
          });
        }
      where
        goes_on : (until l n u m a : ℕ) → until ≡ max l n + timeout → l + u ≤ m + 1_000 + a → n + u ≤ m + 1_000 + a → until + u ≤ m + 181_000 + a
        goes_on until l n u m a e f g = omega arith

        soon : (a b : ℕ) → a ≤ b → a < b + 181_000
        soon a b e = omega arith

        up : (a b c : ℕ) → a ≤ b → b ≤ c → a ≤ c
        up a b c e f = omega arith

        by_place : (k : Timed) → At before k ⊎ At (s ∷ []) k → k.at ≤ s.at
        by_place k (inl b) = up k.at x s.at (is.past k b) from.0
        by_place k (inr b) = by b.0 b.1
          where
            by : (i : ℕ) → slice_get (s ∷ []) i ≡ Some k → k.at ≤ s.at
            by zero e = subst (λ (y : Timed). y.at ≤ s.at) (Some-same s k e) (le_refl s.at)
            by (suc i) e = absurd (None-Some k e)

    next : IsAgedWorld net w start (before ++ s ∷ []) s.at after
    next =
        record {
          past = λ k a. by_place k (split_at before (s ∷ []) a.0 k a.1);
          no_later = λ bound begun all. all s (at_right before (s ∷ []) s (0, refl));
          time = λ router t at. next_time router t (there router t at);
          rows = λ router t at p r until held clock. row router t (there router t at) p r until held clock;
        }
      where
        there : (router : ℕ) (t : State) → slice_get (reached w (untimed (before ++ s ∷ []))).states router ≡ Some t → slice_get s.step.after.states router ≡ Some t
        there router t at = ap (λ (y : World). slice_get y.states router) (sym (reached_next before s w)) ∙ at

        up : (a b c : ℕ) → a ≤ b → b ≤ c → a ≤ c
        up a b c e f = omega arith

        by_place : (k : Timed) → At before k ⊎ At (s ∷ []) k → k.at ≤ s.at
        by_place k (inl b) = up k.at x s.at (is.past k b) from.0
        by_place k (inr b) = by b.0 b.1
          where
            by : (i : ℕ) → slice_get (s ∷ []) i ≡ Some k → k.at ≤ s.at
            by zero e = subst (λ (y : Timed). y.at ≤ s.at) (Some-same s k e) (le_refl s.at)
            by (suc i) e = absurd (None-Some k e)

        row : (router : ℕ) (t : State) → slice_get s.step.after.states router ≡ Some t → (p : Prefix6) (r : RouteValue) (until : ℕ) → map_of.get t.table p ≡ Some r → r.clock ≡ Live until
            → IsAged net w start (before ++ s ∷ []) after router p r until
        row router t at p r until held clock = by (came router t at)
          where
            by : (o : State) × (slice_get (reached w (untimed before)).states router ≡ Some o) × IsAnyStep (network_now (past_of net (reached w (untimed before)))) (reached w (untimed before)) s.step.event s.step.answer router o t
                → IsAged net w start (before ++ s ∷ []) after router p r until
            by c =
                elim (c.2.live p r until held clock) [
                  | inl q ↦ kept router p q.0 r until q.2 (λ start. c.2.none_live start p r until held clock) (λ look here. c.2.looked look here p r until held clock) (is.rows router c.0 c.1 p q.0 until q.1 (sym q.2.clock ∙ clock))
                  | inr h ↦ taken router c.0 t c.1 p r until h.0 h.1
                ]

  -- ---- at the beginning, and at every moment

  first : IsAgedWorld net w start [] start history
  first =
      record {
        past = λ k a. absurd (None-Some k a.1);
        no_later = λ bound begun all. begun;
        time = λ router s at t n. sum s.last t.at (moment_of t.step.event) (from_at start history recent.in_time t (next_at history router t n)) (since router s at t n);
        rows = λ router s at p r until is clock. row router s at p r until clock
            (subst (IsReachedBy s.config s.last p r) clock (((reached_here [] history refl).states router s at).reached.rows p r is).reached);
      }
    where
      since : (router : ℕ) (s : State) → slice_get w.states router ≡ Some s → (t : Timed) → IsNext history router t → s.last + (t.at - start) ≤ moment_of t.step.event + 1_000
      since router s at t n =
          recent.since n.before t n.after n.parts (subst (λ k. StaysUp k (n.before ++ t ∷ [])) (sym n.router_is) (All-from_recursion (λ (x : Timed). StartsAnew router x.step.event → ⊥) (n.before ++ t ∷ []) n.up))
          s (ap (slice_get w.states) n.router_is ∙ at)

      sum : (l t m : ℕ) → start ≤ t → l + (t - start) ≤ m + 1_000 → l + t ≤ m + 1_000 + start
      sum l t m e f = omega arith

      row : (router : ℕ) (s : State) → slice_get w.states router ≡ Some s → (p : Prefix6) (r : RouteValue) (until : ℕ) → r.clock ≡ Live until → IsReachedBy s.config s.last p r (Live until)
          → IsAged net w start [] history router p r until
      row router s at p r until clock reached =
          record {
            born = start;
            clock = λ t n. over s.last t.at (moment_of t.step.event) until reached.2
                (sum s.last t.at (moment_of t.step.event) (from_at start history recent.in_time t (next_at history router t n)) (since router s at t n));
            looked = λ k a here look. absurd (None-Some k a.1);
            from = inl refl;
          }
        where
          over : (l t m u : ℕ) → u ≤ l + timeout → l + t ≤ m + 1_000 + start → u + t ≤ m + 181_000 + start
          over l t m u e f = omega arith

  go_on : (mid before after : List Timed) (x : ℕ) → history ≡ before ++ (mid ++ after) → AreFrom x (mid ++ after) → IsAgedWorld net w start before x (mid ++ after)
      → (y : ℕ) × IsAgedWorld net w start (before ++ mid) y after
  go_on [] before after x parts from is = (x, subst (λ xs. IsAgedWorld net w start xs x after) (sym (append-nil before)) is)
  go_on (s ∷ mid) before after x parts from is =
      let rest = go_on mid (before ++ s ∷ []) after s.at (parts ∙ sym (append_assoc before (s ∷ []) (mid ++ after))) from.1 (next before x s (mid ++ after) parts from is) in
      (rest.0, subst (λ xs. IsAgedWorld net w start xs rest.0 after) (append_assoc before (s ∷ []) mid) rest.1)

  pub aged_at : (before after : List Timed) → history ≡ before ++ after → (y : ℕ) × IsAgedWorld net w start before y after
  aged_at before after parts =
      go_on before [] after start parts (subst (AreFrom start) parts recent.in_time) (subst (IsAgedWorld net w start [] start) parts first)
