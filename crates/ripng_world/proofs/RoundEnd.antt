-- A synchronous round takes least costs within k hops to least costs within k + 1.
use Rattle.std.proofs.Common.{◌≡◌, ◌≢◌, ◌⊎◌, inl, inr, ℕ, suc, ◌+◌, ◌<◌, ◌≤◌, Bool, true, false, ◌&&◌, ◌==◌, List, [], ◌∷◌, ◌++◌, map, length, All, Contains, Option, Some, None, option_map, option_and_then, unwrap_or, slice_get, refl, ap, ap₂, sym, subst, ◌∙◌, arith, le_refl, le_trans, append-nil}
use Rattle.std.specs.List.{AllByRecursion}
use Rattle.std.specs.FinMap as map_of
use Rattle.std.proofs.lemmas.Bool.{eq-eqb, eqb-true}
use Rattle.std.proofs.lemmas.Option.{slice_get_within, get_or_from_slice_get}
use Rattle.std.proofs.lemmas.List.Elements.{recursion_from_All}
use Rattle.prefix6.specs.Prefix.{Prefix6, cleared}
use Rattle.route_table.specs.Route.{RouteValue, infinity}
use Rattle.route_table.specs.declared.route.Origin.{Origin}
use Rattle.route_table.specs.declared.route.Origin.TheVariants.{Own, Learned}
use Rattle.route_table.specs.declared.route.Clock.TheVariants.{Live}
use Rattle.route_table.proofs.TableLaws.{Some-same, None-Some}
use Rattle.router_core.specs.Adoption.{is_through}
use Rattle.router_core.specs.Timers.{timeout}
use Rattle.router_core.specs.Output.{is_learned_on}
use Rattle.router_core.specs.Machine.{State}
use Rattle.ripng_world.specs.declared.network.NetInterface.{NetInterface}
use Rattle.ripng_world.specs.declared.event.Sent.{Sent}
use Rattle.ripng_world.specs.Network.{Network, Node, config_of, interface_at, AreLinked, OwnsPrefixes, AreZoned, HasDistinctAddresses}
use Rattle.ripng_world.specs.Walks.{Hop, Reaches, cost, cost_of_interface}
use Rattle.ripng_world.specs.World.{World, Deliver, address_at}
use Rattle.ripng_world.specs.Rounds.{Round, router_of, moment_of, IsDeliveryOf, IsSynchronousRound, IsMomentOf}
use Rattle.ripng_world.specs.Network.{IsUsable}
use Rattle.ripng_world.specs.Convergence.{IsNeverQuiet, FitsTables}
use Rattle.ripng_world.proofs.Each.{each_from_places, each_at_place}
use Rattle.ripng_world.proofs.Members.{At, at_right, get_left, get_past, at_from_contains}
use Rattle.ripng_world.proofs.Improving.{RouteAt, IsTight, HasShape, IsFine}
use Rattle.ripng_world.proofs.RoundTicks.{AreTicking, TellsAll, Tells, ticks_done, IsAfterTicks, like_route}
use Rattle.ripng_world.proofs.RoundDeliveries.{AreHearing, IsBoundAt, IsFreshClock, gateway_at, deliveries_done, AreDelivered, HasHeardEvent}
use Rattle.ripng_world.proofs.RoundStays.{ticks_stay, hearings_stay}

-- ---- moments

contains_from : {X : Type 0} (xs : List X) (x : X) → At xs x → Contains xs x
contains_from xs x a = (a.0, slice_get_within xs a.0 x a.1, get_or_from_slice_get xs a.0 x x a.1)

tick_moments : (round : Round) → AllByRecursion (λ e. IsMomentOf round (router_of e) (moment_of e)) round.ticks
tick_moments round =
    each_from_places (λ e. IsMomentOf round (router_of e) (moment_of e)) round.ticks
    (λ i e is. record { event = e; happens = contains_from (round.ticks ++ round.deliveries) e (i, get_left round.ticks round.deliveries i e is); router_is = refl; moment_is = refl })

delivery_moments : (round : Round) → AllByRecursion (λ e. IsMomentOf round (router_of e) (moment_of e)) round.deliveries
delivery_moments round =
    each_from_places (λ e. IsMomentOf round (router_of e) (moment_of e)) round.deliveries
    (λ i e is. record { event = e; happens = contains_from (round.ticks ++ round.deliveries) e (at_right round.ticks round.deliveries e (i, is)); router_is = refl; moment_is = refl })

-- ---- settled networks

pub record IsSettledState (net : Network) (base : World) (k : ℕ) (moments : ℕ → Type 0) (router : ℕ) (s : State) : Type 0 where
  pub node : Node
  pub node_is : slice_get net router ≡ Some node
  pub config_is : s.config ≡ config_of node
  pub fine : (p : Prefix6) (r : RouteValue) → map_of.get s.table p ≡ Some r → IsFine net base k moments router s.last p r

-- between rounds: each route is backed by a walk of at most k hops, its gateway is lower and would tell it, and each such walk has a route that is not dearer
pub record IsSettled (net : Network) (k : ℕ) (moments : ℕ → ℕ → Type 0) (w : World) : Type 0 where
  pub states : (router : ℕ) (s : State) → slice_get w.states router ≡ Some s → IsSettledState net w k (moments router) router s
  pub everyone : (router : ℕ) (node : Node) → slice_get net router ≡ Some node → (s : State) × (slice_get w.states router ≡ Some s)
  pub complete : (router : ℕ) (p : Prefix6) (metric tag : ℕ) (walk : List Hop) → Reaches net router p metric tag walk → length walk ≤ k → metric < infinity
      → (r : RouteValue) × RouteAt w router p r × (r.metric ≤ metric)

wider : (net : Network) (base : World) (k k' : ℕ) (moments moments' : ℕ → Type 0) (router last : ℕ) (p : Prefix6) (r : RouteValue) → k ≤ k' → ((x : ℕ) → moments x → moments' x)
    → IsFine net base k moments router last p r → IsFine net base k' moments' router last p r
wider net base k k' moments moments' router last p r more also f =
    record {
      is_prefix = f.is_prefix;
      walk = f.walk;
      hops = le_trans f.hops more;
      reaches = f.reaches;
      low = f.low;
      positive = f.positive;
      shape = by_origin r.origin f.shape;
    }
  where
    by_origin : (x : Origin) → HasShape net base moments router last p r.metric r.clock x → HasShape net base moments' router last p r.metric r.clock x
    by_origin Own s = s
    by_origin (Learned i h m) s = (s.0, s.1, s.2, record { ahead = s.3.ahead; since = s.3.since; of_router = also s.3.since s.3.of_router; within = s.3.within })

module _ (net : Network) (usable : IsUsable net) (owns : OwnsPrefixes net) (noisy : IsNeverQuiet net) (distinct : HasDistinctAddresses net) (zoned : AreZoned net) (fits : FitsTables net)
    (k : ℕ) (previous : ℕ → ℕ → Type 0) (w w' : World) (settled : IsSettled net k previous w) (round : Round) (synchronous : IsSynchronousRound net w round w')
    (close_both : (router x y : ℕ) → previous router x ⊎ IsMomentOf round router x → IsMomentOf round router y → (x < y + timeout) × (y < x + timeout)) where
  abbrev current : ℕ → ℕ → Type 0
  current = IsMomentOf round

  abbrev both : ℕ → ℕ → Type 0
  both router x = previous router x ⊎ current router x

  close : (router x y : ℕ) → both router x → current router y → y < x + timeout
  close router x y a b = (close_both router x y a b).1

  begins : AreTicking net usable owns noisy fits w k both current close w []
  begins =
      record {
        states = λ router s is. let t = settled.states router s is in
            record {
              old = s;
              old_is = is;
              node = t.node;
              node_is = t.node_is;
              config_is = t.config_is;
              same = λ p. refl;
              fine = λ p r at. wider net w k k (previous router) (both router) router s.last p r (le_refl _) (λ x m. inl m) (t.fine p r at);
            };
        sent_is = sym (append-nil w.sent);
        all_updates = tt;
      }

  ticked : IsAfterTicks net usable owns noisy fits w k both current close [] round.ticks synchronous.after_ticks
  ticked = ticks_done net usable owns noisy fits w k both current close round.ticks w synchronous.after_ticks [] begins (tick_moments round) synchronous.all_tick

  abbrev new : List Sent
  new = [] ++ ticked.later

  hears : AreHearing net usable distinct zoned fits w k both current (λ router x m. inr m) close new ticked.ticking.all_updates synchronous.after_ticks
  hears =
      record {
        states = λ router s is. let t = ticked.ticking.states router s is in
            record {
              old = t.old;
              old_is = t.old_is;
              node = t.node;
              node_is = t.node_is;
              config_is = t.config_is;
              fine = λ p r at. wider net w k (suc k) (both router) (both router) router s.last p r (omega arith) (λ x m. m) (t.fine p r at);
              better = λ p r at. let l = like_route s.table t.old.table (λ q. sym (t.same q)) p r at in (l.0, l.1, as_low l.2.metric);
            };
        kept = λ i d is. ap (λ (ds : List Sent). slice_get ds i) ticked.ticking.sent_is ∙ is;
      }
    where
      as_low : {a b : ℕ} → a ≡ b → b ≤ a
      as_low e = omega arith

  heard : AreDelivered net usable distinct zoned fits w k both current (λ router x m. inr m) close new ticked.ticking.all_updates synchronous.after_ticks w' round.deliveries
  heard =
      deliveries_done net usable distinct zoned fits w k both current (λ router x m. inr m) close new ticked.ticking.all_updates round.deliveries synchronous.after_ticks w' hears (delivery_moments round)
      (recursion_from_All (IsDeliveryOf (length w.sent) (length (w.sent ++ new))) round.deliveries
      (subst (λ (ds : List Sent). All (IsDeliveryOf (length w.sent) (length ds)) round.deliveries) ticked.ticking.sent_is synchronous.only_these))
      synchronous.all_heard

  abbrev BoundAt : ℕ → Prefix6 → ℕ → ℕ → ℕ → Type 0
  BoundAt router p bound iface from = IsBoundAt net usable distinct zoned fits w k both current (λ r x m. inr m) close new ticked.ticking.all_updates w' router p bound iface from

  -- what a router had and was free to tell has been heard
  heard_from : (teller iface' : ℕ) (p : Prefix6) (t : RouteValue) → RouteAt w teller p t → is_learned_on iface' t.origin ≡ false
      → (router iface : ℕ) (linked : AreLinked net teller iface' router iface) → router ≢ teller → cost_of_interface net router iface + t.metric < infinity
      → BoundAt router p (cost_of_interface net router iface + t.metric) iface (address_at net teller iface')
  heard_from teller iface' p t at clean router iface linked other low =
      let inside : teller < length net = in_net (slice_get net teller) refl linked.here_is in
      let named = at_from_contains (map router_of round.ticks) teller (synchronous.each_ticks teller inside) in
      let tells : TellsAll net usable owns noisy fits w k both current close new teller =
      each_at_place (TellsAll net usable owns noisy fits w k both current close new) (map router_of round.ticks) ticked.all_tell named.0 teller named.1 in
      let x : Tells net usable owns noisy fits w k both current close new teller iface' p = tells iface' linked.here linked.here_is p t at in
      let place = get_past w.sent new x.sent x.stands in
      let linked' : AreLinked net x.sent.router x.sent.iface router iface =
      subst (λ r. AreLinked net r x.sent.iface router iface) (sym x.by_router) (subst (λ i. AreLinked net teller i router iface) (sym x.on_iface) linked) in
      let other' : router ≢ x.sent.router = λ same. other (same ∙ x.by_router) in
      let delivered = synchronous.each_delivered place.0 router iface x.sent place.1 (ap (λ (ds : List Sent). slice_get ds place.0) ticked.ticking.sent_is ∙ place.2) linked' (inl other') in
      let event = at_from_contains round.deliveries (Deliver place.0 router iface delivered.0) delivered.1 in
      let has = each_at_place (HasHeardEvent net usable distinct zoned fits w k both current (λ r x m. inr m) close new ticked.ticking.all_updates w') round.deliveries heard.heard event.0 (Deliver place.0 router iface delivered.0) event.1 in
      let b = has x.sent place.2 linked' other' x.entries x.spelled x.entry x.in_entries t
      (subst (λ r. RouteAt w r (cleared x.entry.addr x.entry.len) t) (sym x.by_router) (subst (λ (q : Prefix6). RouteAt w teller q t) (sym x.names) at))
      (subst (λ i. is_learned_on i t.origin ≡ false) (sym x.on_iface) clean) low in
      subst (λ a. BoundAt router p (cost_of_interface net router iface + t.metric) iface a) (ap₂ (λ r i. address_at net r i) x.by_router x.on_iface)
      (subst (λ (q : Prefix6). BoundAt router q (cost_of_interface net router iface + t.metric) iface (address_at net x.sent.router x.sent.iface)) x.names b)
    where
      in_net : (o : Option Node) → slice_get net teller ≡ o → option_and_then (λ (node : Node). slice_get node.interfaces iface') (slice_get net teller) ≡ Some linked.here → teller < length net
      in_net None is e = absurd (None-Some _ (sym (ap (option_and_then (λ (node : Node). slice_get node.interfaces iface')) is) ∙ e))
      in_net (Some node) is e = slice_get_within net teller node is

  row_of : (router : ℕ) (p : Prefix6) (bound iface from : ℕ) → BoundAt router p bound iface from → (s : State) → slice_get w'.states router ≡ Some s → (r : RouteValue) → map_of.get s.table p ≡ Some r
      → (r.metric ≤ bound) × (is_through (gateway_at iface from) r.origin ≡ true → IsFreshClock (current router) r.clock)
  row_of router p bound iface from b s is r at =
      let same_state : b.0 ≡ s = Some-same b.0 s (sym b.1 ∙ is) in
      let same : b.2.0 ≡ r = Some-same b.2.0 r (sym b.2.1 ∙ ap (λ (q : State). map_of.get q.table p) same_state ∙ at) in
      (subst (λ (x : RouteValue). x.metric ≤ bound) same b.2.2, subst (λ (x : RouteValue). is_through (gateway_at iface from) x.origin ≡ true → IsFreshClock (current router) x.clock) same b.2.3)

  -- a route of the beginning is still there, no dearer
  not_dearer : (router : ℕ) (s : State) → slice_get w'.states router ≡ Some s → (p : Prefix6) (q : RouteValue) → RouteAt w router p q → (r : RouteValue) × (map_of.get s.table p ≡ Some r) × (r.metric ≤ q.metric)
  not_dearer router s is p q at =
      let t = heard.hearing.states router s is in
      t.better p q (ap (λ (x : State). map_of.get x.table p) (Some-same t.old at.0 (sym t.old_is ∙ at.1)) ∙ at.2)

  state_later : (router : ℕ) (s : State) → slice_get w.states router ≡ Some s → (t : State) × (slice_get w'.states router ≡ Some t)
  state_later router s is =
      let stayed = ticks_stay net round.ticks w synchronous.after_ticks synchronous.all_tick router s is in
      hearings_stay net round.deliveries synchronous.after_ticks w' synchronous.all_heard router stayed.0 stayed.1

  costs_one : (router iface : ℕ) (here : NetInterface) → interface_at net router iface ≡ Some here → 1 ≤ cost_of_interface net router iface
  costs_one router iface here is =
      subst (λ (o : Option NetInterface). 1 ≤ unwrap_or (option_map (λ i. i.interface.cost) o) infinity) (sym is) (usable.costs router iface here is).0

  back : (a i b j : ℕ) → AreLinked net a i b j → AreLinked net b j a i
  back a i b j l = record { here = l.there; there = l.here; here_is = l.there_is; there_is = l.here_is; same_link = sym l.same_link }

  -- from a link to a third router of it
  across : (a i b j c l : ℕ) → AreLinked net a i b j → AreLinked net b j c l → AreLinked net c l a i
  across a i b j c l x y =
      let same : x.there ≡ y.here = Some-same x.there y.here (sym x.there_is ∙ y.here_is) in
      record { here = y.there; there = x.here; here_is = y.there_is; there_is = x.here_is; same_link = sym y.same_link ∙ ap (λ (i : NetInterface). i.link) (sym same) ∙ sym x.same_link }

  from_is : (sender iface from : ℕ) → option_map (λ (i : NetInterface). i.interface.addr) (interface_at net sender iface) ≡ Some from → address_at net sender iface ≡ from
  from_is sender iface from e = ap (λ o. unwrap_or o 0) e

  -- a gateway has not become poisoned where it serves
  module _ (router : ℕ) (s : State) (is : slice_get w'.states router ≡ Some s) (p : Prefix6) (r : RouteValue) (at : map_of.get s.table p ≡ Some r) (low : r.metric < infinity)
      (iface from : ℕ) (t : IsTight net w router p iface from r.metric) where
    gateway_state : (g : State) × (slice_get w'.states t.sender ≡ Some g)
    gateway_state = state_later t.sender t.at.0 t.at.1

    gateway_route : (q : RouteValue) × (map_of.get gateway_state.0.table p ≡ Some q) × (q.metric ≤ t.route.metric)
    gateway_route = not_dearer t.sender gateway_state.0 gateway_state.1 p t.route t.at

    not_from : (from' : ℕ) → IsTight net w t.sender p t.sender_iface from' gateway_route.0.metric → ⊥
    not_from from' u = by_router (router == u.sender) refl
      where
        one : 1 ≤ cost_of_interface net router iface
        one = costs_one router iface t.linked.here t.linked.here_is

        one' : 1 ≤ cost_of_interface net t.sender t.sender_iface
        one' = costs_one t.sender t.sender_iface u.linked.here u.linked.here_is

        circle : (c m0 m c' u0 q : ℕ) → 1 ≤ c' → c + m0 ≤ m → c' + u0 ≤ q → q ≤ m0 → m ≤ u0 → ⊥
        circle c m0 m c' u0 q a b d e f = omega arith

        shortcut : (c m0 m c' u0 q : ℕ) → 1 ≤ c' → c + m0 ≤ m → c' + u0 ≤ q → q ≤ m0 → m ≤ c + u0 → ⊥
        shortcut c m0 m c' u0 q a b d e f = omega arith

        lower : (c m0 m c' u0 q : ℕ) → c + m0 ≤ m → c' + u0 ≤ q → q ≤ m0 → m < 16 → c + u0 < 16
        lower c m0 m c' u0 q b d e f = omega arith

        by_router : (b : Bool) → (router == u.sender) ≡ b → ⊥
        by_router true e =
            let mine = not_dearer router s is p u.route (subst (λ n. RouteAt w n p u.route) (sym (eqb-true router u.sender e)) u.at) in
            let same : mine.0 ≡ r = Some-same mine.0 r (sym mine.1 ∙ at) in
            circle (cost_of_interface net router iface) t.route.metric r.metric (cost_of_interface net t.sender t.sender_iface) u.route.metric gateway_route.0.metric one' t.above u.above gateway_route.2
            (subst (λ (x : RouteValue). x.metric ≤ u.route.metric) same mine.2)
        by_router false e =
            let b = heard_from u.sender u.sender_iface p u.route u.at u.unpoisoned router iface (across router iface t.sender t.sender_iface u.sender u.sender_iface t.linked u.linked)
            (λ same. clash (sym (eq-eqb router u.sender same) ∙ e))
            (lower (cost_of_interface net router iface) t.route.metric r.metric (cost_of_interface net t.sender t.sender_iface) u.route.metric gateway_route.0.metric t.above u.above gateway_route.2 low) in
            shortcut (cost_of_interface net router iface) t.route.metric r.metric (cost_of_interface net t.sender t.sender_iface) u.route.metric gateway_route.0.metric one' t.above u.above gateway_route.2
            (row_of router p _ iface _ b s is r at).0
          where
            clash : true ≡ false → ⊥
            clash e = cc

    still_clean : is_learned_on t.sender_iface gateway_route.0.origin ≡ false
    still_clean = by_answer (is_learned_on t.sender_iface gateway_route.0.origin) refl
      where
        by_origin : (x : Origin) → gateway_route.0.origin ≡ x → HasShape net w (both t.sender) t.sender gateway_state.0.last p gateway_route.0.metric gateway_route.0.clock x → is_learned_on t.sender_iface x ≡ true → ⊥
        by_origin Own o shape e = cc
        by_origin (Learned i f h) o shape e =
            not_from f (subst (λ n. IsTight net w t.sender p n f gateway_route.0.metric) (eqb-true i t.sender_iface e) shape.2)

        by_answer : (b : Bool) → is_learned_on t.sender_iface gateway_route.0.origin ≡ b → is_learned_on t.sender_iface gateway_route.0.origin ≡ false
        by_answer false e = e
        by_answer true e =
            absurd (by_origin gateway_route.0.origin refl ((heard.hearing.states t.sender gateway_state.0 gateway_state.1).fine p gateway_route.0 gateway_route.1).shape e)

    -- the gateway is still lower, and free to tell
    tight_again : IsTight net w' router p iface from r.metric
    tight_again =
        record {
          sender = t.sender;
          sender_iface = t.sender_iface;
          route = gateway_route.0;
          linked = t.linked;
          apart = t.apart;
          from_is = t.from_is;
          at = (gateway_state.0, gateway_state.1, gateway_route.1);
          unpoisoned = still_clean;
          above = lower (cost_of_interface net router iface) gateway_route.0.metric t.route.metric r.metric gateway_route.2 t.above;
        }
      where
        lower : (c q m r : ℕ) → q ≤ m → c + m ≤ r → c + q ≤ r
        lower c q m r a b = omega arith

    -- and it has been heard in this round
    fresh_again : (next_hop : ℕ) → r.origin ≡ Learned iface from next_hop → IsFreshClock (current router) r.clock
    fresh_again next_hop origin =
        let b = heard_from t.sender t.sender_iface p t.route t.at t.unpoisoned router iface (back router iface t.sender t.sender_iface t.linked) t.apart (below (cost_of_interface net router iface + t.route.metric) r.metric t.above low) in
        (row_of router p _ iface _ b s is r at).1
        (ap (is_through (gateway_at iface (address_at net t.sender t.sender_iface))) origin
        ∙ ap₂ (λ x y. x && y) (eq-eqb iface iface refl) (eq-eqb from (address_at net t.sender t.sender_iface) (sym (from_is t.sender t.sender_iface from t.from_is))))
      where
        below : (a b : ℕ) → a ≤ b → b < 16 → a < 16
        below a b e f = omega arith

  settles : (router : ℕ) (s : State) → slice_get w'.states router ≡ Some s → (p : Prefix6) (r : RouteValue) → map_of.get s.table p ≡ Some r → IsFine net w' (suc k) (current router) router s.last p r
  settles router s is p r at =
      let f = (heard.hearing.states router s is).fine p r at in
      record { is_prefix = f.is_prefix; walk = f.walk; hops = f.hops; reaches = f.reaches; low = f.low; positive = f.positive; shape = by_origin f.low r.origin refl f.shape }
    where
      same_until : (a b : ℕ) → Live a ≡ Live b → a ≡ b
      same_until a b e = cc

      by_origin : r.metric < infinity → (x : Origin) → r.origin ≡ x → HasShape net w (both router) router s.last p r.metric r.clock x → HasShape net w' (current router) router s.last p r.metric r.clock x
      by_origin low Own o shape = shape
      by_origin low (Learned iface from next_hop) o shape =
          let c = fresh_again router s is p r at low iface from shape.2 next_hop o in
          let u : c.0 ≡ shape.0 = same_until c.0 shape.0 (sym c.2 ∙ shape.1) in (
            shape.0,
            shape.1,
            tight_again router s is p r at low iface from shape.2,
            record { ahead = shape.3.ahead; since = c.1; of_router = c.3; within = subst (λ n. c.1 + timeout ≤ n) u c.4 },
          )

  has_node : (router iface : ℕ) (here : NetInterface) → interface_at net router iface ≡ Some here → (node : Node) × (slice_get net router ≡ Some node)
  has_node router iface here e = go (slice_get net router) refl
    where
      go : (o : Option Node) → slice_get net router ≡ o → (node : Node) × (slice_get net router ≡ Some node)
      go None is = absurd (None-Some here (sym (ap (option_and_then (λ (node : Node). slice_get node.interfaces iface)) is) ∙ e))
      go (Some node) is = (node, is)

  -- each walk of one hop more has a route that is not dearer
  reached_by : (router : ℕ) (p : Prefix6) (metric tag : ℕ) (walk : List Hop) → Reaches net router p metric tag walk → length walk ≤ suc k → metric < infinity
      → (r : RouteValue) × RouteAt w' router p r × (r.metric ≤ metric)
  reached_by router p metric tag [] reach hops low =
      let q = settled.complete router p metric tag [] reach (omega arith) low in
      let s = state_later router q.1.0 q.1.1 in
      let r = not_dearer router s.0 s.1 p q.0 q.1 in
      (r.0, (s.0, s.1, r.1), le_trans r.2 q.2)
  reached_by router p metric tag (h ∷ rest) reach hops low =
      let q = settled.complete h.router p (cost net h.router rest) tag rest (record { is_walk = reach.is_walk.1; costs = refl; owner = reach.owner }) (omega arith)
      (rest_low (cost_of_interface net router h.iface) (cost net h.router rest) metric reach.costs low) in
      by_answer q.0 q.1 q.2 (is_learned_on h.router_iface q.0.origin) refl
    where
      rest_low : (c d m : ℕ) → c + d ≡ m → m < 16 → d < 16
      rest_low c d m e f = omega arith

      low_sum : (c q d m : ℕ) → q ≤ d → c + d ≡ m → m < 16 → c + q < 16
      low_sum c q d m a e f = omega arith

      le_sum : (c q d m x : ℕ) → q ≤ d → c + d ≡ m → x ≤ c + q → x ≤ m
      le_sum c q d m x a e f = omega arith

      via : (bound : ℕ) (iface from : ℕ) → BoundAt router p bound iface from → ((x : ℕ) → x ≤ bound → x ≤ metric) → (r : RouteValue) × RouteAt w' router p r × (r.metric ≤ metric)
      via bound iface from b up = (b.2.0, (b.0, b.1, b.2.1), up b.2.0.metric b.2.2)

      poisoned : (q : RouteValue) → RouteAt w h.router p q → q.metric ≤ cost net h.router rest → (from : ℕ) → IsTight net w h.router p h.router_iface from q.metric → (r : RouteValue) × RouteAt w' router p r × (r.metric ≤ metric)
      poisoned q at below from u = by_router (router == u.sender) refl
        where
          drop : (c c' t q d m x : ℕ) → c' + t ≤ q → q ≤ d → c + d ≡ m → x ≤ t → x ≤ m
          drop c c' t q d m x a b e f = omega arith

          less : (c c' t q d m : ℕ) → c' + t ≤ q → q ≤ d → c + d ≡ m → m < 16 → c + t < 16
          less c c' t q d m a b e f = omega arith

          under : (c c' t q d m x : ℕ) → c' + t ≤ q → q ≤ d → c + d ≡ m → x ≤ c + t → x ≤ m
          under c c' t q d m x a b e f = omega arith

          by_router : (b : Bool) → (router == u.sender) ≡ b → (r : RouteValue) × RouteAt w' router p r × (r.metric ≤ metric)
          by_router true e =
              let mine : RouteAt w router p u.route = subst (λ n. RouteAt w n p u.route) (sym (eqb-true router u.sender e)) u.at in
              let s = state_later router mine.0 mine.1 in
              let r = not_dearer router s.0 s.1 p u.route mine in
              (r.0, (s.0, s.1, r.1), drop (cost_of_interface net router h.iface) (cost_of_interface net h.router h.router_iface) u.route.metric q.metric (cost net h.router rest) metric r.0.metric u.above below reach.costs r.2)
          by_router false e =
              via (cost_of_interface net router h.iface + u.route.metric) h.iface (address_at net u.sender u.sender_iface)
              (heard_from u.sender u.sender_iface p u.route u.at u.unpoisoned router h.iface (across router h.iface h.router h.router_iface u.sender u.sender_iface reach.is_walk.0.1 u.linked)
              (λ same. clash (sym (eq-eqb router u.sender same) ∙ e))
              (less (cost_of_interface net router h.iface) (cost_of_interface net h.router h.router_iface) u.route.metric q.metric (cost net h.router rest) metric u.above below reach.costs low))
              (λ x up. under (cost_of_interface net router h.iface) (cost_of_interface net h.router h.router_iface) u.route.metric q.metric (cost net h.router rest) metric x u.above below reach.costs up)
            where
              clash : true ≡ false → ⊥
              clash e = cc

      by_origin : (q : RouteValue) → RouteAt w h.router p q → q.metric ≤ cost net h.router rest → (x : Origin) → (last : ℕ) → HasShape net w (previous h.router) h.router last p q.metric q.clock x → is_learned_on h.router_iface x ≡ true
          → (r : RouteValue) × RouteAt w' router p r × (r.metric ≤ metric)
      by_origin q at below Own last shape e = absurd (cc)
      by_origin q at below (Learned i f n) last shape e = poisoned q at below f (subst (λ m. IsTight net w h.router p m f q.metric) (eqb-true i h.router_iface e) shape.2)

      by_answer : (q : RouteValue) → RouteAt w h.router p q → q.metric ≤ cost net h.router rest → (b : Bool) → is_learned_on h.router_iface q.origin ≡ b → (r : RouteValue) × RouteAt w' router p r × (r.metric ≤ metric)
      by_answer q at below false clean =
          via (cost_of_interface net router h.iface + q.metric) h.iface (address_at net h.router h.router_iface)
          (heard_from h.router h.router_iface p q at clean router h.iface (back router h.iface h.router h.router_iface reach.is_walk.0.1) reach.is_walk.0.0
          (low_sum (cost_of_interface net router h.iface) q.metric (cost net h.router rest) metric below reach.costs low))
          (λ x up. le_sum (cost_of_interface net router h.iface) q.metric (cost net h.router rest) metric x below reach.costs up)
      by_answer q at below true clean =
          by_origin q at below q.origin at.0.last ((settled.states h.router at.0 at.1).fine p q at.2).shape clean

  pub next_settled : IsSettled net (suc k) current w'
  next_settled =
      record {
        states = λ router s is. let t = heard.hearing.states router s is in record { node = t.node; node_is = t.node_is; config_is = t.config_is; fine = settles router s is };
        everyone = λ router node is. let s = settled.everyone router node is in state_later router s.0 s.1;
        complete = reached_by;
      }
