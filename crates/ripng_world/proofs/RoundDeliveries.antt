-- The deliveries of a synchronous round: each bounds the metrics of the receiver, from then on.
use Rattle.std.proofs.Common.{◌≡◌, ◌≢◌, inl, inr, ℕ, suc, ◌+◌, min, max, ◌<◌, ◌≤◌, Bool, true, false, cond, MatchBool, MatchOption, List, [], ◌∷◌, ◌++◌, length, All, Option, Some, None, slice_get, refl, ap, sym, subst, ◌∙◌, arith, le_refl, le_trans}
use Rattle.std.specs.Prelude.{⊤}
use Rattle.std.specs.List.{AllByRecursion}
use Rattle.std.specs.FinMap as map_of
use Rattle.prefix6.specs.Prefix.{Prefix6}
use Rattle.prefix6.specs.Addr.{is_link_local}
use Rattle.ripng_wire.specs.declared.rte.Rte.{Rte}
use Rattle.ripng_wire.specs.declared.rte.Command.TheVariants.{Response}
use Rattle.ripng_wire.specs.Layout.{Spells}
use Rattle.ripng_wire.specs.Wire.{is_response}
use Rattle.ripng_wire.proofs.OneReading.{one_reading}
use Rattle.route_table.specs.Route.{RouteValue, infinity}
use Rattle.route_table.specs.declared.route.Clock.{Clock}
use Rattle.route_table.specs.declared.route.Clock.TheVariants.{Live}
use Rattle.route_table.proofs.TableLaws.{Some-same, None-Some}
use Rattle.router_core.specs.Received.{Received}
use Rattle.router_core.specs.Faults.{fault}
use Rattle.router_core.specs.Offers.{offer_at, prefix_named}
use Rattle.router_core.specs.Adoption.{Gateway, is_through, metric_through}
use Rattle.router_core.specs.Timers.{timeout}
use Rattle.router_core.specs.Hearing.{Hearing}
use Rattle.router_core.specs.Output.{is_learned_on}
use Rattle.router_core.specs.Machine.{State, Arrives, Hears, Replies, Refuses, gateway_of}
use Rattle.router_core.specs.declared.answer.Answer.{Answer}
use Rattle.router_core.specs.declared.arrival.Fault.{Fault}
use Rattle.router_core.specs.declared.answer.NoteKind.TheVariants.{NoMemory}
use Rattle.ripng_world.specs.declared.event.Sent.{Sent}
use Rattle.ripng_world.specs.Network.{Network, Node, config_of, AreLinked, AreZoned, HasDistinctAddresses}
use Rattle.ripng_world.specs.Walks.{cost_of_interface}
use Rattle.ripng_world.specs.Truth.{IsNeighbor}
use Rattle.router_core.proofs.HearingSteps.{at_place}
use Rattle.ripng_world.specs.World.{World, Event, Deliver, Stranger, Tick, Restart, Shutdown, LinkDown, LinkUp, Reconfigure, RouterMoves, Delivers, address_at, arrival_of}
use Rattle.ripng_world.specs.Rounds.{router_of, moment_of, IsDeliveryOf, AllHeard}
use Rattle.ripng_world.specs.Network.{IsUsable}
use Rattle.ripng_world.specs.Convergence.{FitsTables}
use Rattle.ripng_world.proofs.Each.{each_at_place}
use Rattle.ripng_world.proofs.Members.{At, get_left, get_right}
use Rattle.ripng_world.proofs.WorldRuns.{not_own}
use Rattle.ripng_world.proofs.Undamaged.{no_fault, spelled_response}
use Rattle.ripng_world.proofs.Improving.{RouteAt, one_route, IsFine, IsBetter, FineOption, IsFreshThrough, IsHeardStep}
use Rattle.ripng_world.proofs.RoundHearing.{IsToldEntry, hearing_steps, hearing_bounds}
use Rattle.ripng_world.proofs.RoundTicks.{later_fine}
use Rattle.ripng_world.proofs.RoundNeighbors.{state_after, set_here, state_before, source_is, neighbor, is_another, not_mine}

-- ---- rows

-- a gateway as far as a route names it
abbrev pub gateway_at : ℕ → ℕ → Gateway
gateway_at iface from = record { iface = iface; cost = 0; from = from; moment = 0 }

abbrev pub IsFreshClock : (ℕ → Type 0) → Clock → Type 0
IsFreshClock current c = (until : ℕ) × (x : ℕ) × (c ≡ Live until) × current x × (x + timeout ≤ until)

-- the route is not worse, and if it has the gateway its clock is fresh if it was
abbrev pub IsRowStep : (ℕ → Type 0) → Option RouteValue → Option RouteValue → Type 0
IsRowStep current None b = ⊤
IsRowStep current (Some r) None = ⊥
IsRowStep current (Some r) (Some s) =
    (s.metric ≤ r.metric) × ((iface from : ℕ) → (is_through (gateway_at iface from) r.origin ≡ true → IsFreshClock current r.clock) → is_through (gateway_at iface from) s.origin ≡ true → IsFreshClock current s.clock)

row_trans : (current : ℕ → Type 0) (a b c : Option RouteValue) → IsRowStep current a b → IsRowStep current b c → IsRowStep current a c
row_trans current None b c x y = tt
row_trans current (Some r) None c x y = absurd x
row_trans current (Some r) (Some s) None x y = absurd y
row_trans current (Some r) (Some s) (Some t) x y = (le_trans y.0 x.0, λ i f was. y.1 i f (x.1 i f was))

row_refl : (current : ℕ → Type 0) (a : Option RouteValue) → IsRowStep current a a
row_refl current None = tt
row_refl current (Some r) = (le_refl _, λ i f was. was)

module _ (net : Network) (usable : IsUsable net) (distinct : HasDistinctAddresses net) (zoned : AreZoned net) (fits : FitsTables net) (base : World) (k : ℕ) (both current : ℕ → ℕ → Type 0)
    (among : (router x : ℕ) → current router x → both router x) (close : (router x y : ℕ) → both router x → current router y → y < x + timeout) where
  -- a router during the deliveries
  pub record IsHearing (router : ℕ) (s : State) : Type 0 where
    pub old : State
    pub old_is : slice_get base.states router ≡ Some old
    pub node : Node
    pub node_is : slice_get net router ≡ Some node
    pub config_is : s.config ≡ config_of node
    pub fine : (p : Prefix6) (r : RouteValue) → map_of.get s.table p ≡ Some r → IsFine net base (suc k) (both router) router s.last p r
    pub better : (p : Prefix6) (r : RouteValue) → map_of.get old.table p ≡ Some r → (x : RouteValue) × (map_of.get s.table p ≡ Some x) × (x.metric ≤ r.metric)

  abbrev pub IsUpdateOf : Sent → Type 0
  IsUpdateOf d = (entries : List Rte) × Spells Response entries d.bytes × AllByRecursion (IsToldEntry net base k d.router d.iface) entries

  -- the route is at most the bound, and its clock is fresh if it is through the gateway
  abbrev pub IsBoundedRow : ℕ → ℕ → ℕ → ℕ → Option RouteValue → Type 0
  IsBoundedRow router bound iface from o =
      (x : RouteValue) × (o ≡ Some x) × (x.metric ≤ bound) × (is_through (gateway_at iface from) x.origin ≡ true → IsFreshClock (current router) x.clock)

  row_keeps : (router bound iface from : ℕ) (a b : Option RouteValue) → IsRowStep (current router) a b → IsBoundedRow router bound iface from a → IsBoundedRow router bound iface from b
  row_keeps router bound iface from a b step row = go b (subst (λ (o : Option RouteValue). IsRowStep (current router) o b) row.1 step)
    where
      go : (b : Option RouteValue) → IsRowStep (current router) (Some row.0) b → IsBoundedRow router bound iface from b
      go None s = absurd s
      go (Some y) s = (y, refl, le_trans s.0 row.2, s.1 iface from row.3)

  -- the router waits
  waited : (router : ℕ) (s : State) (now n : ℕ) → IsHearing router s → current router now → n ≡ max s.last now → IsHearing router (record s { last = n })
  waited router s now n t now_of n_is =
      record {
        old = t.old;
        old_is = t.old_is;
        node = t.node;
        node_is = t.node_is;
        config_is = t.config_is;
        better = t.better;
        fine = λ p r is. later_fine net base (suc k) (suc k) (both router) (both router) router s.last now n p r (le_refl _) (λ x m. m) n_is (λ x m. close router x now m now_of) (t.fine p r is);
      }

  module _ (router iface : ℕ) (d : Sent) (linked : AreLinked net d.router d.iface router iface) (u : IsUpdateOf d) (other : router ≢ d.router)
      (s : State) (t : IsHearing router s) (now : ℕ) (now_of : current router now) (answer : Answer) (new : State)
      (hears : Hears s (max s.last now) (arrival_of net d iface now) answer new) (memory : All (λ n. n.kind ≢ NoMemory) answer.notes) where
    abbrev h : Hearing
    h = record { config = s.config; gateway = gateway_of s (max s.last now) (arrival_of net d iface now); entries = hears.entries; before = s.table; notes = answer.notes }

    near : IsNeighbor net router h.gateway d.router d.iface
    near = neighbor net d router iface (max s.last now) now s t.node t.node_is t.config_is linked other

    same_entries : u.0 ≡ hears.entries
    same_entries = (one_reading Response Response u.0 hears.entries d.bytes u.1 hears.read).1

    all_told : (place : ℕ) (e : Rte) → slice_get h.entries place ≡ Some e → IsToldEntry net base k d.router d.iface e
    all_told place e is = each_at_place (IsToldEntry net base k d.router d.iface) hears.entries (subst (AllByRecursion (IsToldEntry net base k d.router d.iface)) same_entries u.2) place e is

    steps : (p : Prefix6) → IsHeardStep net distinct base k (both router) router s.last h.gateway d.router d.iface near (current router) (among router) now now_of refl (λ x m. close router x now m now_of) p (map_of.get s.table p) (map_of.get hears.table p)
    steps p = hearing_steps net distinct fits base k (both router) router s.last h d.router d.iface near (current router) (among router) now now_of refl (λ x m. close router x now m now_of) all_told t.fine t.node t.node_is t.config_is hears.table hears.heard memory p

    pub heard_row : (p : Prefix6) → IsRowStep (current router) (map_of.get s.table p) (map_of.get hears.table p)
    heard_row p = go (map_of.get s.table p) (map_of.get hears.table p) (steps p).better (steps p).fresh
      where
        go : (a b : Option RouteValue)
            → IsBetter net distinct base k (both router) router s.last h.gateway d.router d.iface near (current router) (among router) now now_of refl (λ x m. close router x now m now_of) p a b
            → ((g : Gateway) → IsFreshThrough net distinct base k (both router) router s.last h.gateway d.router d.iface near (current router) (among router) now now_of refl (λ x m. close router x now m now_of) p g a
            → IsFreshThrough net distinct base k (both router) router s.last h.gateway d.router d.iface near (current router) (among router) now now_of refl (λ x m. close router x now m now_of) p g b)
            → IsRowStep (current router) a b
        go None b better fresh = tt
        go (Some r) None better fresh = absurd better
        go (Some r) (Some q) better fresh = (better, λ i f was. fresh (gateway_at i f) was)

    pub heard_state : IsHearing router (record s { table = hears.table; last = max s.last now })
    heard_state =
        record {
          old = t.old;
          old_is = t.old_is;
          node = t.node;
          node_is = t.node_is;
          config_is = t.config_is;
          fine = λ p r is. subst (FineOption net distinct base k (both router) router s.last h.gateway d.router d.iface near (current router) (among router) now now_of refl (λ x m. close router x now m now_of) p) is (steps p).fine;
          better = λ p r is. go p r (t.better p r is);
        }
      where
        go : (p : Prefix6) (r : RouteValue) → ((x : RouteValue) × (map_of.get s.table p ≡ Some x) × (x.metric ≤ r.metric)) → (x : RouteValue) × (map_of.get hears.table p ≡ Some x) × (x.metric ≤ r.metric)
        go p r b = by_end (map_of.get hears.table p) refl (subst (λ (o : Option RouteValue). IsRowStep (current router) o (map_of.get hears.table p)) b.1 (heard_row p))
          where
            by_end : (o : Option RouteValue) → map_of.get hears.table p ≡ o → IsRowStep (current router) (Some b.0) o → (x : RouteValue) × (map_of.get hears.table p ≡ Some x) × (x.metric ≤ r.metric)
            by_end None is step = absurd step
            by_end (Some y) is step = (y, is, le_trans step.0 b.2)

    pub heard_bound : (e : Rte) → At u.0 e → (r : RouteValue) → RouteAt base d.router (prefix_named e) r → is_learned_on d.iface r.origin ≡ false
        → cost_of_interface net router iface + r.metric < infinity
        → IsBoundedRow router (cost_of_interface net router iface + r.metric) iface (address_at net d.router d.iface) (map_of.get hears.table (prefix_named e))
    heard_bound e a r at clean low =
        let listed : slice_get h.entries a.0 ≡ Some e = ap (λ es. slice_get es a.0) (sym same_entries) ∙ a.1 in
        let v = all_told a.0 e listed in
        let same : v.route ≡ r = one_route base d.router (prefix_named e) v.route r (subst (λ (q : Prefix6). RouteAt base d.router q v.route) (sym v.named) v.at) at in
        let metric : e.metric ≡ r.metric = v.metric ∙ ap (λ (x : RouteValue). cond (is_learned_on d.iface x.origin) infinity x.metric) same ∙ ap (λ b. cond b infinity r.metric) clean in
        let bound : metric_through h.gateway (offer_at h.config h.gateway.from h.entries a.0 e) ≡ cost_of_interface net router iface + r.metric = total e.metric r.metric h.gateway.cost (cost_of_interface net router iface) metric near.cost low in
        let b = hearing_bounds net distinct fits base k (both router) router s.last h d.router d.iface near (current router) (among router) now now_of refl (λ x m. close router x now m now_of) all_told t.fine t.node t.node_is t.config_is hears.table hears.heard memory a.0 e listed
        (subst (λ n. n < infinity) (sym bound) low) in (
          b.0,
          b.1,
          subst (λ n. b.0.metric ≤ n) bound b.2,
          subst (IsFreshThrough net distinct base k (both router) router s.last h.gateway d.router d.iface near (current router) (among router) now now_of refl (λ x m. close router x now m now_of) (prefix_named e) h.gateway) b.1 b.3,
        )
      where
        total : (m r c d : ℕ) → m ≡ r → c ≡ d → d + r < 16 → min (m + c) 16 ≡ d + r
        total m r c d e f g = omega arith

  -- ---- the network during the deliveries

  module _ (new : List Sent) (updates : AllByRecursion IsUpdateOf new) where
    pub record AreHearing (w : World) : Type 0 where
      pub states : (router : ℕ) (s : State) → slice_get w.states router ≡ Some s → IsHearing router s
      pub kept : (i : ℕ) (d : Sent) → slice_get (base.sent ++ new) i ≡ Some d → slice_get w.sent i ≡ Some d

    abbrev pub IsBoundAt : World → ℕ → Prefix6 → ℕ → ℕ → ℕ → Type 0
    IsBoundAt w router p bound iface from = (s : State) × (slice_get w.states router ≡ Some s) × IsBoundedRow router bound iface from (map_of.get s.table p)

    -- the router has heard the datagram on the interface
    abbrev pub HasHeard : World → ℕ → ℕ → ℕ → Type 0
    HasHeard w datagram router iface =
        (d : Sent) → slice_get (base.sent ++ new) datagram ≡ Some d → AreLinked net d.router d.iface router iface → router ≢ d.router
        → (entries : List Rte) → Spells Response entries d.bytes → (e : Rte) → At entries e
        → (r : RouteValue) → RouteAt base d.router (prefix_named e) r → is_learned_on d.iface r.origin ≡ false → cost_of_interface net router iface + r.metric < infinity
        → IsBoundAt w router (prefix_named e) (cost_of_interface net router iface + r.metric) iface (address_at net d.router d.iface)

    abbrev pub StepsTo : World → World → Type 0
    StepsTo w w' = (router : ℕ) (s : State) → slice_get w.states router ≡ Some s
        → (t : State) × (slice_get w'.states router ≡ Some t) × ((p : Prefix6) → IsRowStep (current router) (map_of.get s.table p) (map_of.get t.table p))

    bound_stays : (w w' : World) → StepsTo w w' → (router : ℕ) (p : Prefix6) (bound iface from : ℕ) → IsBoundAt w router p bound iface from → IsBoundAt w' router p bound iface from
    bound_stays w w' steps router p bound iface from b =
        let t = steps router b.0 b.1 in
        (t.0, t.1, row_keeps router bound iface from (map_of.get b.0.table p) (map_of.get t.0.table p) (t.2 p) b.2)

    heard_stays : (w w' : World) → StepsTo w w' → (datagram router iface : ℕ) → HasHeard w datagram router iface → HasHeard w' datagram router iface
    heard_stays w w' steps datagram router iface h d is linked other entries spelled e at r here clean low =
        bound_stays w w' steps router (prefix_named e) _ iface _ (h d is linked other entries spelled e at r here clean low)

    -- what a router's move does, by what it does to its state
    move_done : (w w' : World) (router : ℕ) (x : Received) (answer : Answer) (m : RouterMoves w router (Arrives x) answer w') → AreHearing w
        → IsHearing router m.new → ((p : Prefix6) → IsRowStep (current router) (map_of.get m.old.table p) (map_of.get m.new.table p)) → AreHearing w' × StepsTo w w'
    move_done w w' router x answer m all state row = (
      record {
        states = λ r s is. elim (state_before w.states router m.new r s (ap (λ (ss : List State). slice_get ss r) (sym m.states) ∙ is)) [
          | inl same ↦ subst (λ q. IsHearing q s) same.0 (subst (IsHearing router) same.1 state)
          | inr there ↦ all.states r s there
        ];
        kept = λ i d is. ap (λ (ds : List Sent). slice_get ds i) m.sent ∙ get_left w.sent _ i d (all.kept i d is);
      },
      λ r s is. elim (state_after w.states router m.old m.new m.old_is r s is) [
        | inl a ↦ (
          m.new,
          ap (λ (ss : List State). slice_get ss r) m.states ∙ a.2,
          subst (λ q. (p : Prefix6) → IsRowStep (current q) (map_of.get s.table p) (map_of.get m.new.table p)) a.0 (subst (λ (o : State). (p : Prefix6) → IsRowStep (current router) (map_of.get o.table p) (map_of.get m.new.table p)) (sym a.1) row),
        )
        | inr b ↦ (s, ap (λ (ss : List State). slice_get ss r) m.states ∙ b, λ p. row_refl (current r) (map_of.get s.table p))
      ],
    )

    pub record IsDelivered (w w' : World) (datagram router iface : ℕ) : Type 0 where
      pub hearing : AreHearing w'
      pub steps : StepsTo w w'
      pub heard : HasHeard w' datagram router iface

    module _ (w w' : World) (all : AreHearing w) (datagram router iface now : ℕ) (now_of : current router now) (answer : Answer) (memory : All (λ n. n.kind ≢ NoMemory) answer.notes)
        (late : length base.sent ≤ datagram) (d : Delivers net w datagram router iface now answer w') (is : slice_get (base.sent ++ new) datagram ≡ Some d.sent) where
      update : IsUpdateOf d.sent
      update = let a = get_right base.sent new datagram d.sent late is in each_at_place IsUpdateOf new updates a.0 d.sent a.1

      abbrev old : State
      old = d.moves.old

      abbrev x : Received
      x = arrival_of net d.sent iface now

      state : IsHearing router old
      state = all.states router old d.moves.old_is

      stayed : (n : ℕ) → n ≡ max old.last now → d.moves.new ≡ record old { last = n } → AreHearing w' × StepsTo w w'
      stayed n n_is new_is =
          move_done w w' router x answer d.moves all (subst (IsHearing router) (sym new_is) (waited router old now n state now_of n_is))
          (λ p. subst (λ (s : State). IsRowStep (current router) (map_of.get old.table p) (map_of.get s.table p)) (sym new_is) (row_refl (current router) (map_of.get old.table p)))

      -- the same datagram, to a router that takes it
      heard_by : (other : router ≢ d.sent.router) (hears : Hears old (max old.last now) x answer d.moves.new) → IsDelivered w w' datagram router iface
      heard_by other hears =
          let both_done = move_done w w' router x answer d.moves all
          (subst (IsHearing router) (sym hears.state) (heard_state router iface d.sent d.linked update other old state now now_of answer d.moves.new hears memory))
          (λ p. subst (λ (s : State). IsRowStep (current router) (map_of.get old.table p) (map_of.get s.table p)) (sym hears.state) (heard_row router iface d.sent d.linked update other old state now now_of answer d.moves.new hears memory p)) in
          record { hearing = both_done.0; steps = both_done.1; heard = bounds }
        where
          moved_to : slice_get w'.states router ≡ Some d.moves.new
          moved_to = ap (λ (ss : List State). slice_get ss router) d.moves.states ∙ set_here w.states router old d.moves.new d.moves.old_is

          at_sent : (linked : AreLinked net d.sent.router d.sent.iface router iface) → (entries : List Rte) → Spells Response entries d.sent.bytes → (e : Rte) → At entries e
              → (r : RouteValue) → RouteAt base d.sent.router (prefix_named e) r → is_learned_on d.sent.iface r.origin ≡ false → cost_of_interface net router iface + r.metric < infinity
              → IsBoundAt w' router (prefix_named e) (cost_of_interface net router iface + r.metric) iface (address_at net d.sent.router d.sent.iface)
          at_sent linked entries spelled e at r here clean low =
              let same : entries ≡ update.0 = (one_reading Response Response entries update.0 d.sent.bytes spelled update.1).1 in (
                d.moves.new,
                moved_to,
                subst (λ (s : State). IsBoundedRow router (cost_of_interface net router iface + r.metric) iface (address_at net d.sent.router d.sent.iface) (map_of.get s.table (prefix_named e))) (sym hears.state)
                    (heard_bound router iface d.sent d.linked update other old state now now_of answer d.moves.new hears memory e (subst (λ (es : List Rte). At es e) same at) r here clean low),
              )

          bounds : HasHeard w' datagram router iface
          bounds e is' linked other' entries spelled entry at r here clean low =
              (subst (λ (q : Sent). (linked : AreLinked net q.router q.iface router iface) → (entries : List Rte) → Spells Response entries q.bytes → (e : Rte) → At entries e
              → (r : RouteValue) → RouteAt base q.router (prefix_named e) r → is_learned_on q.iface r.origin ≡ false → cost_of_interface net router iface + r.metric < infinity
              → IsBoundAt w' router (prefix_named e) (cost_of_interface net router iface + r.metric) iface (address_at net q.router q.iface))
              (Some-same d.sent e (sym is ∙ is')) at_sent) linked entries spelled entry at r here clean low

      delivered : (o : Option Fault) (b : Bool) → fault old.config x ≡ o → is_response d.sent.bytes ≡ b
          → MatchOption o (MatchBool b (Hears old (max old.last now) x answer d.moves.new) (Replies old (max old.last now) x answer d.moves.new)) (λ why. Refuses old (max old.last now) why answer d.moves.new)
          → IsDelivered w w' datagram router iface
      delivered o false none response moves = absurd (clash (sym (spelled_response update.0 d.sent.bytes update.1) ∙ response))
        where
          clash : true ≡ false → ⊥
          clash e = cc
      delivered None true none response hears =
          heard_by (is_another net zoned d.sent router iface old state.node state.node_is state.config_is d.linked (not_own old.config x none response)) hears
      delivered (Some why) true none response refuses =
          let done = stayed (max old.last now) refl refuses.state in
          record { hearing = done.0; steps = done.1; heard = bounds }
        where
          sound : router ≢ d.sent.router → fault old.config x ≡ None
          sound other =
              no_fault old.config x update.0 update.1 refl
              (ap is_link_local (source_is net d.sent router iface d.linked) ∙ usable.local d.sent.router d.sent.iface d.linked.here d.linked.here_is)
              (not_mine net distinct d.sent router iface old state.node state.node_is state.config_is d.linked other) refl

          bounds : HasHeard w' datagram router iface
          bounds e is' linked other entries spelled entry at r here clean low =
              absurd (None-Some why (sym (sound (λ same. other (same ∙ ap (λ (q : Sent). q.router) (Some-same d.sent e (sym is ∙ is'))))) ∙ none))

    -- what a delivery leaves
    abbrev pub HasHeardEvent : World → Event → Type 0
    HasHeardEvent w (Deliver datagram router iface now) = HasHeard w datagram router iface
    HasHeardEvent w _ = ⊤

    event_stays : (w w' : World) → StepsTo w w' → (e : Event) → HasHeardEvent w e → HasHeardEvent w' e
    event_stays w w' steps (Deliver datagram router iface now) h = heard_stays w w' steps datagram router iface h
    event_stays w w' steps (Stranger router x) h = tt
    event_stays w w' steps (Tick router now word) h = tt
    event_stays w w' steps (Restart router now) h = tt
    event_stays w w' steps (Shutdown router now) h = tt
    event_stays w w' steps (LinkDown router now on) h = tt
    event_stays w w' steps (LinkUp router now on) h = tt
    event_stays w w' steps (Reconfigure router now c) h = tt

    steps_trans : (a b c : World) → StepsTo a b → StepsTo b c → StepsTo a c
    steps_trans a b c f g router s is =
        let t = f router s is in
        let u = g router t.0 t.1 in
        (u.0, u.1, λ p. row_trans (current router) (map_of.get s.table p) (map_of.get t.0.table p) (map_of.get u.0.table p) (t.2 p) (u.2 p))

    -- the deliveries of the round, one after another
    pub record AreDelivered (w w' : World) (events : List Event) : Type 0 where
      pub hearing : AreHearing w'
      pub steps : StepsTo w w'
      pub heard : AllByRecursion (HasHeardEvent w') events

    known : (datagram : ℕ) → datagram < length (base.sent ++ new) → (d : Sent) × (slice_get (base.sent ++ new) datagram ≡ Some d)
    known datagram h = at_place (base.sent ++ new) datagram h

    pub deliveries_done : (events : List Event) (w w' : World) → AreHearing w → AllByRecursion (λ e. current (router_of e) (moment_of e)) events
        → AllByRecursion (IsDeliveryOf (length base.sent) (length (base.sent ++ new))) events → AllHeard net w events w' → AreDelivered w w' events
    deliveries_done [] w w' all moments these is =
        record { hearing = subst AreHearing (sym is) all; steps = subst (StepsTo w) (sym is) (λ r s here. (s, here, λ p. row_refl (current r) (map_of.get s.table p))); heard = tt }
    deliveries_done (Deliver datagram router iface now ∷ events) w w' all moments these run =
        let e : (d : Sent) × (slice_get (base.sent ++ new) datagram ≡ Some d) = known datagram these.0.1 in
        let d : Delivers net w datagram router iface now run.1 run.0 = run.2 in
        let is : slice_get (base.sent ++ new) datagram ≡ Some d.sent = e.1 ∙ ap Some (Some-same e.0 d.sent (sym (all.kept datagram e.0 e.1) ∙ d.sent_is)) in
        let one = delivered w run.0 all datagram router iface now moments.0 run.1 run.3 these.0.0 d is _ _ refl refl d.moves.moves in
        let rest = deliveries_done events run.0 w' one.hearing moments.1 these.1 run.4 in
        record {
          hearing = rest.hearing;
          steps = steps_trans w run.0 w' one.steps rest.steps;
          heard = (heard_stays run.0 w' rest.steps datagram router iface one.heard, rest.heard);
        }
    deliveries_done (Stranger router x ∷ events) w w' all moments these run = absurd these.0
    deliveries_done (Tick router now word ∷ events) w w' all moments these run = absurd these.0
    deliveries_done (Restart router now ∷ events) w w' all moments these run = absurd these.0
    deliveries_done (Shutdown router now ∷ events) w w' all moments these run = absurd these.0
    deliveries_done (LinkDown router now on ∷ events) w w' all moments these run = absurd these.0
    deliveries_done (LinkUp router now on ∷ events) w w' all moments these run = absurd these.0
    deliveries_done (Reconfigure router now c ∷ events) w w' all moments these run = absurd these.0
