-- One synchronous round that begins in any world: which tables the ticks leave, what is told of them, and what the deliveries
-- make of each route.
use Rattle.std.proofs.Common.{◌≡◌, ◌≢◌, inl, inr, ℕ, zero, suc, ◌+◌, max, ◌<◌, cond, List, [], ◌∷◌, ◌++◌, map, length, All, Contains, Option, Some, None, option_and_then, slice_get, refl, ap, ap₂, sym, subst, ◌∙◌, arith, le_refl}
use Rattle.std.specs.List.{AllByRecursion}
use Rattle.std.specs.FinMap as map_of
use Rattle.std.proofs.lemmas.Option.{slice_get_within, get_or_from_slice_get}
use Rattle.std.proofs.lemmas.List.Elements.{recursion_from_All}
use Rattle.prefix6.specs.Prefix.{Prefix6}
use Rattle.route_table.specs.Route.{RouteValue, infinity}
use Rattle.route_table.specs.declared.route.Clock.{Clock}
use Rattle.route_table.specs.declared.route.Clock.TheVariants.{Fixed, Live, Dying}
use Rattle.route_table.proofs.TableLaws.{Some-same, None-Some}
use Rattle.router_core.specs.Offers.{prefix_named}
use Rattle.router_core.specs.Output.{is_learned_on}
use Rattle.router_core.specs.Timers.{garbage_time}
use Rattle.router_core.specs.Machine.{State, Happening}
use Rattle.router_core.specs.declared.answer.Answer.{Answer}
use Rattle.ripng_world.specs.declared.event.Sent.{Sent}
use Rattle.ripng_world.specs.Network.{Network, Node, AreLinked, AreZoned, HasDistinctAddresses, IsUsable, config_of}
use Rattle.ripng_world.specs.Convergence.{IsNeverQuiet}
use Rattle.ripng_world.specs.Healing.{IsTickOf}
use Rattle.ripng_world.specs.World.{World, Event, Deliver, Stranger, Tick, Restart, Shutdown, LinkDown, LinkUp, Reconfigure, RouterMoves, Happens, address_at}
use Rattle.ripng_world.specs.Rounds.{Round, router_of, moment_of, IsDeliveryOf, IsSynchronousRound, IsMomentOf, AllTick}
use Rattle.ripng_world.proofs.Each.{each_from_places, each_at_place}
use Rattle.ripng_world.proofs.Members.{At, at_right, get_past, at_from_contains}
use Rattle.ripng_world.proofs.Improving.{RouteAt}
use Rattle.ripng_world.proofs.RoundNeighbors.{state_before}
use Rattle.ripng_world.proofs.RoundStays.{hearings_stay}
use Rattle.ripng_world.proofs.HealRows.{IsRow, IsByClock, IsAtMost, HasHeard, through}
use Rattle.ripng_world.proofs.HealHearing.{AreFew}
use Rattle.ripng_world.proofs.HealPlain.{IsPlainRow, IsTicked, IsClocked, Tells}
use Rattle.ripng_world.proofs.HealTicks.{IsPlain, AreTicked, TellsAll, HasTicked, ticks_done}
use Rattle.ripng_world.proofs.HealDeliveries.{IsHearing, AreHearing, IsDoneAt, AreDelivered, HasHeardEvent, deliveries_done}

-- ---- a router of a network was one before

pub move_came : (w w' : World) (router : ℕ) (what : Happening) (answer : Answer) → RouterMoves w router what answer w' → (r : ℕ) (t : State) → slice_get w'.states r ≡ Some t → (s : State) × (slice_get w.states r ≡ Some s)
move_came w w' router what answer m r t is =
    elim (state_before w.states router m.new r t (ap (λ (ss : List State). slice_get ss r) (sym m.states) ∙ is)) [
      | inl same ↦ (m.old, ap (slice_get w.states) (sym same.0) ∙ m.old_is)
      | inr there ↦ (t, there)
    ]

event_came : (net : Network) (w w' : World) (e : Event) (answer : Answer) → Happens net w e answer w' → (r : ℕ) (t : State) → slice_get w'.states r ≡ Some t → (s : State) × (slice_get w.states r ≡ Some s)
event_came net w w' (Deliver datagram router iface now) answer d r t is = move_came w w' router _ answer d.moves r t is
event_came net w w' (Stranger router x) answer i r t is = move_came w w' router _ answer i.moves r t is
event_came net w w' (Tick router now word) answer m r t is = move_came w w' router _ answer m r t is
event_came net w w' (Restart router now) answer m r t is = move_came w w' router _ answer m r t is
event_came net w w' (Shutdown router now) answer m r t is = move_came w w' router _ answer m r t is
event_came net w w' (LinkDown router now on) answer m r t is = move_came w w' router _ answer m r t is
event_came net w w' (LinkUp router now on) answer m r t is = move_came w w' router _ answer m r t is
event_came net w w' (Reconfigure router now c) answer m r t is = move_came w w' router _ answer m r t is

pub ticks_came : (net : Network) (events : List Event) (w w' : World) → AllTick net w events w' → (r : ℕ) (t : State) → slice_get w'.states r ≡ Some t → (s : State) × (slice_get w.states r ≡ Some s)
ticks_came net [] w w' run r t is = (t, ap (λ (v : World). slice_get v.states r) (sym run) ∙ is)
ticks_came net (e ∷ events) w w' run r t is =
    let later = ticks_came net events run.0 w' run.4 r t is in
    event_came net w run.0 e run.1 run.3 r later.0 later.1

-- ---- moments

contains_from : {X : Type 0} (xs : List X) (x : X) → At xs x → Contains xs x
contains_from xs x a = (a.0, slice_get_within xs a.0 x a.1, get_or_from_slice_get xs a.0 x x a.1)

delivery_moments : (round : Round) → AllByRecursion (λ e. IsMomentOf round (router_of e) (moment_of e)) round.deliveries
delivery_moments round =
    each_from_places (λ e. IsMomentOf round (router_of e) (moment_of e)) round.deliveries
    (λ i e is. record { event = e; happens = contains_from (round.ticks ++ round.deliveries) e (at_right round.ticks round.deliveries e (i, is)); router_is = refl; moment_is = refl })

-- ---- what a round has done, in terms of tables alone

-- the router has ticked, in this round
pub record HasTickedOnce (mid : World) (round : Round) (router : ℕ) (s : State) : Type 0 where
  pub after : State
  pub after_is : slice_get mid.states router ≡ Some after
  pub now : ℕ
  pub tick : IsTickOf round router now
  pub ticked : IsTicked s after now

-- its routes were these after its tick, and are these now
pub record HasHeardRound (net : Network) (distinct : HasDistinctAddresses net) (mid : World) (known : Prefix6 → Type 0) (router : ℕ) (s : State) : Type 0 where
  pub old : State
  pub old_is : slice_get mid.states router ≡ Some old
  pub node : Node
  pub node_is : slice_get net router ≡ Some node
  pub config_is : s.config ≡ config_of node
  pub rows : (p : Prefix6) → IsRow net distinct mid known router old.last p (map_of.get old.table p) (map_of.get s.table p)
  pub regular : s.regular ≡ old.regular
  pub soon : s.last < old.last + garbage_time

-- and it has heard the neighbor's route
pub record HasHeardOf (net : Network) (distinct : HasDistinctAddresses net) (mid : World) (known : Prefix6 → Type 0) (w' : World) (router : ℕ) (p : Prefix6) (iface from metric : ℕ) : Type 0 where
  pub old : State
  pub old_is : slice_get mid.states router ≡ Some old
  pub state : State
  pub state_is : slice_get w'.states router ≡ Some state
  pub here : HasHeard net distinct mid known router old.last p iface from (map_of.get state.table p)
  pub bound : through net router iface metric < infinity
      → IsAtMost net distinct mid known router old.last p (map_of.get old.table p) (map_of.get state.table p) (through net router iface metric)

-- each router ticks, and hears of each neighbor each route that it has then
pub record IsRoundOf (net : Network) (distinct : HasDistinctAddresses net) (known : Prefix6 → Type 0) (w mid w' : World) (round : Round) : Type 0 where
  pub ticked : (router : ℕ) (s : State) → slice_get w.states router ≡ Some s → HasTickedOnce mid round router s
  pub came : (router : ℕ) (t : State) → slice_get mid.states router ≡ Some t → (s : State) × (slice_get w.states router ≡ Some s)
  pub went : (router : ℕ) (t : State) → slice_get mid.states router ≡ Some t → (s : State) × (slice_get w'.states router ≡ Some s)
  pub plain : (router : ℕ) (t : State) (p : Prefix6) (r : RouteValue) → slice_get mid.states router ≡ Some t → map_of.get t.table p ≡ Some r → IsPlainRow known p r
  pub heard : (router : ℕ) (s : State) → slice_get w'.states router ≡ Some s → HasHeardRound net distinct mid known router s
  pub told : (teller iface' : ℕ) (p : Prefix6) (q : RouteValue) → RouteAt mid teller p q → (router iface : ℕ) → AreLinked net teller iface' router iface → router ≢ teller
      → HasHeardOf net distinct mid known w' router p iface (address_at net teller iface') (cond (is_learned_on iface' q.origin) infinity q.metric)

module _ (net : Network) (usable : IsUsable net) (noisy : IsNeverQuiet net) (distinct : HasDistinctAddresses net) (zoned : AreZoned net) (known : Prefix6 → Type 0) (fits : AreFew net known)
    (w w' : World) (round : Round) (synchronous : IsSynchronousRound net w round w')
    (close : (router x y : ℕ) → IsTickOf round router x → IsMomentOf round router y → y < x + garbage_time)
    (plain : (router : ℕ) (s : State) → slice_get w.states router ≡ Some s → IsPlain net usable noisy known fits synchronous.after_ticks router s) where
  abbrev pub mid : World
  mid = synchronous.after_ticks

  abbrev pub current : ℕ → ℕ → Type 0
  current = IsMomentOf round

  pub ticks : AreTicked net usable noisy known fits mid w round.ticks
  ticks = ticks_done net usable noisy known fits mid round.ticks w plain synchronous.once synchronous.all_tick

  -- the tick of a router
  named_tick : (events : List Event) → AllByRecursion (HasTicked net usable noisy known fits mid w) events → (router : ℕ) → At (map router_of events) router
      → (now : ℕ) × (word : ℕ) × At events (Tick router now word)
  named_tick [] all router at = absurd (None-Some router at.1)
  named_tick (Tick r now word ∷ events) all router at = by_place at.0 at.1 (λ i is. named_tick events all.1 router (i, is))
    where
      by_place : (i : ℕ) → slice_get (r ∷ map router_of events) i ≡ Some router → ((j : ℕ) → slice_get (map router_of events) j ≡ Some router → (m : ℕ) × (v : ℕ) × At events (Tick router m v))
          → (m : ℕ) × (v : ℕ) × At (Tick r now word ∷ events) (Tick router m v)
      by_place zero is later = (now, word, (0, ap (λ k. Some (Tick k now word)) (Some-same r router is)))
      by_place (suc i) is later = let l = later i is in (l.0, l.1, (suc l.2.0, l.2.1))
  named_tick (Deliver datagram r iface now ∷ events) all router at = absurd all.0
  named_tick (Stranger r x ∷ events) all router at = absurd all.0
  named_tick (Restart r now ∷ events) all router at = absurd all.0
  named_tick (Shutdown r now ∷ events) all router at = absurd all.0
  named_tick (LinkDown r now on ∷ events) all router at = absurd all.0
  named_tick (LinkUp r now on ∷ events) all router at = absurd all.0
  named_tick (Reconfigure r now c ∷ events) all router at = absurd all.0

  pub ticked : (router : ℕ) (s : State) → slice_get w.states router ≡ Some s → HasTickedOnce mid round router s
  ticked router s is =
      let p = plain router s is in
      let inside : router < length net = slice_get_within net router p.node p.node_is in
      let named = named_tick round.ticks ticks.all_ticked router (at_from_contains (map router_of round.ticks) router (synchronous.each_ticks router inside)) in
      let one = each_at_place (HasTicked net usable noisy known fits mid w) round.ticks ticks.all_ticked named.2.0 (Tick router named.0 named.1) named.2.1 s is in
      record { after = one.0; after_is = one.1; now = named.0; tick = (named.1, contains_from round.ticks (Tick router named.0 named.1) named.2); ticked = one.2 }

  pub soon : (router now : ℕ) (old : State) → current router now → slice_get mid.states router ≡ Some old → now < old.last + garbage_time
  soon router now old now_of old_is =
      let before = ticks_came net round.ticks w mid synchronous.all_tick router old old_is in
      let t = ticked router before.0 before.1 in
      let same : t.after ≡ old = Some-same t.after old (sym t.after_is ∙ old_is) in
      below before.0.last t.now now old.last (close router t.now now t.tick now_of) (sym (ap (λ (x : State). x.last) same) ∙ t.ticked.last)
    where
      below : (l x y n : ℕ) → y < x + garbage_time → n ≡ max l x → y < n + garbage_time
      below l x y n h e = omega arith

  abbrev pub Hearing' : ℕ → State → Type 0
  Hearing' router s = IsHearing net usable distinct zoned mid known fits current soon router s

  begins : AreHearing net usable distinct zoned mid known fits current soon w.sent ticks.new ticks.all_updates mid
  begins =
      record {
        states = λ router t is. begin_state router t is (ticks.plain router t is);
        kept = λ i d is. ap (λ (ds : List Sent). slice_get ds i) ticks.sent_is ∙ is;
      }
    where
      begin_row : (router since : ℕ) (p : Prefix6) (o : Option RouteValue) → ((r : RouteValue) → o ≡ Some r → IsPlainRow known p r) → IsRow net distinct mid known router since p o o
      begin_row router since p None f = refl
      begin_row router since p (Some r) f =
          let q = f r refl in
          record { is_known = q.is_known; positive = q.positive; in_range = q.in_range; by_clock = by_clock r.clock q.clocked; fixed = λ x is f. Some-same r x is }
        where
          by_clock : (c : Clock) → IsClocked r.metric c → IsByClock net distinct mid known router since p (Some r) r c
          by_clock Fixed k = (refl, k)
          by_clock (Live until) k = inl (refl, k)
          by_clock (Dying until) k = (k, inl refl)

      more : (n : ℕ) → n < n + garbage_time
      more n = omega arith

      begin_state : (router : ℕ) (t : State) → slice_get mid.states router ≡ Some t → IsPlain net usable noisy known fits mid router t → Hearing' router t
      begin_state router t is q =
          record {
            old = t;
            old_is = is;
            node = q.node;
            node_is = q.node_is;
            config_is = q.config_is;
            rows = λ p. begin_row router t.last p (map_of.get t.table p) (q.rows p);
            regular = refl;
            later = le_refl t.last;
            soon = more t.last;
          }

  delivered : AreDelivered net usable distinct zoned mid known fits current soon w.sent ticks.new ticks.all_updates mid w' round.deliveries
  delivered =
      deliveries_done net usable distinct zoned mid known fits current soon w.sent ticks.new ticks.all_updates round.deliveries mid w' begins (delivery_moments round)
      (recursion_from_All (IsDeliveryOf (length w.sent) (length (w.sent ++ ticks.new))) round.deliveries
      (subst (λ (ds : List Sent). All (IsDeliveryOf (length w.sent) (length ds)) round.deliveries) ticks.sent_is synchronous.only_these))
      synchronous.all_heard

  pub hearing : (router : ℕ) (s : State) → slice_get w'.states router ≡ Some s → Hearing' router s
  hearing router s is = delivered.hearing.states router s is

  abbrev pub DoneAt : ℕ → Prefix6 → ℕ → ℕ → ℕ → Type 0
  DoneAt router p iface from metric = IsDoneAt net usable distinct zoned mid known fits current soon w.sent ticks.new ticks.all_updates w' router p iface from metric

  -- what a router has after its tick has been heard by its neighbors
  pub heard_from : (teller iface' : ℕ) (p : Prefix6) (q : RouteValue) → RouteAt mid teller p q → (router iface : ℕ) (linked : AreLinked net teller iface' router iface) → router ≢ teller
      → DoneAt router p iface (address_at net teller iface') (cond (is_learned_on iface' q.origin) infinity q.metric)
  heard_from teller iface' p q at router iface linked other =
      let inside : teller < length net = in_net (slice_get net teller) refl linked.here_is in
      let named = at_from_contains (map router_of round.ticks) teller (synchronous.each_ticks teller inside) in
      let tells : TellsAll net usable noisy known fits mid ticks.new teller =
      each_at_place (TellsAll net usable noisy known fits mid ticks.new) (map router_of round.ticks) ticks.all_tell named.0 teller named.1 in
      let x : Tells ticks.new teller iface' p q = tells iface' linked.here linked.here_is p q at in
      let place = get_past w.sent ticks.new x.sent x.stands in
      let linked' : AreLinked net x.sent.router x.sent.iface router iface =
      subst (λ r. AreLinked net r x.sent.iface router iface) (sym x.by_router) (subst (λ i. AreLinked net teller i router iface) (sym x.on_iface) linked) in
      let other' : router ≢ x.sent.router = λ same. other (same ∙ x.by_router) in
      let sent = synchronous.each_delivered place.0 router iface x.sent place.1 (ap (λ (ds : List Sent). slice_get ds place.0) ticks.sent_is ∙ place.2) linked' (inl other') in
      let event = at_from_contains round.deliveries (Deliver place.0 router iface sent.0) sent.1 in
      let has = each_at_place (HasHeardEvent net usable distinct zoned mid known fits current soon w.sent ticks.new ticks.all_updates w') round.deliveries delivered.heard event.0 (Deliver place.0 router iface sent.0) event.1 in
      let b : DoneAt router (prefix_named x.entry) iface (address_at net x.sent.router x.sent.iface) x.entry.metric =
      has x.sent place.2 linked' other' x.entries x.spelled x.entry x.in_entries in
      subst (λ m. DoneAt router p iface (address_at net teller iface') m) x.metric
      (subst (λ a. DoneAt router p iface a x.entry.metric) (ap₂ (λ r i. address_at net r i) x.by_router x.on_iface)
      (subst (λ (k : Prefix6). DoneAt router k iface (address_at net x.sent.router x.sent.iface) x.entry.metric) x.names b))
    where
      in_net : (o : Option Node) → slice_get net teller ≡ o → option_and_then (λ (node : Node). slice_get node.interfaces iface') (slice_get net teller) ≡ Some linked.here → teller < length net
      in_net None is e = absurd (None-Some _ (sym (ap (option_and_then (λ (node : Node). slice_get node.interfaces iface')) is) ∙ e))
      in_net (Some node) is e = slice_get_within net teller node is

  pub round_done : IsRoundOf net distinct known w mid w' round
  round_done =
      record {
        ticked = ticked;
        came = λ router t is. ticks_came net round.ticks w mid synchronous.all_tick router t is;
        went = λ router t is. hearings_stay net round.deliveries mid w' synchronous.all_heard router t is;
        plain = λ router t p r is at. (ticks.plain router t is).rows p r at;
        heard = λ router s is. let h = hearing router s is in
            record { old = h.old; old_is = h.old_is; node = h.node; node_is = h.node_is; config_is = h.config_is; rows = h.rows; regular = h.regular; soon = h.soon };
        told = λ teller iface' p q at router iface linked other. let d = heard_from teller iface' p q at router iface linked other in
            record { old = d.old; old_is = d.old_is; state = d.state; state_is = d.state_is; here = d.here; bound = d.bound };
      }
