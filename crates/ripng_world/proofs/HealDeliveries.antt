-- The deliveries of a round that begins in any world: what each leaves of the receiver's routes.
use Rattle.std.proofs.Common.{◌≡◌, ◌≢◌, inl, inr, ℕ, ◌+◌, min, max, ◌<◌, ◌≤◌, Bool, true, false, MatchBool, MatchOption, List, [], ◌∷◌, ◌++◌, length, All, Option, Some, None, slice_get, refl, ap, sym, subst, ◌∙◌, arith}
use Rattle.std.specs.Prelude.{⊤}
use Rattle.std.specs.List.{AllByRecursion}
use Rattle.std.specs.FinMap as map_of
use Rattle.prefix6.specs.Prefix.{Prefix6}
use Rattle.prefix6.specs.Addr.{is_link_local}
use Rattle.ripng_wire.specs.declared.rte.Rte.{Rte}
use Rattle.ripng_wire.specs.declared.rte.Command.TheVariants.{Response}
use Rattle.ripng_wire.specs.Layout.{Spells}
use Rattle.ripng_wire.specs.Wire.{is_response}
use Rattle.ripng_wire.proofs.OneReading.{one_reading}
use Rattle.route_table.specs.Route.{infinity}
use Rattle.route_table.proofs.TableLaws.{Some-same, None-Some}
use Rattle.router_core.specs.Received.{Received}
use Rattle.router_core.specs.Faults.{fault}
use Rattle.router_core.specs.Offers.{offer_at, prefix_named}
use Rattle.router_core.specs.Adoption.{metric_through}
use Rattle.router_core.specs.Timers.{garbage_time}
use Rattle.router_core.specs.Hearing.{Hearing}
use Rattle.router_core.specs.Machine.{State, Arrives, Hears, Replies, Refuses, gateway_of}
use Rattle.router_core.specs.declared.answer.Answer.{Answer}
use Rattle.router_core.specs.declared.arrival.Fault.{Fault}
use Rattle.router_core.specs.declared.answer.NoteKind.TheVariants.{NoMemory}
use Rattle.router_core.proofs.HearingSteps.{at_place}
use Rattle.ripng_world.specs.declared.event.Sent.{Sent}
use Rattle.ripng_world.specs.Network.{Network, Node, config_of, AreLinked, AreZoned, HasDistinctAddresses, IsUsable}
use Rattle.ripng_world.specs.Truth.{IsNeighbor}
use Rattle.ripng_world.specs.World.{World, Event, Deliver, Stranger, Tick, Restart, Shutdown, LinkDown, LinkUp, Reconfigure, RouterMoves, Delivers, address_at, arrival_of}
use Rattle.ripng_world.specs.Rounds.{router_of, moment_of, IsDeliveryOf, AllHeard}
use Rattle.ripng_world.proofs.Each.{each_at_place}
use Rattle.ripng_world.proofs.Members.{At, get_left, get_right}
use Rattle.ripng_world.proofs.WorldRuns.{not_own}
use Rattle.ripng_world.proofs.Undamaged.{no_fault, spelled_response}
use Rattle.ripng_world.proofs.RoundNeighbors.{state_after, set_here, state_before, source_is, neighbor, is_another, not_mine}
use Rattle.ripng_world.proofs.HealRows.{IsRow, IsAtMost, HasHeard, IsPart, through, part_refl, part_trans}
use Rattle.ripng_world.proofs.HealHearing.{AreFew, IsToldLine, hearing_part, hearing_here, hearing_bound}

module _ (net : Network) (usable : IsUsable net) (distinct : HasDistinctAddresses net) (zoned : AreZoned net) (mid : World) (known : Prefix6 → Type 0) (fits : AreFew net known) (current : ℕ → ℕ → Type 0)
    (close : (router now : ℕ) (old : State) → current router now → slice_get mid.states router ≡ Some old → now < old.last + garbage_time) where
  abbrev pub RowOf : ℕ → State → State → Type 0
  RowOf router old s = (p : Prefix6) → IsRow net distinct mid known router old.last p (map_of.get old.table p) (map_of.get s.table p)

  -- a router during the deliveries
  pub record IsHearing (router : ℕ) (s : State) : Type 0 where
    pub old : State
    pub old_is : slice_get mid.states router ≡ Some old
    pub node : Node
    pub node_is : slice_get net router ≡ Some node
    pub config_is : s.config ≡ config_of node
    pub rows : RowOf router old s
    pub regular : s.regular ≡ old.regular
    pub later : old.last ≤ s.last
    pub soon : s.last < old.last + garbage_time

  abbrev pub IsUpdateOf : Sent → Type 0
  IsUpdateOf d = (entries : List Rte) × Spells Response entries d.bytes × AllByRecursion (IsToldLine net mid known d.router d.iface) entries

  abbrev pub PartOf : ℕ → State → State → State → Type 0
  PartOf router old s t = (p : Prefix6) → IsPart net distinct mid known router old.last p (map_of.get old.table p) (map_of.get s.table p) (map_of.get t.table p)

  refl_part : (router : ℕ) (old s : State) → RowOf router old s → PartOf router old s s
  refl_part router old s rows p = part_refl net distinct mid known router old.last p (map_of.get old.table p) (map_of.get s.table p) (rows p)

  -- the router waits
  waited : (router : ℕ) (s : State) (now n : ℕ) → IsHearing router s → current router now → n ≡ max s.last now → IsHearing router (record s { last = n })
  waited router s now n t now_of n_is =
      record {
        old = t.old;
        old_is = t.old_is;
        node = t.node;
        node_is = t.node_is;
        config_is = t.config_is;
        rows = t.rows;
        regular = t.regular;
        later = after t.old.last s.last now n n_is t.later;
        soon = before s.last now n (t.old.last + garbage_time) n_is t.soon (close router now t.old now_of t.old_is);
      }
    where
      after : (o l m n : ℕ) → n ≡ max l m → o ≤ l → o ≤ n
      after o l m n e h = omega arith

      before : (l m n b : ℕ) → n ≡ max l m → l < b → m < b → n < b
      before l m n b e f g = omega arith

  module _ (router iface : ℕ) (d : Sent) (linked : AreLinked net d.router d.iface router iface) (u : IsUpdateOf d) (other : router ≢ d.router)
      (s : State) (t : IsHearing router s) (now : ℕ) (now_of : current router now) (answer : Answer) (new : State)
      (hears : Hears s (max s.last now) (arrival_of net d iface now) answer new) (memory : All (λ n. n.kind ≢ NoMemory) answer.notes) where
    abbrev h : Hearing
    h = record { config = s.config; gateway = gateway_of s (max s.last now) (arrival_of net d iface now); entries = hears.entries; before = s.table; notes = answer.notes }

    near : IsNeighbor net router h.gateway d.router d.iface
    near = neighbor net d router iface (max s.last now) now s t.node t.node_is t.config_is linked other

    same_entries : u.0 ≡ hears.entries
    same_entries = (one_reading Response Response u.0 hears.entries d.bytes u.1 hears.read).1

    all_told : (place : ℕ) (e : Rte) → slice_get h.entries place ≡ Some e → IsToldLine net mid known d.router d.iface e
    all_told place e is = each_at_place (IsToldLine net mid known d.router d.iface) hears.entries (subst (AllByRecursion (IsToldLine net mid known d.router d.iface)) same_entries u.2) place e is

    it_is_later : t.old.last ≤ max s.last now
    it_is_later = after t.old.last s.last now t.later
      where
        after : (o l m : ℕ) → o ≤ l → o ≤ max l m
        after o l m h = omega arith

    pub heard_part : (p : Prefix6) → IsPart net distinct mid known router t.old.last p (map_of.get t.old.table p) (map_of.get s.table p) (map_of.get hears.table p)
    heard_part p = hearing_part net distinct mid known fits router t.old.last h d.router d.iface near it_is_later all_told t.old.table t.rows t.node t.node_is t.config_is hears.table hears.heard memory p

    pub heard_state : IsHearing router (record s { table = hears.table; last = max s.last now })
    unfolding waited
    heard_state =
        let waits = waited router s now (max s.last now) t now_of refl in
        record {
          old = t.old;
          old_is = t.old_is;
          node = t.node;
          node_is = t.node_is;
          config_is = t.config_is;
          rows = λ p. (heard_part p).row;
          regular = t.regular;
          later = waits.later;
          soon = waits.soon;
        }

    -- an entry of the datagram
    abbrev pub IsDoneRow : State → Prefix6 → ℕ → Type 0
    IsDoneRow v p metric =
        HasHeard net distinct mid known router t.old.last p iface (address_at net d.router d.iface) (map_of.get v.table p)
        × (through net router iface metric < infinity
        → IsAtMost net distinct mid known router t.old.last p (map_of.get t.old.table p) (map_of.get v.table p) (through net router iface metric))

    pub heard_entry : (e : Rte) → At u.0 e → IsDoneRow (record s { table = hears.table; last = max s.last now }) (prefix_named e) e.metric
    heard_entry e a =
        let listed : slice_get h.entries a.0 ≡ Some e = ap (λ es. slice_get es a.0) (sym same_entries) ∙ a.1 in
        let same : metric_through h.gateway (offer_at h.config h.gateway.from h.entries a.0 e) ≡ through net router iface e.metric = ap (λ c. min (e.metric + c) infinity) near.cost in (
          hearing_here net distinct mid known fits router t.old.last h d.router d.iface near it_is_later all_told t.old.table t.rows t.node t.node_is t.config_is hears.table hears.heard memory a.0 e listed,
          λ low.
              subst (IsAtMost net distinct mid known router t.old.last (prefix_named e) (map_of.get t.old.table (prefix_named e)) (map_of.get hears.table (prefix_named e))) same
              (hearing_bound net distinct mid known fits router t.old.last h d.router d.iface near it_is_later all_told t.old.table t.rows t.node t.node_is t.config_is hears.table hears.heard memory a.0 e listed
              (subst (λ n. n < infinity) (sym same) low)),
        )

  -- ---- the network during the deliveries

  module _ (before new : List Sent) (updates : AllByRecursion IsUpdateOf new) where
    pub record AreHearing (w : World) : Type 0 where
      pub states : (router : ℕ) (s : State) → slice_get w.states router ≡ Some s → IsHearing router s
      pub kept : (i : ℕ) (d : Sent) → slice_get (before ++ new) i ≡ Some d → slice_get w.sent i ≡ Some d

    -- what the router holds of the prefix, once it has heard the gateway
    pub record IsDoneAt (w : World) (router : ℕ) (p : Prefix6) (iface from metric : ℕ) : Type 0 where
      pub old : State
      pub old_is : slice_get mid.states router ≡ Some old
      pub state : State
      pub state_is : slice_get w.states router ≡ Some state
      pub here : HasHeard net distinct mid known router old.last p iface from (map_of.get state.table p)
      pub bound : through net router iface metric < infinity
          → IsAtMost net distinct mid known router old.last p (map_of.get old.table p) (map_of.get state.table p) (through net router iface metric)

    -- the router has heard the datagram on the interface
    abbrev pub HasHeardAll : World → ℕ → ℕ → ℕ → Type 0
    HasHeardAll w datagram router iface =
        (d : Sent) → slice_get (before ++ new) datagram ≡ Some d → AreLinked net d.router d.iface router iface → router ≢ d.router
        → (entries : List Rte) → Spells Response entries d.bytes → (e : Rte) → At entries e
        → IsDoneAt w router (prefix_named e) iface (address_at net d.router d.iface) e.metric

    abbrev pub StepsTo : World → World → Type 0
    StepsTo w w' = (router : ℕ) (s old : State) → slice_get w.states router ≡ Some s → slice_get mid.states router ≡ Some old
        → (t : State) × (slice_get w'.states router ≡ Some t) × PartOf router old s t

    done_stays : (w w' : World) → StepsTo w w' → (router : ℕ) (p : Prefix6) (iface from metric : ℕ) → IsDoneAt w router p iface from metric → IsDoneAt w' router p iface from metric
    done_stays w w' steps router p iface from metric b =
        let t = steps router b.state b.old b.state_is b.old_is in
        let part = t.2 p in
        record {
          old = b.old;
          old_is = b.old_is;
          state = t.0;
          state_is = t.1;
          here = part.heard iface from b.here;
          bound = λ low. part.at_most (through net router iface metric) low (b.bound low);
        }

    heard_stays : (w w' : World) → StepsTo w w' → (datagram router iface : ℕ) → HasHeardAll w datagram router iface → HasHeardAll w' datagram router iface
    heard_stays w w' steps datagram router iface h d is linked other entries spelled e at =
        done_stays w w' steps router (prefix_named e) iface (address_at net d.router d.iface) e.metric (h d is linked other entries spelled e at)

    -- what a router's move does, by what it does to its state
    move_done : (w w' : World) (router : ℕ) (x : Received) (answer : Answer) (m : RouterMoves w router (Arrives x) answer w') → AreHearing w
        → IsHearing router m.new → ((old : State) → slice_get mid.states router ≡ Some old → PartOf router old m.old m.new) → AreHearing w' × StepsTo w w'
    move_done w w' router x answer m all state row = (
      record {
        states = λ r s is. elim (state_before w.states router m.new r s (ap (λ (ss : List State). slice_get ss r) (sym m.states) ∙ is)) [
          | inl same ↦ subst (λ q. IsHearing q s) same.0 (subst (IsHearing router) same.1 state)
          | inr there ↦ all.states r s there
        ];
        kept = λ i d is. ap (λ (ds : List Sent). slice_get ds i) m.sent ∙ get_left w.sent _ i d (all.kept i d is);
      },
      λ r s old is old_is. elim (state_after w.states router m.old m.new m.old_is r s is) [
        | inl a ↦ (
          m.new,
          ap (λ (ss : List State). slice_get ss r) m.states ∙ a.2,
          subst (λ q. PartOf q old s m.new) a.0 (subst (λ (o : State). PartOf router old o m.new) (sym a.1) (row old (ap (slice_get mid.states) a.0 ∙ old_is))),
        )
        | inr b ↦ (s, ap (λ (ss : List State). slice_get ss r) m.states ∙ b, stay r s old (all.states r s is) old_is)
      ],
    )
      where
        stay : (r : ℕ) (s old : State) → IsHearing r s → slice_get mid.states r ≡ Some old → PartOf r old s s
        stay r s old t old_is = refl_part r old s (subst (λ (o : State). RowOf r o s) (Some-same t.old old (sym t.old_is ∙ old_is)) t.rows)

    pub record IsDelivered (w w' : World) (datagram router iface : ℕ) : Type 0 where
      pub hearing : AreHearing w'
      pub steps : StepsTo w w'
      pub heard : HasHeardAll w' datagram router iface

    module _ (w w' : World) (all : AreHearing w) (datagram router iface now : ℕ) (now_of : current router now) (answer : Answer) (memory : All (λ n. n.kind ≢ NoMemory) answer.notes)
        (late : length before ≤ datagram) (d : Delivers net w datagram router iface now answer w') (is : slice_get (before ++ new) datagram ≡ Some d.sent) where
      update : IsUpdateOf d.sent
      update = let a = get_right before new datagram d.sent late is in each_at_place IsUpdateOf new updates a.0 d.sent a.1

      abbrev old : State
      old = d.moves.old

      abbrev x : Received
      x = arrival_of net d.sent iface now

      state : IsHearing router old
      state = all.states router old d.moves.old_is

      stayed : (n : ℕ) → n ≡ max old.last now → d.moves.new ≡ record old { last = n } → AreHearing w' × StepsTo w w'
      stayed n n_is new_is =
          move_done w w' router x answer d.moves all (subst (IsHearing router) (sym new_is) (waited router old now n state now_of n_is))
          (λ o o_is. subst (λ (s : State). PartOf router o old s) (sym new_is) (refl_part router o old (subst (λ (q : State). RowOf router q old) (Some-same state.old o (sym state.old_is ∙ o_is)) state.rows)))

      -- the datagram, to a router that takes it
      heard_by : (other : router ≢ d.sent.router) (hears : Hears old (max old.last now) x answer d.moves.new) → IsDelivered w w' datagram router iface
      heard_by other hears =
          let both_done = move_done w w' router x answer d.moves all
          (subst (IsHearing router) (sym hears.state) (heard_state router iface d.sent d.linked update other old state now now_of answer d.moves.new hears memory))
          (λ o o_is. subst (λ (s : State). PartOf router o old s) (sym hears.state)
          (subst (λ (q : State). PartOf router q old (record old { table = hears.table; last = max old.last now })) (Some-same state.old o (sym state.old_is ∙ o_is))
          (heard_part router iface d.sent d.linked update other old state now now_of answer d.moves.new hears memory))) in
          record { hearing = both_done.0; steps = both_done.1; heard = all_done }
        where
          moved_to : slice_get w'.states router ≡ Some d.moves.new
          moved_to = ap (λ (ss : List State). slice_get ss router) d.moves.states ∙ set_here w.states router old d.moves.new d.moves.old_is

          at_sent : (entries : List Rte) → Spells Response entries d.sent.bytes → (e : Rte) → At entries e
              → IsDoneAt w' router (prefix_named e) iface (address_at net d.sent.router d.sent.iface) e.metric
          at_sent entries spelled e at =
              let same : entries ≡ update.0 = (one_reading Response Response entries update.0 d.sent.bytes spelled update.1).1 in
              let done = subst (λ (s : State). IsDoneRow router iface d.sent d.linked update other old state now now_of answer d.moves.new hears memory s (prefix_named e) e.metric) (sym hears.state)
              (heard_entry router iface d.sent d.linked update other old state now now_of answer d.moves.new hears memory e (subst (λ (es : List Rte). At es e) same at)) in
              record { old = state.old; old_is = state.old_is; state = d.moves.new; state_is = moved_to; here = done.0; bound = done.1 }

          all_done : HasHeardAll w' datagram router iface
          all_done e is' linked other' entries spelled entry at =
              subst (λ (q : Sent). (entries : List Rte) → Spells Response entries q.bytes → (e : Rte) → At entries e
              → IsDoneAt w' router (prefix_named e) iface (address_at net q.router q.iface) e.metric)
              (Some-same d.sent e (sym is ∙ is')) at_sent entries spelled entry at

      delivered : (o : Option Fault) (b : Bool) → fault old.config x ≡ o → is_response d.sent.bytes ≡ b
          → MatchOption o (MatchBool b (Hears old (max old.last now) x answer d.moves.new) (Replies old (max old.last now) x answer d.moves.new)) (λ why. Refuses old (max old.last now) why answer d.moves.new)
          → IsDelivered w w' datagram router iface
      delivered o false none response moves = absurd (clash (sym (spelled_response update.0 d.sent.bytes update.1) ∙ response))
        where
          clash : true ≡ false → ⊥
          clash e = cc
      delivered None true none response hears =
          heard_by (is_another net zoned d.sent router iface old state.node state.node_is state.config_is d.linked (not_own old.config x none response)) hears
      delivered (Some why) true none response refuses =
          let done = stayed (max old.last now) refl refuses.state in
          record { hearing = done.0; steps = done.1; heard = none_left }
        where
          sound : router ≢ d.sent.router → fault old.config x ≡ None
          sound other =
              no_fault old.config x update.0 update.1 refl
              (ap is_link_local (source_is net d.sent router iface d.linked) ∙ usable.local d.sent.router d.sent.iface d.linked.here d.linked.here_is)
              (not_mine net distinct d.sent router iface old state.node state.node_is state.config_is d.linked other) refl

          none_left : HasHeardAll w' datagram router iface
          none_left e is' linked other entries spelled entry at =
              absurd (None-Some why (sym (sound (λ same. other (same ∙ ap (λ (q : Sent). q.router) (Some-same d.sent e (sym is ∙ is'))))) ∙ none))

    -- what a delivery leaves
    abbrev pub HasHeardEvent : World → Event → Type 0
    HasHeardEvent w (Deliver datagram router iface now) = HasHeardAll w datagram router iface
    HasHeardEvent w _ = ⊤

    steps_trans : (a b c : World) → StepsTo a b → StepsTo b c → StepsTo a c
    steps_trans a b c f g router s old is old_is =
        let t = f router s old is old_is in
        let u = g router t.0 old t.1 old_is in
        (u.0, u.1, λ p. part_trans net distinct mid known router old.last p (map_of.get old.table p) (map_of.get s.table p) (map_of.get t.0.table p) (map_of.get u.0.table p) (t.2 p) (u.2 p))

    -- the deliveries of the round, one after another
    pub record AreDelivered (w w' : World) (events : List Event) : Type 0 where
      pub hearing : AreHearing w'
      pub steps : StepsTo w w'
      pub heard : AllByRecursion (HasHeardEvent w') events

    pub deliveries_done : (events : List Event) (w w' : World) → AreHearing w → AllByRecursion (λ e. current (router_of e) (moment_of e)) events
        → AllByRecursion (IsDeliveryOf (length before) (length (before ++ new))) events → AllHeard net w events w' → AreDelivered w w' events
    deliveries_done [] w w' all moments these is =
        record {
          hearing = subst AreHearing (sym is) all;
          steps = subst (StepsTo w) (sym is) (λ r s old here old_is. let t = all.states r s here in
              (s, here, refl_part r old s (subst (λ (o : State). RowOf r o s) (Some-same t.old old (sym t.old_is ∙ old_is)) t.rows)));
          heard = tt;
        }
    deliveries_done (Deliver datagram router iface now ∷ events) w w' all moments these run =
        let e : (d : Sent) × (slice_get (before ++ new) datagram ≡ Some d) = at_place (before ++ new) datagram these.0.1 in
        let d : Delivers net w datagram router iface now run.1 run.0 = run.2 in
        let is : slice_get (before ++ new) datagram ≡ Some d.sent = e.1 ∙ ap Some (Some-same e.0 d.sent (sym (all.kept datagram e.0 e.1) ∙ d.sent_is)) in
        let one = delivered w run.0 all datagram router iface now moments.0 run.1 run.3 these.0.0 d is _ _ refl refl d.moves.moves in
        let rest = deliveries_done events run.0 w' one.hearing moments.1 these.1 run.4 in
        record {
          hearing = rest.hearing;
          steps = steps_trans w run.0 w' one.steps rest.steps;
          heard = (heard_stays run.0 w' rest.steps datagram router iface one.heard, rest.heard);
        }
    deliveries_done (Stranger router x ∷ events) w w' all moments these run = absurd these.0
    deliveries_done (Tick router now word ∷ events) w w' all moments these run = absurd these.0
    deliveries_done (Restart router now ∷ events) w w' all moments these run = absurd these.0
    deliveries_done (Shutdown router now ∷ events) w w' all moments these run = absurd these.0
    deliveries_done (LinkDown router now on ∷ events) w w' all moments these run = absurd these.0
    deliveries_done (LinkUp router now on ∷ events) w w' all moments these run = absurd these.0
    deliveries_done (Reconfigure router now c ∷ events) w w' all moments these run = absurd these.0
