-- The ticks of a round that begins in any world: routes age, and every route that is left is told on every interface.
use Rattle.std.proofs.Common.{◌≡◌, ℕ, zero, suc, ◌+◌, ◌-◌, ◌*◌, ◌/◌, ◌%◌, max, ◌<◌, ◌≤◌, Bool, true, false, cond, nat_le, nat_eq, List, [], ◌∷◌, ◌++◌, map, drop, filter, flat_map, slice_range, length, Option, Some, None, option_map, option_and_then, unwrap_or, slice_get, slice_set, inl, inr, refl, ap, sym, subst, ◌∙◌, arith, le_refl, append_assoc, append-nil}
use Rattle.std.specs.List.{AllByRecursion, IsDistinct, enumerate_from}
use Rattle.std.specs.FinMap as map_of
use Rattle.std.proofs.lemmas.Bool.{eq-eqb}
use Rattle.std.proofs.lemmas.Map.Keys.{IsDistinct-head, IsDistinct-tail}
use Rattle.std.proofs.lemmas.Bool.Decides.{nat_tests}
use Rattle.prefix6.specs.Prefix.{Prefix6, cleared}
use Rattle.ripng_wire.specs.declared.rte.Rte.{Rte}
use Rattle.ripng_wire.specs.declared.rte.Command.TheVariants.{Response}
use Rattle.ripng_wire.specs.Layout.{Spells, entries_for_mtu}
use Rattle.route_table.specs.Route.{RouteValue, infinity}
use Rattle.route_table.specs.declared.route.Clock.{Clock}
use Rattle.route_table.specs.declared.route.Clock.TheVariants.{Fixed, Live, Dying}
use Rattle.route_table.proofs.TableLaws.{Some-same, None-Some, all_entries, get-map_values}
use Rattle.router_core.specs.Announcing.{is_announced, is_passive}
use Rattle.router_core.specs.Config.{Config, mtu_at}
use Rattle.router_core.specs.Adoption.{lost}
use Rattle.router_core.specs.Ageing.{aged, aged_by_clock, aged_table, unmarked, without_mark}
use Rattle.router_core.specs.Output.{Message, AreSpelled, told, told_entry, is_learned_on, every_route, is_changed, pieces, numbers_below, responses, update_messages}
use Rattle.router_core.specs.Machine.{State, Ticks, tick_messages, is_regular_due, is_triggered_due}
use Rattle.router_core.specs.declared.answer.Outgoing.{Outgoing}
use Rattle.router_core.specs.declared.answer.Destination.TheVariants.{Group}
use Rattle.router_core.specs.declared.answer.Answer.{Answer}
use Rattle.router_core.specs.declared.config.Interface.{Interface}
use Rattle.router_core.proofs.HearingSteps.{numbered_at}
use Rattle.router_core.proofs.Cutting.{joined-pieces}
use Rattle.ripng_world.specs.declared.network.NetInterface.{NetInterface}
use Rattle.ripng_world.specs.declared.event.Sent.{Sent}
use Rattle.ripng_world.specs.Network.{Network, Node, config_of, interface_at, IsUsable}
use Rattle.ripng_world.specs.World.{World, Event, Deliver, Stranger, Tick, Restart, Shutdown, LinkDown, LinkUp, Reconfigure, RouterMoves, sent_by}
use Rattle.ripng_world.specs.Rounds.{IsDueTick, AllTick, router_of}
use Rattle.ripng_world.specs.Convergence.{IsNeverQuiet}
use Rattle.ripng_world.proofs.Announced.{told_whole}
use Rattle.ripng_world.proofs.Each.{each_filter, each_take, each_drop, each_append, each_mapped, each_image, each_flat, each_weaker}
use Rattle.ripng_world.proofs.Members.{At, at_map, at_left, at_right, at_flat, at_filter, at_entries, in_joined}
use Rattle.ripng_world.proofs.WorldRuns.{get_map, in_node, get_set}
use Rattle.ripng_world.proofs.RoundNeighbors.{set_here}
use Rattle.ripng_world.proofs.RoundTicks.{spelled_at}
use Rattle.ripng_world.proofs.Improving.{RouteAt}
use Rattle.ripng_world.proofs.HealPlain.{IsPlainRow, IsTicked, Tells}
use Rattle.ripng_world.proofs.HealHearing.{AreFew, IsToldLine}
use Rattle.router_core.specs.Timers.{next_hold, next_regular}

module _ (net : Network) (usable : IsUsable net) (noisy : IsNeverQuiet net) (known : Prefix6 → Type 0) (fits : AreFew net known) (mid : World) where
  pub record IsPlain (router : ℕ) (s : State) : Type 0 where
    pub node : Node
    pub node_is : slice_get net router ≡ Some node
    pub config_is : s.config ≡ config_of node
    pub rows : (p : Prefix6) (r : RouteValue) → map_of.get s.table p ≡ Some r → IsPlainRow known p r

  abbrev pub IsUpdate : Sent → Type 0
  IsUpdate d = (entries : List Rte) × Spells Response entries d.bytes × AllByRecursion (IsToldLine net mid known d.router d.iface) entries

  abbrev pub TellsAll : List Sent → ℕ → Type 0
  TellsAll new router =
      (iface : ℕ) (here : NetInterface) → interface_at net router iface ≡ Some here → (p : Prefix6) (r : RouteValue) → RouteAt mid router p r → Tells new router iface p r

  -- what is left of a plain route
  aged_plain : (n : ℕ) (p : Prefix6) (r q : RouteValue) → IsPlainRow known p r → aged n r ≡ Some q → IsPlainRow known p q
  aged_plain n p r q plain e = by_clock r.clock e
    where
      lost_plain : IsPlainRow known p (lost n r)
      lost_plain = record { is_known = plain.is_known; positive = omega arith; in_range = le_refl 16; clocked = refl }

      by_clock : (c : Clock) → aged_by_clock n r c ≡ Some q → IsPlainRow known p q
      by_clock Fixed is = subst (IsPlainRow known p) (Some-same r q is) plain
      by_clock (Live until) is = by_test (nat_le until n) is
        where
          by_test : (b : Bool) → cond b (Some (lost n r)) (Some r) ≡ Some q → IsPlainRow known p q
          by_test true is = subst (IsPlainRow known p) (Some-same (lost n r) q is) lost_plain
          by_test false is = subst (IsPlainRow known p) (Some-same r q is) plain
      by_clock (Dying until) is = by_test (nat_le until n) is
        where
          by_test : (b : Bool) → cond b None (Some r) ≡ Some q → IsPlainRow known p q
          by_test true is = absurd (None-Some q is)
          by_test false is = subst (IsPlainRow known p) (Some-same r q is) plain

  module _ (router : ℕ) (s : State) (t : IsPlain router s) (n word : ℕ) where
    abbrev ticked_now : State
    ticked_now = record s { table = unmarked (aged_table n s.table); last = n; regular = next_regular n word }

    table_now : (p : Prefix6) → map_of.get (unmarked (aged_table n s.table)) p ≡ option_and_then without_mark (map_of.get (aged_table n s.table) p)
    table_now p = get-map_values without_mark (aged_table n s.table) p

    aged_at : (p : Prefix6) → map_of.get (aged_table n s.table) p ≡ option_and_then (aged n) (map_of.get s.table p)
    aged_at p = get-map_values (aged n) s.table p

    aged_row : (p : Prefix6) (q : RouteValue) → map_of.get (aged_table n s.table) p ≡ Some q → IsPlainRow known p q
    aged_row p q is = by_value (map_of.get s.table p) refl (sym (aged_at p) ∙ is)
      where
        by_value : (o : Option RouteValue) → map_of.get s.table p ≡ o → option_and_then (aged n) o ≡ Some q → IsPlainRow known p q
        by_value None at e = absurd (None-Some q e)
        by_value (Some r) at e = aged_plain n p r q (t.rows p r at) e

    plain_now : IsPlain router ticked_now
    plain_now =
        record {
          node = t.node;
          node_is = t.node_is;
          config_is = t.config_is;
          rows = λ p r is. by_value p r (map_of.get (aged_table n s.table) p) refl (sym (table_now p) ∙ is);
        }
      where
        by_value : (p : Prefix6) (r : RouteValue) (o : Option RouteValue) → map_of.get (aged_table n s.table) p ≡ o → option_and_then without_mark o ≡ Some r → IsPlainRow known p r
        by_value p r None at e = absurd (None-Some r e)
        by_value p r (Some q) at e =
            let f = aged_row p q at in
            subst (IsPlainRow known p) (Some-same _ r e) (record { is_known = f.is_known; positive = f.positive; in_range = f.in_range; clocked = f.clocked })

    module _ (mid_is : slice_get mid.states router ≡ Some ticked_now) where
      entry_told : (iface : ℕ) (p : Prefix6) (q : RouteValue) → map_of.get (aged_table n s.table) p ≡ Some q → IsToldLine net mid known router iface (told_entry iface (p, q))
      entry_told iface p q here =
          let f = aged_row p q here in
          let clear : cleared p.addr p.len ≡ p = (fits.prefixes p f.is_known).clear in
          record {
            is_known = subst known (sym clear) f.is_known;
            route = record q { changed = false };
            at = (ticked_now, mid_is, ap (map_of.get (unmarked (aged_table n s.table))) clear ∙ table_now p ∙ ap (option_and_then without_mark) here);
            positive = f.positive;
            in_range = f.in_range;
            metric = refl;
          }

      abbrev AllEntriesTold : ℕ → List Rte → Type 0
      AllEntriesTold iface entries = AllByRecursion (IsToldLine net mid known router iface) entries

      all_told : (iface : ℕ) → AllEntriesTold iface (told iface every_route (aged_table n s.table))
      all_told iface =
          each_mapped (IsToldLine net mid known router iface) (told_entry iface) _
          (each_filter (λ (u : Prefix6 × RouteValue). IsToldLine net mid known router iface (told_entry iface u)) (λ u. every_route u.1) (map_of.entries (aged_table n s.table))
          (all_entries (λ u. IsToldLine net mid known router iface (told_entry iface u)) (aged_table n s.table) (entry_told iface)))

      abbrev IsUpdateMessage : Message → Type 0
      IsUpdateMessage m = (m.command ≡ Response) × AllEntriesTold m.iface m.entries

      pieces_told : (iface size : ℕ) (entries : List Rte) → AllEntriesTold iface entries → AllByRecursion (AllEntriesTold iface) (pieces size entries)
      pieces_told iface size entries all =
          each_image (AllEntriesTold iface) (λ j. slice_range entries (size * j) (size * j + size))
          (λ j. each_take (IsToldLine net mid known router iface) ((size * j + size) - size * j) (drop (size * j) entries) (each_drop (IsToldLine net mid known router iface) (size * j) entries all))
          (numbers_below ((length entries + (size - 1)) / size))

      abbrev updates : List Message
      updates = flat_map (λ u. responses s.config u.0 Group (told u.0 every_route (aged_table n s.table))) (enumerate_from 0 s.config.interfaces)

      updates_are : update_messages s.config every_route (aged_table n s.table) ≡ updates
      updates_are =
          told_whole s.config every_route (aged_table n s.table) (λ iface. ap (λ (c : Config). is_passive c iface) t.config_is ∙ noisy router iface t.node t.node_is)
          (λ iface p r at. ap (λ (c : Config). is_announced c iface p) t.config_is ∙ fits.taken.announced router iface t.node p t.node_is (aged_row p r at).is_known)

      updates_told : AllByRecursion IsUpdateMessage updates
      updates_told =
          each_flat IsUpdateMessage (λ u. responses s.config u.0 Group (told u.0 every_route (aged_table n s.table)))
          (λ u. each_mapped IsUpdateMessage (λ piece. record { iface = u.0; to = Group; command = Response; entries = piece }) (pieces (entries_for_mtu (mtu_at s.config u.0)) (told u.0 every_route (aged_table n s.table)))
          (each_weaker (λ piece. (Response ≡ Response) × AllEntriesTold u.0 piece) (AllEntriesTold u.0) (λ piece a. (refl, a)) _
          (pieces_told u.0 (entries_for_mtu (mtu_at s.config u.0)) (told u.0 every_route (aged_table n s.table)) (all_told u.0))))
          (enumerate_from 0 s.config.interfaces)

      -- each route is told on each interface
      update_at : (iface : ℕ) (here : NetInterface) → interface_at net router iface ≡ Some here → (p : Prefix6) (q : RouteValue) → map_of.get (aged_table n s.table) p ≡ Some q
          → (m : Message) × At updates m × (m.command ≡ Response) × (m.iface ≡ iface) × At m.entries (told_entry iface (p, q))
      update_at iface here is p q at =
          let listed : slice_get s.config.interfaces iface ≡ Some here.interface =
          ap (λ (c : Config). slice_get c.interfaces iface) t.config_is ∙ get_map (λ (i : NetInterface). i.interface) t.node.interfaces iface
          ∙ ap (option_map (λ (i : NetInterface). i.interface)) (sym (in_node net router iface t.node t.node_is) ∙ is) in
          let size : ℕ = entries_for_mtu (mtu_at s.config iface) in
          let all : List Rte = told iface every_route (aged_table n s.table) in
          let stands : At all (told_entry iface (p, q)) =
          at_map (told_entry iface) (filter (λ (u : Prefix6 × RouteValue). every_route u.1) (map_of.entries (aged_table n s.table))) (p, q) (at_filter (λ (u : Prefix6 × RouteValue). every_route u.1) (map_of.entries (aged_table n s.table)) (p, q) (at_entries (aged_table n s.table) p q at) (λ _. refl)) in
          let some : 0 < size = subst (λ (o : Option Interface). 0 < entries_for_mtu (unwrap_or (option_map (λ i. i.mtu) o) 1280)) (sym listed) (room here.interface.mtu (usable.mtus router iface here is).0) in
          let one = in_joined (pieces size all) (told_entry iface (p, q)) (subst (λ xs. At xs (told_entry iface (p, q))) (sym (joined-pieces size all some)) stands) in (
            record { iface = iface; to = Group; command = Response; entries = one.0 },
            at_flat (λ u. responses s.config u.0 Group (told u.0 every_route (aged_table n s.table))) (enumerate_from 0 s.config.interfaces) (iface, here.interface) _
                (iface, numbered_at 0 s.config.interfaces iface here.interface listed ∙ ap (λ (m : ℕ). Some (m, here.interface)) (zero_first iface))
                (at_map (λ piece. record { iface = iface; to = Group; command = Response; entries = piece }) (pieces size all) one.0 one.1),
            refl,
            refl,
            one.2,
          )
        where
          zero_first : (m : ℕ) → 0 + m ≡ m
          zero_first m = omega arith

          room : (m : ℕ) → 1280 ≤ m → 0 < (m - 52) / 20
          room m h = omega arith

      messages_sent : (ms : List Message) (sends : List Outgoing) → AllByRecursion IsUpdateMessage ms → AreSpelled ms sends → AllByRecursion IsUpdate (map (sent_by router) sends)
      messages_sent [] [] all spelled = tt
      messages_sent [] (o ∷ os) all spelled = absurd spelled
      messages_sent (m ∷ ms) [] all spelled = absurd spelled
      messages_sent (m ∷ ms) (o ∷ os) all spelled = (
        (m.entries, subst (λ c. Spells c m.entries o.bytes) all.0.0 spelled.0.bytes, subst (λ i. AllEntriesTold i m.entries) (sym spelled.0.iface) all.0.1),
        messages_sent ms os all.1 spelled.1,
      )

      tells_all : (sends : List Outgoing) → AreSpelled updates sends → TellsAll (map (sent_by router) sends) router
      tells_all sends spelled iface here is p r at =
          let mine : map_of.get (unmarked (aged_table n s.table)) p ≡ Some r = ap (λ (x : State). map_of.get x.table p) (Some-same ticked_now at.0 (sym mid_is ∙ at.1)) ∙ at.2 in
          by_value (map_of.get (aged_table n s.table) p) refl (sym (table_now p) ∙ mine)
        where
          by_value : (o : Option RouteValue) → map_of.get (aged_table n s.table) p ≡ o → option_and_then without_mark o ≡ Some r → Tells (map (sent_by router) sends) router iface p r
          by_value None a e = absurd (None-Some r e)
          by_value (Some q) a e =
              let u = update_at iface here is p q a in
              let o = spelled_at updates sends spelled u.0 u.1 in
              record {
                sent = sent_by router o.0;
                stands = at_map (sent_by router) sends o.0 o.1;
                by_router = refl;
                on_iface = o.2.iface ∙ u.3;
                entries = u.0.entries;
                spelled = subst (λ c. Spells c u.0.entries o.0.bytes) u.2 o.2.bytes;
                entry = told_entry iface (p, q);
                in_entries = u.4;
                names = (fits.prefixes p (aged_row p q a).is_known).clear;
                metric = ap (λ (x : RouteValue). cond (is_learned_on iface x.origin) infinity x.metric) (Some-same _ r e);
              }

  -- ---- one tick

  module _ (w w' : World) (router now word : ℕ) (answer : Answer) (due : IsDueTick w (Tick router now word)) (m : RouterMoves w router (Ticks now word) answer w')
      (plain : IsPlain router m.old) where
    n_now : ℕ
    n_now = max m.old.last now

    is_due : is_regular_due m.old (max m.old.last now) ≡ true
    is_due = subst (λ (s : State). is_regular_due s (max s.last now) ≡ true) (Some-same due.0 m.old (sym due.1 ∙ m.old_is)) (reached due.0.regular (max due.0.last now) due.2)
      where
        reached : (r n : ℕ) → r ≤ n → nat_le r n ≡ true
        reached r n h = grind (arith, nat_tests)

    new_is : m.new ≡ ticked_now router m.old plain (max m.old.last now) word
    new_is =
        let n : ℕ = max m.old.last now in
        m.moves.state
        ∙ ap (λ b. cond b (record m.old { table = unmarked (aged_table n m.old.table); last = n; regular = next_regular n word })
        (cond (is_triggered_due m.old n) (record m.old { table = unmarked (aged_table n m.old.table); last = n; hold = next_hold n word }) (record m.old { table = aged_table n m.old.table; last = n }))) is_due

    messages_are : tick_messages m.old (max m.old.last now) ≡ update_messages m.old.config every_route (aged_table (max m.old.last now) m.old.table)
    messages_are =
        let n : ℕ = max m.old.last now in
        ap (λ b. cond b (update_messages m.old.config every_route (aged_table n m.old.table)) (cond (is_triggered_due m.old n) (update_messages m.old.config is_changed (aged_table n m.old.table)) [])) is_due

    is_ticked : IsTicked m.old m.new now
    is_ticked =
        subst (λ (t : State). IsTicked m.old t now) (sym new_is)
        (record {
          last = refl;
          due = reached_now;
          regular = more (max m.old.last now) (word % 30_001);
          config = refl;
          table = λ p. table_now router m.old plain (max m.old.last now) word p ∙ ap (option_and_then without_mark) (aged_at router m.old plain (max m.old.last now) word p);
        })
      where
        more : (n k : ℕ) → n + 15_000 ≤ n + 15_000 + k
        more n k = omega arith

        reached_now : m.old.regular ≤ max m.old.last now
        reached_now = subst (λ (s : State). s.regular ≤ max s.last now) (Some-same due.0 m.old (sym due.1 ∙ m.old_is)) due.2

    plain_after : IsPlain router m.new
    plain_after = subst (IsPlain router) (sym new_is) (plain_now router m.old plain (max m.old.last now) word)

    module _ (mid_is : slice_get mid.states router ≡ Some m.new) where
      mid_ticked : slice_get mid.states router ≡ Some (ticked_now router m.old plain (max m.old.last now) word)
      mid_ticked = mid_is ∙ ap Some new_is

      spelled_all : AreSpelled (updates router m.old plain (max m.old.last now) word mid_ticked) answer.sends
      spelled_all = subst (λ ms. AreSpelled ms answer.sends) (messages_are ∙ updates_are router m.old plain (max m.old.last now) word mid_ticked) m.moves.answer_is.sends

      tick_updates : AllByRecursion IsUpdate (map (sent_by router) answer.sends)
      tick_updates = messages_sent router m.old plain (max m.old.last now) word mid_ticked (updates router m.old plain (max m.old.last now) word mid_ticked) answer.sends
          (updates_told router m.old plain (max m.old.last now) word mid_ticked) spelled_all

      tick_tells : TellsAll (map (sent_by router) answer.sends) router
      tick_tells = tells_all router m.old plain (max m.old.last now) word mid_ticked answer.sends spelled_all

  -- ---- all ticks of the round

  -- the router of a tick has ticked
  abbrev pub HasTicked : World → Event → Type 0
  HasTicked w (Tick router now word) = (s : State) → slice_get w.states router ≡ Some s → (t : State) × (slice_get mid.states router ≡ Some t) × IsTicked s t now
  HasTicked w _ = ⊥

  pub record AreTicked (w : World) (events : List Event) : Type 0 where
    pub new : List Sent
    pub sent_is : mid.sent ≡ w.sent ++ new
    pub all_updates : AllByRecursion IsUpdate new
    pub all_tell : AllByRecursion (TellsAll new) (map router_of events)
    pub all_ticked : AllByRecursion (HasTicked w) events
    pub plain : (r : ℕ) (s : State) → slice_get mid.states r ≡ Some s → IsPlain r s
    pub others : (r : ℕ) → AllByRecursion (λ x. nat_eq r x ≡ false) (map router_of events) → slice_get mid.states r ≡ slice_get w.states r

  tells_left : (new more : List Sent) (router : ℕ) → TellsAll new router → TellsAll (new ++ more) router
  tells_left new more router t iface here is p r at =
      let x = t iface here is p r at in
      record { sent = x.sent; stands = at_left new more x.sent x.stands; by_router = x.by_router; on_iface = x.on_iface; entries = x.entries; spelled = x.spelled; entry = x.entry; in_entries = x.in_entries; names = x.names; metric = x.metric }

  tells_right : (before new : List Sent) (router : ℕ) → TellsAll new router → TellsAll (before ++ new) router
  tells_right before new router t iface here is p r at =
      let x = t iface here is p r at in
      record { sent = x.sent; stands = at_right before new x.sent x.stands; by_router = x.by_router; on_iface = x.on_iface; entries = x.entries; spelled = x.spelled; entry = x.entry; in_entries = x.in_entries; names = x.names; metric = x.metric }

  -- another router's state stays when one moves
  elsewhere : (w w' : World) (router : ℕ) (new : State) → w'.states ≡ slice_set w.states router new → (r : ℕ) → nat_eq r router ≡ false → slice_get w'.states r ≡ slice_get w.states r
  elsewhere w w' router new is r apart = ap (λ (ss : List State). slice_get ss r) is ∙ go w.states router r apart
    where
      go : (xs : List State) (i j : ℕ) → nat_eq j i ≡ false → slice_get (slice_set xs i new) j ≡ slice_get xs j
      go [] i j e = refl
      go (x ∷ xs) zero zero e = absurd (clash (sym (eq-eqb 0 0 refl) ∙ e))
        where
          clash : true ≡ false → ⊥
          clash e = cc
      go (x ∷ xs) zero (suc j) e = refl
      go (x ∷ xs) (suc i) zero e = refl
      go (x ∷ xs) (suc i) (suc j) e = go xs i j (less i j e)
        where
          less : (i j : ℕ) → nat_eq (suc j) (suc i) ≡ false → nat_eq j i ≡ false
          less i j e = grind (arith, nat_tests)

  each_still : (w w' : World) (router : ℕ) → ((r : ℕ) → nat_eq r router ≡ false → slice_get w'.states r ≡ slice_get w.states r) → (events : List Event)
      → AllByRecursion (λ x. nat_eq router x ≡ false) (map router_of events) → AllByRecursion (HasTicked w') events → AllByRecursion (HasTicked w) events
  each_still w w' router same [] apart all = tt
  each_still w w' router same (Tick r now word ∷ events) apart all = (
    λ s is. all.0 s (same r (flip router r apart.0) ∙ is),
    each_still w w' router same events apart.1 all.1,
  )
    where
      flip : (a b : ℕ) → nat_eq a b ≡ false → nat_eq b a ≡ false
      flip a b e = grind (arith, nat_tests)
  each_still w w' router same (Deliver datagram r iface now ∷ events) apart all = absurd all.0
  each_still w w' router same (Stranger r x ∷ events) apart all = absurd all.0
  each_still w w' router same (Restart r now ∷ events) apart all = absurd all.0
  each_still w w' router same (Shutdown r now ∷ events) apart all = absurd all.0
  each_still w w' router same (LinkDown r now on ∷ events) apart all = absurd all.0
  each_still w w' router same (LinkUp r now on ∷ events) apart all = absurd all.0
  each_still w w' router same (Reconfigure r now c ∷ events) apart all = absurd all.0

  pub ticks_done : (events : List Event) (w : World) → ((r : ℕ) (s : State) → slice_get w.states r ≡ Some s → IsPlain r s) → IsDistinct nat_eq (map router_of events)
      → AllTick net w events mid → AreTicked w events
  ticks_done [] w plain once is =
      record {
        new = [];
        sent_is = ap (λ (v : World). v.sent) is ∙ sym (append-nil w.sent);
        all_updates = tt;
        all_tell = tt;
        all_ticked = tt;
        plain = λ r s here. plain r s (ap (λ (v : World). slice_get v.states r) (sym is) ∙ here);
        others = λ r apart. ap (λ (v : World). slice_get v.states r) is;
      }
  ticks_done (Tick router now word ∷ events) w plain once run =
      let w1 : World = run.0 in
      let m : RouterMoves w router (Ticks now word) run.1 w1 = run.3 in
      let old_plain : IsPlain router m.old = plain router m.old m.old_is in
      let moved : slice_get w1.states router ≡ Some m.new = ap (λ (ss : List State). slice_get ss router) m.states ∙ set_here w.states router m.old m.new m.old_is in
      let rest : AreTicked w1 events = ticks_done events w1
      (λ r s is. elim (get_set w.states router m.new r s (ap (λ (ss : List State). slice_get ss r) (sym m.states) ∙ is)) [
        | inl same ↦ subst (λ q. IsPlain q s) same.0 (subst (IsPlain router) same.1 (plain_after w w1 router now word run.1 run.2 m old_plain))
        | inr there ↦ plain r s there
      ]) (IsDistinct-tail nat_eq router (map router_of events) once) run.4 in
      let mid_is : slice_get mid.states router ≡ Some m.new = rest.others router (IsDistinct-head nat_eq router (map router_of events) once) ∙ moved in
      let sends : List Sent = map (sent_by router) run.1.sends in
      record {
        new = sends ++ rest.new;
        sent_is = rest.sent_is ∙ ap (λ xs. xs ++ rest.new) m.sent ∙ append_assoc w.sent sends rest.new;
        all_updates = each_append IsUpdate sends rest.new (tick_updates w w1 router now word run.1 run.2 m old_plain mid_is) rest.all_updates;
        all_tell = (
          tells_left sends rest.new router (tick_tells w w1 router now word run.1 run.2 m old_plain mid_is),
          each_weaker (TellsAll (sends ++ rest.new)) (TellsAll rest.new) (λ r t. tells_right sends rest.new r t) (map router_of events) rest.all_tell,
        );
        all_ticked = (
          λ s is. (m.new, mid_is, subst (λ (o : State). IsTicked o m.new now) (Some-same m.old s (sym m.old_is ∙ is)) (is_ticked w w1 router now word run.1 run.2 m old_plain)),
          each_still w w1 router (elsewhere w w1 router m.new m.states) events (IsDistinct-head nat_eq router (map router_of events) once) rest.all_ticked,
        );
        plain = rest.plain;
        others = λ r apart. rest.others r apart.1 ∙ elsewhere w w1 router m.new m.states r apart.0;
      }
  ticks_done (Deliver datagram router iface now ∷ events) w plain once run = absurd run.2
  ticks_done (Stranger router x ∷ events) w plain once run = absurd run.2
  ticks_done (Restart router now ∷ events) w plain once run = absurd run.2
  ticks_done (Shutdown router now ∷ events) w plain once run = absurd run.2
  ticks_done (LinkDown router now on ∷ events) w plain once run = absurd run.2
  ticks_done (LinkUp router now on ∷ events) w plain once run = absurd run.2
  ticks_done (Reconfigure router now c ∷ events) w plain once run = absurd run.2
