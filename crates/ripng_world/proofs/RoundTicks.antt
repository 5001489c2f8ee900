-- The ticks of a synchronous round: nothing expires, and every route is told on every interface.
use Rattle.std.proofs.Common.{◌≡◌, inl, inr, ℕ, zero, suc, ◌+◌, ◌-◌, ◌*◌, ◌/◌, ◌%◌, max, ◌<◌, ◌≤◌, true, false, cond, nat_le, List, [], ◌∷◌, ◌++◌, map, drop, filter, flat_map, slice_range, length, Option, Some, None, option_map, option_and_then, unwrap_or, slice_get, refl, ap, ap₂, sym, subst, ◌∙◌, arith, le_refl, le_trans, append_assoc, append-nil}
use Rattle.std.specs.List.{AllByRecursion, enumerate_from}
use Rattle.std.specs.FinMap as map_of
use Rattle.std.proofs.lemmas.Bool.Decides.{nat_tests}
use Rattle.prefix6.specs.Prefix.{Prefix6, cleared}
use Rattle.ripng_wire.specs.declared.rte.Rte.{Rte}
use Rattle.ripng_wire.specs.declared.rte.Command.TheVariants.{Response}
use Rattle.ripng_wire.specs.Layout.{Spells, entries_for_mtu}
use Rattle.route_table.specs.Route.{RouteValue, infinity}
use Rattle.route_table.specs.Table.{Table}
use Rattle.route_table.specs.declared.route.Origin.{Origin}
use Rattle.route_table.specs.declared.route.Origin.TheVariants.{Own, Learned}
use Rattle.route_table.proofs.TableLaws.{Some-same, None-Some, all_entries, get-map_values}
use Rattle.router_core.specs.Announcing.{is_announced, is_passive}
use Rattle.router_core.specs.Config.{Config, mtu_at}
use Rattle.router_core.specs.Adoption.{lost}
use Rattle.router_core.specs.Timers.{next_hold, next_regular, timeout}
use Rattle.router_core.specs.Ageing.{aged, aged_by_clock, aged_table, unmarked, without_mark}
use Rattle.router_core.specs.Output.{Message, IsSpelled, AreSpelled, told, told_entry, is_learned_on, every_route, is_changed, pieces, numbers_below, responses, update_messages}
use Rattle.router_core.specs.Machine.{State, Ticks, ticked, tick_messages, is_regular_due, is_triggered_due}
use Rattle.router_core.specs.declared.answer.Outgoing.{Outgoing}
use Rattle.router_core.specs.declared.answer.Destination.TheVariants.{Group}
use Rattle.router_core.specs.declared.answer.Answer.{Answer}
use Rattle.router_core.proofs.HearingSteps.{numbered_at}
use Rattle.router_core.proofs.Cutting.{joined-pieces}
use Rattle.router_core.specs.declared.config.Interface.{Interface}
use Rattle.ripng_world.specs.declared.network.NetInterface.{NetInterface}
use Rattle.ripng_world.specs.declared.event.Sent.{Sent}
use Rattle.ripng_world.specs.Network.{Network, Node, config_of, interface_at, OwnsPrefixes}
use Rattle.ripng_world.specs.Walks.{Reaches, end_of}
use Rattle.ripng_world.specs.World.{World, Event, Deliver, Stranger, Tick, Restart, Shutdown, LinkDown, LinkUp, Reconfigure, RouterMoves, sent_by}
use Rattle.ripng_world.specs.Rounds.{IsDueTick, AllTick, router_of, moment_of}
use Rattle.ripng_world.specs.Network.{IsUsable}
use Rattle.ripng_world.specs.Convergence.{FitsTables, IsNeverQuiet}
use Rattle.ripng_world.proofs.Announced.{told_whole}
use Rattle.ripng_world.proofs.Each.{each_filter, each_take, each_drop, each_append, each_mapped, each_image, each_flat, each_weaker}
use Rattle.ripng_world.proofs.Members.{At, at_map, at_left, at_right, at_flat, at_filter, at_entries, in_joined}
use Rattle.ripng_world.proofs.WorldRuns.{get_map, in_node, get_set}
use Rattle.ripng_world.proofs.Improving.{RouteAt, IsTimely, HasShape, IsFine}
use Rattle.ripng_world.proofs.RoundHearing.{IsToldEntry}

-- ---- fine routes do not expire

-- a fine route at a later moment, of a later round
pub later_fine : (net : Network) (base : World) (k k' : ℕ) (moments moments' : ℕ → Type 0) (router last now n : ℕ) (p : Prefix6) (r : RouteValue)
    → k ≤ k' → ((x : ℕ) → moments x → moments' x) → n ≡ max last now → ((x : ℕ) → moments x → now < x + timeout)
    → IsFine net base k moments router last p r → IsFine net base k' moments' router n p r
later_fine net base k k' moments moments' router last now n p r more wider n_is close f =
    record {
      is_prefix = f.is_prefix;
      walk = f.walk;
      hops = le_trans f.hops more;
      reaches = f.reaches;
      low = f.low;
      positive = f.positive;
      shape = by_origin r.origin f.shape;
    }
  where
    before : (a b n u s : ℕ) → n ≡ max a b → a < u → b < s + timeout → s + timeout ≤ u → n < u
    before a b n u s e f g h = omega arith

    later : (until : ℕ) → IsTimely moments last until → IsTimely moments' n until
    later until t = record { ahead = before last now n until t.since n_is t.ahead (close t.since t.of_router) t.within; since = t.since; of_router = wider t.since t.of_router; within = t.within }

    by_origin : (x : Origin) → HasShape net base moments router last p r.metric r.clock x → HasShape net base moments' router n p r.metric r.clock x
    by_origin Own s = s
    by_origin (Learned i h m) s = (s.0, s.1, s.2, later s.0 s.3)

not_aged : (net : Network) (base : World) (k : ℕ) (moments : ℕ → Type 0) (router n : ℕ) (p : Prefix6) (r : RouteValue) → IsFine net base k moments router n p r → aged n r ≡ Some r
not_aged net base k moments router n p r f = by_origin r.origin f.shape
  where
    still : (until : ℕ) → n < until → nat_le until n ≡ false
    still until h = grind (arith, nat_tests)

    by_origin : (x : Origin) → HasShape net base moments router n p r.metric r.clock x → aged_by_clock n r r.clock ≡ Some r
    by_origin Own s = ap (aged_by_clock n r) s.0
    by_origin (Learned i h m) s = ap (aged_by_clock n r) s.1 ∙ ap (λ b. cond b (Some (lost n r)) (Some r)) (still s.0 s.3.ahead)

-- marks do not matter
pub unmarked_fine : (net : Network) (base : World) (k : ℕ) (moments : ℕ → Type 0) (router last : ℕ) (p : Prefix6) (r s : RouteValue)
    → without_mark r ≡ Some s → IsFine net base k moments router last p r → IsFine net base k moments router last p s
unmarked_fine net base k moments router last p r s e f =
    subst (IsFine net base k moments router last p) (Some-same _ s e)
    (record { is_prefix = f.is_prefix; walk = f.walk; hops = f.hops; reaches = f.reaches; low = f.low; positive = f.positive; shape = f.shape })

-- the routes are those of the old table, but for marks
abbrev pub IsSameButMarks : Table → Table → Type 0
IsSameButMarks old new = (p : Prefix6) → option_and_then without_mark (map_of.get new p) ≡ option_and_then without_mark (map_of.get old p)

pub record IsLike (r s : RouteValue) : Type 0 where
  pub metric : r.metric ≡ s.metric
  pub tag : r.tag ≡ s.tag
  pub origin : r.origin ≡ s.origin
  pub clock : r.clock ≡ s.clock

pub like_route : (old new : Table) → IsSameButMarks old new → (p : Prefix6) (r : RouteValue) → map_of.get new p ≡ Some r → (s : RouteValue) × (map_of.get old p ≡ Some s) × IsLike r s
like_route old new same p r is = by_value (map_of.get old p) refl (sym (ap (option_and_then without_mark) is) ∙ same p)
  where
    by_value : (o : Option RouteValue) → map_of.get old p ≡ o → without_mark r ≡ option_and_then without_mark o → (s : RouteValue) × (map_of.get old p ≡ Some s) × IsLike r s
    by_value None at e = absurd (None-Some _ (sym e))
    by_value (Some s) at e =
        let eq = Some-same _ _ e in
        (s, at, record { metric = ap (λ (x : RouteValue). x.metric) eq; tag = ap (λ (x : RouteValue). x.tag) eq; origin = ap (λ (x : RouteValue). x.origin) eq; clock = ap (λ (x : RouteValue). x.clock) eq })

pub spelled_at : (ms : List Message) (os : List Outgoing) → AreSpelled ms os → (m : Message) → At ms m → (o : Outgoing) × At os o × IsSpelled m o
spelled_at [] [] s m a = absurd (None-Some m a.1)
spelled_at [] (o ∷ os) s m a = absurd s
spelled_at (n ∷ ms) [] s m a = absurd s
spelled_at (n ∷ ms) (o ∷ os) s m a = by_place a.0 a.1 (λ i e. spelled_at ms os s.1 m (i, e))
  where
    by_place : (i : ℕ) → slice_get (n ∷ ms) i ≡ Some m → ((j : ℕ) → slice_get ms j ≡ Some m → (p : Outgoing) × At os p × IsSpelled m p) → (p : Outgoing) × At (o ∷ os) p × IsSpelled m p
    by_place zero e later = (o, (0, refl), subst (λ x. IsSpelled x o) (Some-same n m e) s.0)
    by_place (suc i) e later = let l = later i e in (l.0, (suc l.1.0, l.1.1), l.2)

module _ (net : Network) (usable : IsUsable net) (owns : OwnsPrefixes net) (noisy : IsNeverQuiet net) (fits : FitsTables net) (base : World) (k : ℕ) (both current : ℕ → ℕ → Type 0)
    (close : (router x y : ℕ) → both router x → current router y → y < x + timeout) where
  -- a router during the ticks
  pub record IsTicking (router : ℕ) (s : State) : Type 0 where
    pub old : State
    pub old_is : slice_get base.states router ≡ Some old
    pub node : Node
    pub node_is : slice_get net router ≡ Some node
    pub config_is : s.config ≡ config_of node
    pub fine : (p : Prefix6) (r : RouteValue) → map_of.get s.table p ≡ Some r → IsFine net base k (both router) router s.last p r
    pub same : IsSameButMarks old.table s.table

  -- a datagram that tells what its sender had
  abbrev pub IsUpdate : Sent → Type 0
  IsUpdate d = (entries : List Rte) × Spells Response entries d.bytes × AllByRecursion (IsToldEntry net base k d.router d.iface) entries

  -- a datagram of the router, on the interface, that names the prefix
  pub record Tells (new : List Sent) (router iface : ℕ) (p : Prefix6) : Type 0 where
    pub sent : Sent
    pub stands : At new sent
    pub by_router : sent.router ≡ router
    pub on_iface : sent.iface ≡ iface
    pub entries : List Rte
    pub spelled : Spells Response entries sent.bytes
    pub entry : Rte
    pub in_entries : At entries entry
    pub names : cleared entry.addr entry.len ≡ p

  abbrev pub TellsAll : List Sent → ℕ → Type 0
  TellsAll new router =
      (iface : ℕ) (here : NetInterface) → interface_at net router iface ≡ Some here → (p : Prefix6) (r : RouteValue) → RouteAt base router p r → Tells new router iface p

  module _ (router : ℕ) (s : State) (t : IsTicking router s) (now n : ℕ) (now_of : current router now) (n_is : n ≡ max s.last now) where
    fine_now : (p : Prefix6) (r : RouteValue) → map_of.get s.table p ≡ Some r → IsFine net base k (both router) router n p r
    fine_now p r is = later_fine net base k k (both router) (both router) router s.last now n p r (le_refl _) (λ x m. m) n_is (λ x m. close router x now m now_of) (t.fine p r is)

    aged_same : (p : Prefix6) → map_of.get (aged_table n s.table) p ≡ map_of.get s.table p
    aged_same p = get-map_values (aged n) s.table p ∙ by_value (map_of.get s.table p) refl
      where
        by_value : (o : Option RouteValue) → map_of.get s.table p ≡ o → option_and_then (aged n) o ≡ o
        by_value None is = refl
        by_value (Some r) is = not_aged net base k (both router) router n p r (fine_now p r is)

    entry_told : (iface : ℕ) (p : Prefix6) (r : RouteValue) → map_of.get (aged_table n s.table) p ≡ Some r → IsToldEntry net base k router iface (told_entry iface (p, r))
    entry_told iface p r here =
        let is : map_of.get s.table p ≡ Some r = sym (aged_same p) ∙ here in
        let f = t.fine p r is in
        let l = like_route t.old.table s.table t.same p r is in
        record {
          prefix = p;
          route = l.0;
          at = (t.old, t.old_is, l.1);
          named = f.is_prefix;
          is_prefix = f.is_prefix;
          walk = f.walk;
          hops = f.hops;
          reaches = subst (λ g. Reaches net router p l.0.metric g f.walk) l.2.tag (subst (λ m. Reaches net router p m r.tag f.walk) l.2.metric f.reaches);
          positive = subst (λ m. 1 ≤ m) l.2.metric f.positive;
          low = subst (λ m. m < infinity) l.2.metric f.low;
          metric = ap₂ (λ x m. cond (is_learned_on iface x) infinity m) l.2.origin l.2.metric;
          tag = l.2.tag;
          short = (owns (end_of router f.walk) p r.tag f.reaches.owner).short;
          routable = usable.routable (end_of router f.walk) p r.tag f.reaches.owner;
        }

    abbrev AllEntriesTold : ℕ → List Rte → Type 0
    AllEntriesTold iface entries = AllByRecursion (IsToldEntry net base k router iface) entries

    all_told : (iface : ℕ) → AllEntriesTold iface (told iface every_route (aged_table n s.table))
    all_told iface =
        each_mapped (IsToldEntry net base k router iface) (told_entry iface) _
        (each_filter (λ (u : Prefix6 × RouteValue). IsToldEntry net base k router iface (told_entry iface u)) (λ u. every_route u.1) (map_of.entries (aged_table n s.table))
        (all_entries (λ u. IsToldEntry net base k router iface (told_entry iface u)) (aged_table n s.table) (entry_told iface)))

    abbrev IsUpdateMessage : Message → Type 0
    IsUpdateMessage m = (m.command ≡ Response) × AllEntriesTold m.iface m.entries

    pieces_told : (iface size : ℕ) (entries : List Rte) → AllEntriesTold iface entries → AllByRecursion (AllEntriesTold iface) (pieces size entries)
    pieces_told iface size entries all =
        each_image (AllEntriesTold iface) (λ j. slice_range entries (size * j) (size * j + size))
        (λ j. each_take (IsToldEntry net base k router iface) ((size * j + size) - size * j) (drop (size * j) entries) (each_drop (IsToldEntry net base k router iface) (size * j) entries all))
        (numbers_below ((length entries + (size - 1)) / size))

    abbrev updates : List Message
    updates = flat_map (λ u. responses s.config u.0 Group (told u.0 every_route (aged_table n s.table))) (enumerate_from 0 s.config.interfaces)

    updates_are : update_messages s.config every_route (aged_table n s.table) ≡ updates
    updates_are =
        told_whole s.config every_route (aged_table n s.table) (λ iface. ap (λ (c : Config). is_passive c iface) t.config_is ∙ noisy router iface t.node t.node_is)
        (λ iface p r at. let f = t.fine p r (sym (aged_same p) ∙ at) in
        ap (λ (c : Config). is_announced c iface p) t.config_is
        ∙ fits.3.announced router iface t.node p t.node_is (end_of router f.walk, r.tag, f.reaches.owner))

    updates_told : AllByRecursion IsUpdateMessage updates
    updates_told =
        each_flat IsUpdateMessage (λ u. responses s.config u.0 Group (told u.0 every_route (aged_table n s.table)))
        (λ u. each_mapped IsUpdateMessage (λ piece. record { iface = u.0; to = Group; command = Response; entries = piece }) (pieces (entries_for_mtu (mtu_at s.config u.0)) (told u.0 every_route (aged_table n s.table)))
        (each_weaker (λ piece. (Response ≡ Response) × AllEntriesTold u.0 piece) (AllEntriesTold u.0) (λ piece a. (refl, a)) _
        (pieces_told u.0 (entries_for_mtu (mtu_at s.config u.0)) (told u.0 every_route (aged_table n s.table)) (all_told u.0))))
        (enumerate_from 0 s.config.interfaces)

    -- each route is told on each interface
    update_at : (iface : ℕ) (here : NetInterface) → interface_at net router iface ≡ Some here → (p : Prefix6) (r : RouteValue) → map_of.get s.table p ≡ Some r
        → (m : Message) × At updates m × (m.command ≡ Response) × (m.iface ≡ iface) × At m.entries (told_entry iface (p, r))
    update_at iface here is p r at =
        let listed : slice_get s.config.interfaces iface ≡ Some here.interface =
        ap (λ (c : Config). slice_get c.interfaces iface) t.config_is ∙ get_map (λ (i : NetInterface). i.interface) t.node.interfaces iface
        ∙ ap (option_map (λ (i : NetInterface). i.interface)) (sym (in_node net router iface t.node t.node_is) ∙ is) in
        let size : ℕ = entries_for_mtu (mtu_at s.config iface) in
        let all : List Rte = told iface every_route (aged_table n s.table) in
        let stands : At all (told_entry iface (p, r)) =
        at_map (told_entry iface) (filter (λ (u : Prefix6 × RouteValue). every_route u.1) (map_of.entries (aged_table n s.table))) (p, r) (at_filter (λ (u : Prefix6 × RouteValue). every_route u.1) (map_of.entries (aged_table n s.table)) (p, r) (at_entries (aged_table n s.table) p r (aged_same p ∙ at)) (λ _. refl)) in
        let some : 0 < size = subst (λ (o : Option Interface). 0 < entries_for_mtu (unwrap_or (option_map (λ i. i.mtu) o) 1280)) (sym listed) (room here.interface.mtu (usable.mtus router iface here is).0) in
        let one = in_joined (pieces size all) (told_entry iface (p, r)) (subst (λ xs. At xs (told_entry iface (p, r))) (sym (joined-pieces size all some)) stands) in (
          record { iface = iface; to = Group; command = Response; entries = one.0 },
          at_flat (λ u. responses s.config u.0 Group (told u.0 every_route (aged_table n s.table))) (enumerate_from 0 s.config.interfaces) (iface, here.interface) _
              (iface, numbered_at 0 s.config.interfaces iface here.interface listed ∙ ap (λ (m : ℕ). Some (m, here.interface)) (zero_first iface))
              (at_map (λ piece. record { iface = iface; to = Group; command = Response; entries = piece }) (pieces size all) one.0 one.1),
          refl,
          refl,
          one.2,
        )
      where
        zero_first : (m : ℕ) → 0 + m ≡ m
        zero_first m = omega arith

        room : (m : ℕ) → 1280 ≤ m → 0 < (m - 52) / 20
        room m h = omega arith

    -- ---- the tick

    abbrev ticked_now : ℕ → State
    ticked_now word = record s { table = unmarked (aged_table n s.table); last = n; regular = next_regular n word }

    unmarked_at : (p : Prefix6) → map_of.get (unmarked (aged_table n s.table)) p ≡ option_and_then without_mark (map_of.get s.table p)
    unmarked_at p = get-map_values without_mark (aged_table n s.table) p ∙ ap (option_and_then without_mark) (aged_same p)

    ticking_on : (word : ℕ) → IsTicking router (ticked_now word)
    ticking_on word =
        record {
          old = t.old;
          old_is = t.old_is;
          node = t.node;
          node_is = t.node_is;
          config_is = t.config_is;
          fine = λ p r is. by_value p r (map_of.get s.table p) refl (sym (unmarked_at p) ∙ is);
          same = λ p. ap (option_and_then without_mark) (unmarked_at p) ∙ twice (map_of.get s.table p) ∙ t.same p;
        }
      where
        twice : (o : Option RouteValue) → option_and_then without_mark (option_and_then without_mark o) ≡ option_and_then without_mark o
        twice None = refl
        twice (Some r) = refl

        by_value : (p : Prefix6) (r : RouteValue) (o : Option RouteValue) → map_of.get s.table p ≡ o → option_and_then without_mark o ≡ Some r → IsFine net base k (both router) router n p r
        by_value p r None is e = absurd (None-Some r e)
        by_value p r (Some q) is e = unmarked_fine net base k (both router) router n p q r e (fine_now p q is)

    messages_sent : (ms : List Message) (sends : List Outgoing) → AllByRecursion IsUpdateMessage ms → AreSpelled ms sends → AllByRecursion IsUpdate (map (sent_by router) sends)
    messages_sent [] [] all spelled = tt
    messages_sent [] (o ∷ os) all spelled = absurd spelled
    messages_sent (m ∷ ms) [] all spelled = absurd spelled
    messages_sent (m ∷ ms) (o ∷ os) all spelled = (
      (m.entries, subst (λ c. Spells c m.entries o.bytes) all.0.0 spelled.0.bytes, subst (λ i. AllEntriesTold i m.entries) (sym spelled.0.iface) all.0.1),
      messages_sent ms os all.1 spelled.1,
    )

    pub tells_all : (before : List Sent) (sends : List Outgoing) → AreSpelled updates sends → TellsAll (before ++ map (sent_by router) sends) router
    tells_all before sends spelled iface here is p r at =
        let mine : map_of.get t.old.table p ≡ Some r = ap (λ (x : State). map_of.get x.table p) (Some-same t.old at.0 (sym t.old_is ∙ at.1)) ∙ at.2 in
        let l = like_route s.table t.old.table (λ q. sym (t.same q)) p r mine in
        let u = update_at iface here is p l.0 l.1 in
        let o = spelled_at updates sends spelled u.0 u.1 in
        record {
          sent = sent_by router o.0;
          stands = at_right before (map (sent_by router) sends) (sent_by router o.0) (at_map (sent_by router) sends o.0 o.1);
          by_router = refl;
          on_iface = o.2.iface ∙ u.3;
          entries = u.0.entries;
          spelled = subst (λ c. Spells c u.0.entries o.0.bytes) u.2 o.2.bytes;
          entry = told_entry iface (p, l.0);
          in_entries = u.4;
          names = (t.fine p l.0 l.1).is_prefix;
        }

  -- all routers during the ticks, and what the ticks have sent
  pub record AreTicking (w : World) (new : List Sent) : Type 0 where
    pub states : (router : ℕ) (s : State) → slice_get w.states router ≡ Some s → IsTicking router s
    pub sent_is : w.sent ≡ base.sent ++ new
    pub all_updates : AllByRecursion IsUpdate new

  tick_done : (w w' : World) (new : List Sent) (router now word : ℕ) (answer : Answer) → AreTicking w new → current router now
      → IsDueTick w (Tick router now word) → RouterMoves w router (Ticks now word) answer w'
      → (later : List Sent) × AreTicking w' (new ++ later) × TellsAll (new ++ later) router
  tick_done w w' new router now word answer all now_of due m =
      let t : IsTicking router m.old = all.states router m.old m.old_is in
      let n : ℕ = max m.old.last now in
      let is_due : is_regular_due m.old n ≡ true = subst (λ (s : State). is_regular_due s (max s.last now) ≡ true) (Some-same due.0 m.old (sym due.1 ∙ m.old_is)) (reached due.0.regular (max due.0.last now) due.2) in
      let new_is : m.new ≡ ticked_now router m.old t now n now_of refl word =
      m.moves.state ∙ pick is_due in
      let spelled : AreSpelled (updates router m.old t now n now_of refl) answer.sends =
      subst (λ ms. AreSpelled ms answer.sends) (messages is_due ∙ updates_are router m.old t now n now_of refl) m.moves.answer_is.sends in (
        map (sent_by router) answer.sends,
        record {
          states = λ r s is. elim (get_set w.states router m.new r s (ap (λ (ss : List State). slice_get ss r) (sym m.states) ∙ is)) [
            | inl same ↦ subst (λ q. IsTicking q s) same.0 (subst (IsTicking router) (sym new_is ∙ same.1) (ticking_on router m.old t now n now_of refl word))
            | inr there ↦ all.states r s there
          ];
          sent_is = m.sent ∙ ap (λ xs. xs ++ map (sent_by router) answer.sends) all.sent_is ∙ append_assoc base.sent new (map (sent_by router) answer.sends);
          all_updates = each_append IsUpdate new (map (sent_by router) answer.sends) all.all_updates
              (messages_sent router m.old t now n now_of refl (updates router m.old t now n now_of refl) answer.sends (updates_told router m.old t now n now_of refl) spelled);
        },
        tells_all router m.old t now n now_of refl new answer.sends spelled,
      )
    where
      reached : (r n : ℕ) → r ≤ n → nat_le r n ≡ true
      reached r n h = grind (arith, nat_tests)

      pick : is_regular_due m.old (max m.old.last now) ≡ true → ticked m.old (max m.old.last now) word ≡ record m.old { table = unmarked (aged_table (max m.old.last now) m.old.table); last = max m.old.last now; regular = next_regular (max m.old.last now) word }
      pick e =
          let n : ℕ = max m.old.last now in
          ap (λ b. cond b (record m.old { table = unmarked (aged_table n m.old.table); last = n; regular = next_regular n word })
          (cond (is_triggered_due m.old n) (record m.old { table = unmarked (aged_table n m.old.table); last = n; hold = next_hold n word }) (record m.old { table = aged_table n m.old.table; last = n }))) e

      messages : is_regular_due m.old (max m.old.last now) ≡ true → tick_messages m.old (max m.old.last now) ≡ update_messages m.old.config every_route (aged_table (max m.old.last now) m.old.table)
      messages e =
          let n : ℕ = max m.old.last now in
          ap (λ b. cond b (update_messages m.old.config every_route (aged_table n m.old.table)) (cond (is_triggered_due m.old n) (update_messages m.old.config is_changed (aged_table n m.old.table)) [])) e

  tells_more : (new more : List Sent) (router : ℕ) → TellsAll new router → TellsAll (new ++ more) router
  tells_more new more router t iface here is p r at =
      let x = t iface here is p r at in
      record { sent = x.sent; stands = at_left new more x.sent x.stands; by_router = x.by_router; on_iface = x.on_iface; entries = x.entries; spelled = x.spelled; entry = x.entry; in_entries = x.in_entries; names = x.names }

  pub record IsAfterTicks (new : List Sent) (events : List Event) (w' : World) : Type 0 where
    pub later : List Sent
    pub ticking : AreTicking w' (new ++ later)
    pub all_tell : AllByRecursion (TellsAll (new ++ later)) (map router_of events)

  -- all ticks of the round
  pub ticks_done : (events : List Event) (w w' : World) (new : List Sent) → AreTicking w new → AllByRecursion (λ e. current (router_of e) (moment_of e)) events
      → AllTick net w events w' → IsAfterTicks new events w'
  ticks_done [] w w' new all moments is =
      record { later = []; ticking = subst (λ xs. AreTicking w' xs) (sym (append-nil new)) (subst (λ v. AreTicking v new) (sym is) all); all_tell = tt }
  ticks_done (Tick router now word ∷ events) w w' new all moments run =
      let one = tick_done w run.0 new router now word run.1 all moments.0 run.2 run.3 in
      let rest = ticks_done events run.0 w' (new ++ one.0) one.1 moments.1 run.4 in
      let joined : (new ++ one.0) ++ rest.later ≡ new ++ (one.0 ++ rest.later) = append_assoc new one.0 rest.later in
      record {
        later = one.0 ++ rest.later;
        ticking = subst (AreTicking w') joined rest.ticking;
        all_tell = subst (λ xs. TellsAll xs router × AllByRecursion (TellsAll xs) (map router_of events)) joined (tells_more (new ++ one.0) rest.later router one.2, rest.all_tell);
      }
  ticks_done (Deliver datagram router iface now ∷ events) w w' new all moments run = absurd run.2
  ticks_done (Stranger router x ∷ events) w w' new all moments run = absurd run.2
  ticks_done (Restart router now ∷ events) w w' new all moments run = absurd run.2
  ticks_done (Shutdown router now ∷ events) w w' new all moments run = absurd run.2
  ticks_done (LinkDown router now on ∷ events) w w' new all moments run = absurd run.2
  ticks_done (LinkUp router now on ∷ events) w w' new all moments run = absurd run.2
  ticks_done (Reconfigure router now c ∷ events) w w' new all moments run = absurd run.2
