-- Old news is forgotten: by induction on the metric, each route rests on costs and owners in force since a moment not long ago.
use Rattle.std.proofs.Common.{◌≡◌, ◌⊎◌, inl, inr, ℕ, zero, suc, ◌+◌, ◌-◌, ◌*◌, min, ◌<◌, ◌≤◌, List, [], ◌∷◌, ◌++◌, length, Option, Some, option_map, unwrap_or, slice_get, refl, ap, sym, subst, ◌∙◌, arith, append_assoc, append-nil, le_refl}
use Rattle.std.specs.List.{AllByRecursion}
use Rattle.std.specs.FinMap as map_of
use Rattle.std.proofs.lemmas.List.Elements.{All-from_recursion}
use Rattle.std.proofs.lemmas.Option.{slice_get_within}
use Rattle.prefix6.specs.Prefix.{Prefix6, IsPrefix}
use Rattle.ripng_wire.specs.declared.rte.Rte.{Rte}
use Rattle.ripng_wire.specs.declared.rte.Command.TheVariants.{Response}
use Rattle.ripng_wire.specs.Layout.{Spells}
use Rattle.route_table.specs.Route.{RouteValue, infinity}
use Rattle.route_table.specs.declared.route.Origin.{Origin}
use Rattle.route_table.specs.declared.route.Origin.TheVariants.{Own, Learned}
use Rattle.route_table.specs.declared.route.Clock.{Clock}
use Rattle.route_table.specs.declared.route.Clock.TheVariants.{Fixed, Live, Dying}
use Rattle.route_table.proofs.TableLaws.{None-Some, Some-same}
use Rattle.router_core.specs.Config.{Config}
use Rattle.router_core.specs.Machine.{State}
use Rattle.router_core.specs.Offers.{prefix_named}
use Rattle.router_core.specs.declared.reconfiguring.Change.{Change}
use Rattle.ripng_world.specs.Healing.{network_now}
use Rattle.ripng_world.specs.Network.{Network, IsNetwork, AreLinked, interface_at}
use Rattle.ripng_world.specs.Past.{Past, IsBackedSince, OwnsSince, ReachesSince}
use Rattle.ripng_world.specs.Walks.{Hop, BeginsAs, cost_of_interface}
use Rattle.ripng_world.specs.World.{World, Event, IsCold, WorldRun, address_at, past_of}
use Rattle.ripng_world.specs.declared.event.Sent.{Sent}
use Rattle.ripng_world.specs.declared.network.NetInterface.{NetInterface}
use Rattle.ripng_world.proofs.Each.{each_at_place, each_from_places}
use Rattle.ripng_world.proofs.HealPlain.{IsClocked}
use Rattle.ripng_world.proofs.Members.{At, at_from_contains, at_right, get_right}
use Rattle.ripng_world.proofs.NetworkNow.{IsLawfulChange, linked_alike, now_lawful}
use Rattle.ripng_world.proofs.Reached.{IsReachedBy, IsReachedRow}
use Rattle.ripng_world.proofs.ReachedRuns.{IsReachedState}
use Rattle.ripng_phases.specs.Ages.{IsAwake, IsRecent, past_from}
use Rattle.ripng_phases.specs.Minutes.{Timed, AreFrom, untimed}
use Rattle.ripng_phases.specs.Phases.{reached}
use Rattle.ripng_phases.proofs.Alike.{address_alike}
use Rattle.ripng_phases.proofs.AnyTold.{AreClean, IsTold, any_tells}
use Rattle.ripng_phases.proofs.Births.{IsAged, IsBorn, aged_at, alike_base, cost_in_force, from_at, good_here, lead_here, lead_on, own_here, owner_in_force, reached_here}
use Rattle.ripng_phases.proofs.Leading.{IsSender, lead_reached, reached_next, sender_of}
use Rattle.ripng_phases.proofs.Resting.{rests_low}

-- of what was told of a prefix, no metric is 0
at_least_one : (m c n : ℕ) → n ≡ min (m + c) 16 → n < 16 → 1 ≤ c → m < n
at_least_one m c n e f g = omega arith

module _ (net : Network) (is_net : IsNetwork net) (moments : List ℕ) (events : List Event) (cold w : World) (is_cold : IsCold net moments cold) (run : WorldRun net cold events w)
    (history : List Timed) (start : ℕ) (w' : World) (recent : IsRecent net w history start w') where
  abbrev pub since : Past
  since = past_from net w history

  -- ---- at a moment of the history

  module _ (before after : List Timed) (parts : history ≡ before ++ after) where
    row_here : (router : ℕ) (s : State) → slice_get (reached w (untimed before)).states router ≡ Some s → (p : Prefix6) (r : RouteValue) → map_of.get s.table p ≡ Some r
        → IsReachedRow (past_of net (reached w (untimed before))) s.config s.last p r
    row_here router s at p r is = ((reached_here net is_net moments events cold w is_cold run history start w' recent before after parts).states router s at).reached.rows p r is

    -- tables are of prefixes
    clean_here : AreClean (reached w (untimed before))
    clean_here router s at p r is = by (row_here router s at p r is).plain.is_known.2
      where
        by : OwnsSince (past_of net (reached w (untimed before))) (row_here router s at p r is).plain.is_known.0 p (row_here router s at p r is).plain.is_known.1 → IsPrefix p
        by (inl owns) = is_net.owns_prefixes (row_here router s at p r is).plain.is_known.0 p (row_here router s at p r is).plain.is_known.1 owns
        by (inr done) =
            (each_at_place (λ (t : ℕ × Change). IsLawfulChange t.1) (reached w (untimed before)).reconfigurations
            (reached_here net is_net moments events cold w is_cold run history start w' recent before after parts).lawful done.0 _ done.1).0

    -- a prefix of its own
    own_backed : (router : ℕ) (s : State) → slice_get (reached w (untimed before)).states router ≡ Some s → (p : Prefix6) (r : RouteValue) → map_of.get s.table p ≡ Some r → r.clock ≡ Fixed
        → IsBackedSince (past_from net w history) router p r
    own_backed router s at p r is fixed =
        let row = row_here router s at p r is in
        let state : IsReachedState net (reached w (untimed before)).reconfigurations router s =
        (reached_here net is_net moments events cold w is_cold run history start w' recent before after parts).states router s at in
        let own = own_here net is_net moments events cold w is_cold run history start w' recent before after parts router s at p r is fixed in
        let origin : r.origin ≡ Own = (subst (IsReachedBy s.config s.last p r) fixed row.reached).0 in
        let one : r.metric ≡ 1 = subst (IsClocked r.metric) fixed row.plain.clocked in (
          [],
          record {
            is_walk = tt;
            costs = one;
            owner = owner_in_force net is_net moments events cold w is_cold run history start w' recent before after parts router p r.tag
                (record { node = state.node; node_is = state.node_is; place = own.0; listed = ap (λ (c : Config). slice_get c.prefixes own.0) (sym state.config_is) ∙ own.1 });
          },
          subst (λ (o : Origin). BeginsAs (network_now (past_of net w)) o []) (sym origin) tt,
        )

    -- an interface of a link costs at least 1
    costs_one : (router iface sender sender_iface : ℕ) → AreLinked (network_now (past_of net (reached w (untimed before)))) router iface sender sender_iface
        → 1 ≤ cost_of_interface (network_now (past_of net (reached w (untimed before)))) router iface
    costs_one router iface sender sender_iface l =
        subst (λ (o : Option NetInterface). 1 ≤ unwrap_or (option_map (λ (i : NetInterface). i.interface.cost) o) infinity) (sym l.here_is)
        ((now_lawful (reached w (untimed before)).reconfigurations net (reached_here net is_net moments events cold w is_cold run history start w' recent before after parts).lawful is_net).usable.costs router iface l.here l.here_is).0

    -- the next hop of a route that is learned is its gateway
    next_hop_here : (router : ℕ) (s : State) → slice_get (reached w (untimed before)).states router ≡ Some s → (p : Prefix6) (r : RouteValue) → map_of.get s.table p ≡ Some r → r.metric < infinity
        → (iface from next_hop : ℕ) → r.origin ≡ Learned iface from next_hop → next_hop ≡ from
    next_hop_here router s at p r is low iface from next_hop origin =
        let b = ((good_here net is_net moments events cold w is_cold run history start w' recent before after parts).states_good router s at).sound p r is in
        by (b.backed low).0 (subst (λ (o : Origin). BeginsAs net o (b.backed low).0) origin (b.backed low).2)
      where
        by : (walk : List Hop) → BeginsAs net (Learned iface from next_hop) walk → next_hop ≡ from
        by [] begins = absurd begins
        by (h ∷ walk) begins = begins.2

  -- ---- the induction

  -- each route up to that metric is backed, so long after the start
  abbrev TablesBacked : ℕ → Type 0
  TablesBacked m =
      (before after : List Timed) → history ≡ before ++ after → (router : ℕ) (s : State) → slice_get (reached w (untimed before)).states router ≡ Some s
      → (p : Prefix6) (r : RouteValue) → map_of.get s.table p ≡ Some r → r.metric ≤ suc m → r.metric < infinity
      → (now : ℕ) → start + m * 197_000 ≤ now → (1 ≤ m → IsAwake before router now) → IsBackedSince (past_from net w history) router p r

  -- and so is each entry that is told then
  abbrev SaidBacked : ℕ → Type 0
  SaidBacked m =
      (before : List Timed) (x : Timed) (after : List Timed) → history ≡ before ++ x ∷ after → (i : ℕ) (d : Sent) → length (reached w (untimed before)).sent ≤ i → slice_get x.step.after.sent i ≡ Some d
      → (entries : List Rte) → Spells Response entries d.bytes → (e : Rte) → At entries e → e.metric < infinity → e.metric ≤ suc m → start + m * 197_000 ≤ x.at
      → (walk : List Hop) × ReachesSince (past_from net w history) d.router (prefix_named e) e.metric e.tag walk

  said_backed : (m : ℕ) → TablesBacked m → SaidBacked m
  said_backed m tables before x after parts i d new is entries spelled e stands low few late =
      let next : history ≡ (before ++ x ∷ []) ++ after = parts ∙ sym (append_assoc before (x ∷ []) after) in
      let told = any_tells net (reached w (untimed before)) x.step.after (clean_here before (x ∷ after) parts)
      (subst AreClean (reached_next before x w) (clean_here (before ++ x ∷ []) after next)) x.step.event x.step.answer
      (lead_on net is_net moments events cold w is_cold run history start w' recent before (x ∷ after) parts).0 in
      let a : At told.0 d = get_right (reached w (untimed before)).sent told.0 i d new (ap (λ (ds : List Sent). slice_get ds i) (sym told.1) ∙ is) in
      let t : IsTold x.step.event x.step.after d = each_at_place (IsTold x.step.event x.step.after) told.0 told.2 a.0 d a.1 in
      let r = t.tells entries spelled e stands low in
      let b : IsBackedSince (past_from net w history) d.router (prefix_named e) r.0 =
      tables (before ++ x ∷ []) after next d.router t.state (ap (λ (y : World). slice_get y.states d.router) (reached_next before x w) ∙ t.state_is) (prefix_named e) r.0 r.1
      (subst (λ n. n ≤ suc m) (sym r.2) few) (subst (λ n. n < infinity) (sym r.2) low) x.at late
      (λ some. subst (λ router. IsAwake (before ++ x ∷ []) router x.at) t.by (recent.awake before x after parts (begun m start x.at some late))) in
      (b.0, subst (λ n. ReachesSince (past_from net w history) d.router (prefix_named e) e.metric n b.0) r.3 (subst (λ n. ReachesSince (past_from net w history) d.router (prefix_named e) n r.0.tag b.0) r.2 b.1))
    where
      begun : (m s x : ℕ) → 1 ≤ m → s + m * 197_000 ≤ x → s + 1_000 ≤ x
      begun m s x f g = omega arith

  -- a datagram that is heard in time was sent in time
  module _ (m : ℕ) (before after : List Timed) (parts : history ≡ before ++ after) (router : ℕ) (p : Prefix6) (r : RouteValue) (born : ℕ) (b : IsBorn net w before born router p r) (young : start + m * 197_000 + 15_000 < born) where
    heard_parts : history ≡ b.before ++ (b.heard ∷ (b.after ++ after))
    heard_parts = parts ∙ ap (λ xs. xs ++ after) b.parts ∙ append_assoc b.before (b.heard ∷ b.after) after

    not_old : (old new : List Timed) → b.before ≡ old ++ new → AllByRecursion (λ s. s.at + 15_000 ≤ b.heard.at) old → length (reached w (untimed old)).sent ≤ b.rests.datagram
    not_old old new split all =
        up (length (reached w (untimed old)).sent) b.datagram b.rests.datagram
        (recent.recent b.before b.heard (b.after ++ after) heard_parts (late (start + m * 197_000) b.heard.at born start (m * 197_000) refl b.at young) b.datagram router b.iface b.now b.event old new split (All-from_recursion (λ s. s.at + 15_000 ≤ b.heard.at) old all))
        b.rests.recent
      where
        up : (a b c : ℕ) → a ≤ b → b ≤ c → a ≤ c
        up a b c e f = omega arith

        late : (q h b s n : ℕ) → q ≡ s + n → h ≡ b → q + 15_000 < b → s + 15_000 ≤ h
        late q h b s n e f g = omega arith

    sender : IsSender w b.before b.rests.datagram b.rests.sent
    sender =
        sender_of net w b.before (reached w (untimed b.before)) (lead_here net is_net moments events cold w is_cold run history start w' recent b.before (b.heard ∷ (b.after ++ after)) heard_parts)
        b.rests.datagram b.rests.sent (not_old [] b.before refl tt) b.rests.sent_is

    in_time : start + m * 197_000 ≤ sender.step.at
    in_time = by (split (sender.step.at + 15_000) b.heard.at)
      where
        split : (a b : ℕ) → (a ≤ b) ⊎ (b < a)
        split a b = grind arith

        never : (a b : ℕ) → b ≤ a → a < b → ⊥
        never a b e f = omega arith

        recent_one : (q x h b : ℕ) → h < x + 15_000 → h ≡ b → q + 15_000 < b → q ≤ x
        recent_one q x h b e f g = omega arith

        up : (a b c : ℕ) → a ≤ b → b + 15_000 ≤ c → a + 15_000 ≤ c
        up a b c e f = omega arith

        sorted : (xs : List Timed) (s : ℕ) (x : Timed) (ys : List Timed) → AreFrom s (xs ++ x ∷ ys) → (k : Timed) → At (xs ++ x ∷ []) k → k.at ≤ x.at
        sorted [] s x ys from k a = by a.0 a.1
          where
            by : (i : ℕ) → slice_get (x ∷ []) i ≡ Some k → k.at ≤ x.at
            by zero e = subst (λ (y : Timed). y.at ≤ x.at) (Some-same x k e) (le_refl x.at)
            by (suc i) e = absurd (None-Some k e)
        sorted (z ∷ xs) s x ys from k a = by a.0 a.1 (λ i e. sorted xs z.at x ys from.1 k (i, e)) (from_at z.at (xs ++ x ∷ ys) from.1 x (at_right xs (x ∷ ys) x (0, refl)))
          where
            by : (i : ℕ) → slice_get (z ∷ (xs ++ x ∷ [])) i ≡ Some k → ((j : ℕ) → slice_get (xs ++ x ∷ []) j ≡ Some k → k.at ≤ x.at) → z.at ≤ x.at → k.at ≤ x.at
            by zero e later le = subst (λ (y : Timed). y.at ≤ x.at) (Some-same z k e) le
            by (suc i) e later le = later i e

        whole : history ≡ sender.before ++ (sender.step ∷ (sender.after ++ (b.heard ∷ (b.after ++ after))))
        whole = heard_parts ∙ ap (λ xs. xs ++ (b.heard ∷ (b.after ++ after))) sender.parts ∙ append_assoc sender.before (sender.step ∷ sender.after) (b.heard ∷ (b.after ++ after))

        by : (sender.step.at + 15_000 ≤ b.heard.at) ⊎ (b.heard.at < sender.step.at + 15_000) → start + m * 197_000 ≤ sender.step.at
        by (inr soon) = recent_one (start + m * 197_000) sender.step.at b.heard.at born soon b.at young
        by (inl old) =
            absurd (never b.rests.datagram (length sender.step.step.after.sent)
            (subst (λ (v : World). length v.sent ≤ b.rests.datagram) (reached_next sender.before sender.step w)
            (not_old (sender.before ++ sender.step ∷ []) sender.after (sender.parts ∙ sym (append_assoc sender.before (sender.step ∷ []) sender.after))
            (each_from_places (λ (s : Timed). s.at + 15_000 ≤ b.heard.at) (sender.before ++ sender.step ∷ [])
            (λ i k at. up k.at sender.step.at b.heard.at (sorted sender.before start sender.step (sender.after ++ (b.heard ∷ (b.after ++ after))) (subst (AreFrom start) whole recent.in_time) k (i, at)) old))))
            (slice_get_within sender.step.step.after.sent b.rests.datagram b.rests.sent sender.then))

    -- so what the route rests on is backed, and so is the route
    learned : SaidBacked m → r.metric ≤ suc (suc m) → r.metric < infinity
        → ((iface from next_hop : ℕ) → r.origin ≡ Learned iface from next_hop → next_hop ≡ from)
        → IsBackedSince (past_from net w history) router p r
    learned said few low next =
        let x = b.rests in
        let v_parts = heard_parts in
        let one = costs_one b.before (b.heard ∷ (b.after ++ after)) heard_parts router x.iface x.sent.router x.sent.iface x.linked in
        let less : x.entry.metric < r.metric = at_least_one x.entry.metric (cost_of_interface (network_now (past_of net (reached w (untimed b.before)))) router x.iface) r.metric x.metric low one in
        let b_walk = said sender.before sender.step (sender.after ++ (b.heard ∷ (b.after ++ after)))
        (heard_parts ∙ ap (λ xs. xs ++ (b.heard ∷ (b.after ++ after))) sender.parts ∙ append_assoc sender.before (sender.step ∷ sender.after) (b.heard ∷ (b.after ++ after)))
        x.datagram x.sent sender.not_yet sender.then x.entries x.spelled x.entry x.stands (rests_low (network_now (past_of net (reached w (untimed b.before)))) (reached w (untimed b.before)) b.datagram router p r x low)
        (down x.entry.metric r.metric m less few) in_time in
        let walk : ReachesSince (past_from net w history) x.sent.router p x.entry.metric r.tag b_walk.0 =
        subst (λ n. ReachesSince (past_from net w history) x.sent.router p x.entry.metric n b_walk.0) (sym b.tag)
        (subst (λ (q : Prefix6). ReachesSince (past_from net w history) x.sent.router q x.entry.metric x.entry.tag b_walk.0) x.names b_walk.1) in
        let alike = alike_base net is_net moments events cold w is_cold run history start w' recent b.before (b.heard ∷ (b.after ++ after)) heard_parts in
        let linked = linked_alike (network_now (past_of net (reached w (untimed b.before)))) (network_now (past_of net w)) alike router x.iface x.sent.router x.sent.iface x.linked in (
          record { iface = x.iface; router = x.sent.router; router_iface = x.sent.iface } ∷ b_walk.0,
          record {
            is_walk = ((x.apart, linked), walk.is_walk);
            costs = (
              cost_of_interface (network_now (past_of net (reached w (untimed b.before)))) router x.iface,
              x.entry.metric,
              cost_in_force net is_net moments events cold w is_cold run history start w' recent b.before (b.heard ∷ (b.after ++ after)) heard_parts router x.iface,
              walk.costs,
              sum (cost_of_interface (network_now (past_of net (reached w (untimed b.before)))) router x.iface) x.entry.metric r.metric x.metric low,
            );
            owner = walk.owner;
          },
          subst (λ (o : Origin). BeginsAs (network_now (past_of net w)) o (record { iface = x.iface; router = x.sent.router; router_iface = x.sent.iface } ∷ b_walk.0)) (sym x.origin) (
            refl,
            known (interface_at (network_now (past_of net w)) x.sent.router x.sent.iface) linked.there linked.there_is
                ∙ ap Some (sym (address_alike (network_now (past_of net (reached w (untimed b.before)))) (network_now (past_of net w)) alike x.sent.router x.sent.iface)),
            next x.iface (address_at (network_now (past_of net (reached w (untimed b.before)))) x.sent.router x.sent.iface) x.next_hop x.origin,
          ),
        )
      where
        down : (e r m : ℕ) → e < r → r ≤ suc (suc m) → e ≤ suc m
        down e r m f g = omega arith

        sum : (c e n : ℕ) → n ≡ min (e + c) 16 → n < 16 → c + e ≡ n
        sum c e n f g = omega arith

        known : (o : Option NetInterface) (there : NetInterface) → o ≡ Some there
            → option_map (λ (i : NetInterface). i.interface.addr) o ≡ Some (unwrap_or (option_map (λ (i : NetInterface). i.interface.addr) o) 0)
        known o there is = subst (λ (x : Option NetInterface). option_map (λ (i : NetInterface). i.interface.addr) x ≡ Some (unwrap_or (option_map (λ (i : NetInterface). i.interface.addr) x) 0)) (sym is) refl

  -- a route below 16, by its clock
  by_clock : (before after : List Timed) (parts : history ≡ before ++ after) (router : ℕ) (s : State) → slice_get (reached w (untimed before)).states router ≡ Some s
      → (p : Prefix6) (r : RouteValue) → map_of.get s.table p ≡ Some r → r.metric < infinity
      → ((until : ℕ) → r.clock ≡ Live until → 2 ≤ r.metric → IsBackedSince (past_from net w history) router p r) → IsBackedSince (past_from net w history) router p r
  by_clock before after parts router s at p r is low live = by r.clock refl
    where
      unreachable : (n : ℕ) → n ≡ 16 → n < 16 → ⊥
      unreachable n e f = omega arith

      by : (c : Clock) → r.clock ≡ c → IsBackedSince (past_from net w history) router p r
      by Fixed e = own_backed before after parts router s at p r is e
      by (Dying until) e = absurd (unreachable r.metric (subst (IsClocked r.metric) e (row_here before after parts router s at p r is).plain.clocked) low)
      by (Live until) e = live until e (subst (IsReachedBy s.config s.last p r) e (row_here before after parts router s at p r is).reached).1

  tables_backed : (m : ℕ) → TablesBacked m
  tables_backed zero before after parts router s at p r is few low now late awake =
      by_clock before after parts router s at p r is low (λ until clock two. absurd (none r.metric two few))
    where
      none : (n : ℕ) → 2 ≤ n → n ≤ 1 → ⊥
      none n e f = omega arith
  tables_backed (suc m) before after parts router s at p r is few low now late awake =
      by_clock before after parts router s at p r is low (λ until clock two.
      let a : IsAged net w start before after router p r until =
      (aged_at net is_net moments events cold w is_cold run history start w' recent before after parts).1.rows router s at p r until is clock in
      let k = awake (at_least m) in
      live a (young (start) (m * 197_000) now k.look.at a.born (shifted m start now late) k.late (a.looked k.look (at_from_contains before k.look k.stands) k.router_is k.looks)) (said_backed m (tables_backed m)))
    where
      at_least : (m : ℕ) → 1 ≤ suc m
      at_least m = omega arith

      shifted : (m s now : ℕ) → s + suc m * 197_000 ≤ now → s + m * 197_000 + 197_000 ≤ now
      shifted m s now e = omega arith

      young : (s q now k b : ℕ) → s + q + 197_000 ≤ now → now ≤ k + 1_000 → k < b + 181_000 → s + q + 15_000 < b
      young s q now k b e f g = omega arith

      never : (s q b : ℕ) → s + q + 15_000 < b → b ≡ s → ⊥
      never s q b e f = omega arith

      live : {until : ℕ} (a : IsAged net w start before after router p r until) → start + m * 197_000 + 15_000 < a.born → SaidBacked m → IsBackedSince (past_from net w history) router p r
      live a late said =
          elim a.from [
            | inl first ↦ absurd (never start (m * 197_000) a.born late first)
            | inr b ↦ learned m before after parts router p r a.born b late said few low (next_hop_here before after parts router s at p r is low)
          ]

  -- ---- at the end

  pub by_metric : (stop router : ℕ) (s : State) (p : Prefix6) (r : RouteValue) → slice_get w'.states router ≡ Some s → (1 ≤ r.metric - 1 → IsAwake history router stop)
      → map_of.get s.table p ≡ Some r → r.metric < infinity → start + (r.metric - 1) * 197_000 ≤ stop → IsBackedSince (past_from net w history) router p r
  by_metric stop router s p r at awake is low late =
      tables_backed (r.metric - 1) history [] (sym (append-nil history)) router s
      (ap (λ (v : World). slice_get v.states router) (sym (lead_reached net (untimed history) w w' recent.steps)) ∙ at) p r is (at_most r.metric) low stop late awake
    where
      at_most : (n : ℕ) → n ≤ suc (n - 1)
      at_most n = omega arith

  pub backed : (stop router : ℕ) (s : State) (p : Prefix6) (r : RouteValue) → start + 46 * 60_000 ≤ stop → slice_get w'.states router ≡ Some s → IsAwake history router stop
      → map_of.get s.table p ≡ Some r → r.metric < infinity → IsBackedSince (past_from net w history) router p r
  backed stop router s p r late at awake is low = by_metric stop router s p r at (λ some. awake) is low (in_all r.metric start stop low late)
    where
      in_all : (n s t : ℕ) → n < 16 → s + 46 * 60_000 ≤ t → s + (n - 1) * 197_000 ≤ t
      in_all n s t e f = omega arith
