-- In a network: a router shuts down, and all of its last update and nothing else of it is delivered to a neighbor.
use Rattle.std.proofs.Common.{◌≡◌, ◌≢◌, inl, inr, ℕ, zero, suc, max, ◌<◌, ◌≤◌, ◌==◌, ◌&&◌, ◌||◌, Bool, true, false, List, [], ◌∷◌, ◌++◌, map, length, Contains, Option, Some, None, option_map, option_and_then, unwrap_or, slice_get, refl, ap, sym, subst, ◌∙◌, arith}
use Rattle.std.specs.Prelude.{IsTrue}
use Rattle.std.specs.List.{AllByRecursion}
use Rattle.std.specs.FinMap as map_of
use Rattle.std.proofs.lemmas.Bool.Decides.{nat_tests}
use Rattle.std.proofs.lemmas.Option.{slice_get_within}
use Rattle.prefix6.specs.Prefix.{Prefix6, IsPrefix, is_routable}
use Rattle.ripng_wire.specs.declared.rte.Rte.{Rte}
use Rattle.ripng_wire.specs.declared.rte.Command.TheVariants.{Response}
use Rattle.ripng_wire.specs.Layout.{Spells}
use Rattle.route_table.specs.Route.{RouteValue, IsRoute, infinity, is_dying, is_fixed, is_own}
use Rattle.route_table.specs.declared.route.Clock.{Clock}
use Rattle.route_table.specs.declared.route.Clock.TheVariants.{Fixed, Live, Dying}
use Rattle.route_table.proofs.TableLaws.{Some-same, None-Some}
use Rattle.router_core.specs.Announcing.{is_announced, is_passive}
use Rattle.router_core.specs.Config.{Config, mtu_at}
use Rattle.router_core.specs.Machine.{State, ShutsDown, Moves}
use Rattle.router_core.specs.declared.answer.Answer.{Answer}
use Rattle.router_core.specs.declared.answer.Outgoing.{Outgoing}
use Rattle.router_core.specs.declared.config.Interface.{Interface}
use Rattle.router_core.specs.declared.reconfiguring.Change.{Change}
use Rattle.router_core.proofs.HearingSteps.{at_place}
use Rattle.ripng_world.specs.Healing.{network_now}
use Rattle.ripng_world.specs.Network.{Network, Node, AreLinked, IsNetwork, config_of, interface_at}
use Rattle.ripng_world.specs.World.{World, Event, Deliver, Shutdown, Happens, IsCold, RouterMoves, WorldRun, address_at, past_of, sent_by}
use Rattle.ripng_world.specs.declared.network.NetInterface.{NetInterface}
use Rattle.ripng_world.specs.declared.event.Sent.{Sent}
use Rattle.ripng_world.proofs.Among.{all_at, contains_at}
use Rattle.ripng_world.proofs.Delivered.{sent_grow}
use Rattle.ripng_world.proofs.Each.{each_at_place}
use Rattle.ripng_world.proofs.HealPlain.{IsClocked}
use Rattle.ripng_world.proofs.Members.{At, at_from_contains, at_map, get_left, get_past, get_right}
use Rattle.ripng_world.proofs.NetworkNow.{IsLawfulChange, IsPlaced, now_alike, now_lawful, placed}
use Rattle.ripng_world.proofs.Reached.{IsKnown, IsReachedBy, IsReachedRow}
use Rattle.ripng_world.proofs.ReachedRuns.{AreReached, IsReachedState}
use Rattle.ripng_world.proofs.ReachedWorlds.{reached_from_cold, reached_on}
use Rattle.ripng_world.proofs.WorldRuns.{IsGood, get_map, in_node, ran, run_from_cold, zoned_address}
use Rattle.ripngd_theorems.specs.LastUpdate.{AreRoutes, HasNoneBy, IsDeliveredWhole, IsHeardWhole, IsSentBetween, sent_on}
use Rattle.ripngd_theorems.proofs.Addresses.{addresses_of}
use Rattle.ripngd_theorems.proofs.LastUpdate.{neighbor_ends}
use Rattle.ripngd_theorems.proofs.LastUpdateSeen.{IsOf, Seen, seen}
use Rattle.ripngd_theorems.proofs.LastUpdateSteps.{TellsLosses}
use Rattle.ripngd_theorems.proofs.LastUpdateTold.{at_sent_on, of_sent_on, sent_responses}

-- ---- reached states are lawful

lawful_row : (net : Network) (w : World) (s : State) (p : Prefix6) (r : RouteValue) → IsReachedRow (past_of net w) s.config s.last p r → IsRoute r
lawful_row net w s p r row =
    record {
      positive = row.plain.positive;
      in_range = row.plain.in_range;
      dying = dying r.clock row.plain.clocked;
      fixed = fixed r.clock row.plain.clocked row.reached;
      own = own r.clock row.reached;
    }
  where
    low : (m : ℕ) → m < 16 → (m == 16) ≡ false
    low m h = grind (arith, nat_tests)

    dying : (c : Clock) → IsClocked r.metric c → is_dying c ≡ (r.metric == infinity)
    dying Fixed is = sym (ap (λ m. m == 16) is)
    dying (Live until) is = sym (low r.metric is)
    dying (Dying until) is = sym (ap (λ m. m == 16) is)

    and_false : (b : Bool) → (b && false) ≡ false
    and_false true = refl
    and_false false = refl

    fixed : (c : Clock) → IsClocked r.metric c → IsReachedBy s.config s.last p r c → is_fixed c ≡ (is_own r.origin && r.metric == 1)
    fixed Fixed is k = sym (ap (λ o. is_own o && r.metric == 1) k.0 ∙ ap (λ m. m == 1) is)
    fixed (Live until) is k = sym (ap (λ o. is_own o && r.metric == 1) k.0.3)
    fixed (Dying until) is k = sym (ap (λ m. is_own r.origin && m == 1) is ∙ and_false (is_own r.origin))

    not_true : false ≡ true → ⊥
    not_true e = cc

    own : (c : Clock) → IsReachedBy s.config s.last p r c → IsTrue (is_own r.origin) → IsTrue (is_fixed c || is_dying c)
    own Fixed k is = refl
    own (Live until) k is = absurd (not_true (sym (ap is_own k.0.3) ∙ is))
    own (Dying until) k is = refl

pub lawful_table : (net : Network) (w : World) → AreReached net w → (router : ℕ) (s : State) → slice_get w.states router ≡ Some s → AreRoutes s.table
lawful_table net w all router s is p r at = lawful_row net w s p r ((all.states router s is).reached.rows p r at)

-- a prefix that is in a table was owned
known_lawful : (net : Network) → IsNetwork net → (w : World) → AreReached net w → (p : Prefix6) → IsKnown (past_of net w) p → IsPrefix p × IsTrue (is_routable p)
known_lawful net is_net w all p k =
    elim k.2 [
      | inl owns ↦ (is_net.owns_prefixes k.0 p k.1 owns, is_net.usable.routable k.0 p k.1 owns)
      | inr done ↦ each_at_place (λ (t : ℕ × Change). IsLawfulChange t.1) w.reconfigurations all.lawful done.0 _ done.1
    ]

-- ---- the router that shuts down

module _ (net : Network) (is_net : IsNetwork net) (w : World) (all : AreReached net w) (router : ℕ) (s : State) (s_is : slice_get w.states router ≡ Some s) (iface : ℕ) (i : NetInterface)
    (i_is : interface_at net router iface ≡ Some i) where
  reached : IsReachedState net w.reconfigurations router s
  reached = all.states router s s_is

  now_there : IsPlaced (network_now (past_of net w)) router iface i
  now_there = placed net (network_now (past_of net w)) (now_alike w.reconfigurations net) router iface i i_is

  listed : slice_get s.config.interfaces iface ≡ Some now_there.there.interface
  listed =
      ap (λ (c : Config). slice_get c.interfaces iface) reached.config_is ∙ get_map (λ (k : NetInterface). k.interface) reached.node.interfaces iface
      ∙ ap (option_map (λ (k : NetInterface). k.interface)) (sym (in_node (network_now (past_of net w)) router iface reached.node reached.node_is) ∙ now_there.there_is)

  pub here : iface < length s.config.interfaces
  here = slice_get_within s.config.interfaces iface now_there.there.interface listed

  pub wide : 1280 ≤ mtu_at s.config iface
  wide =
      subst (λ (o : Option Interface). 1280 ≤ unwrap_or (option_map (λ k. k.mtu) o) 1280) (sym listed)
      ((now_lawful w.reconfigurations net all.lawful is_net).usable.mtus router iface now_there.there now_there.there_is).0

-- ---- the neighbor

-- its addresses are those of its node
module _ (net : Network) (is_net : IsNetwork net) (w : World) (good : IsGood net is_net.owns_prefixes w) (other : ℕ) (node : Node) (node_is : slice_get net other ≡ Some node) (s : State)
    (s_is : slice_get w.states other ≡ Some s) where
  pub own_addresses : addresses_of s.config ≡ addresses_of (config_of node)
  own_addresses =
      let c = (good.states_good other s s_is).configured in
      c.addresses ∙ ap (λ (n : Node). map (λ (k : NetInterface). zoned_address k.interface) n.interfaces) (Some-same c.node node (sym c.node_is ∙ node_is)) ∙ sym (twice node.interfaces)
    where
      twice : (xs : List NetInterface) → map zoned_address (map (λ (k : NetInterface). k.interface) xs) ≡ map (λ (k : NetInterface). zoned_address k.interface) xs
      twice [] = refl
      twice (x ∷ xs) = ap (λ ys. zoned_address x.interface ∷ ys) (twice xs)

-- ---- both

module _ (net : Network) (is_net : IsNetwork net) (w w' end : World) (router iface other on now : ℕ) (answer : Answer) (m : RouterMoves w router (ShutsDown now) answer w')
    (later : List Event) (run : WorldRun net w' later end) (apart : other ≢ router) (linked : AreLinked net router iface other on) (node : Node) (node_is : slice_get net other ≡ Some node)
    (t : State) (sees : Seen net is_net.distinct is_net.usable router iface other on apart linked node node_is end later t) (whole : IsDeliveredWhole w w' end router iface other on later) where
  abbrev sent : List (List ℕ)
  sent = sent_on iface answer.sends

  grown : (more : List Sent) × (end.sent ≡ w'.sent ++ more)
  grown = sent_grow net later w' end run

  still : (k : ℕ) (d : Sent) → slice_get w'.sent k ≡ Some d → slice_get end.sent k ≡ Some d
  still k d is = ap (λ (ds : List Sent). slice_get ds k) grown.1 ∙ get_left w'.sent grown.0 k d is

  -- what was sent is heard
  sent_heard : (bytes : List ℕ) → At sent bytes → Contains sees.heard bytes
  sent_heard bytes at =
      let o = of_sent_on iface answer.sends bytes at.0 at.1 in
      let stands = get_past w.sent (map (sent_by router) answer.sends) (sent_by router o.0) (at_map (sent_by router) answer.sends o.0 o.1) in
      let there : slice_get w'.sent stands.0 ≡ Some (sent_by router o.0) = ap (λ (ds : List Sent). slice_get ds stands.0) m.sent ∙ stands.2 in
      let told : (entries : List Rte) × Spells Response entries o.0.bytes =
      each_at_place (λ (x : Outgoing). (entries : List Rte) × Spells Response entries x.bytes) answer.sends
      (sent_responses m.old.config (max m.old.last now) m.old.table answer.sends m.moves.answer_is.sends) o.1.0 o.0 o.1.1 in
      let due = whole.all stands.0 (sent_by router o.0) there (stands.1, slice_get_within w'.sent stands.0 (sent_by router o.0) there) o.2 in
      subst (Contains sees.heard) o.3
      (contains_at sees.heard o.0.bytes
      (sees.all stands.0 due.0 (sent_by router o.0) (at_from_contains later (Deliver stands.0 other on due.0) due.1) (still stands.0 (sent_by router o.0) there)
      (record { by_router = refl; on_iface = o.2; entries = told.0; spelled = told.1 })))

  -- and what is heard was sent
  heard_sent : (bytes : List ℕ) → IsOf net is_net.distinct is_net.usable router iface other on apart linked node node_is end later bytes → Contains sent bytes
  heard_sent bytes of =
      let between : IsSentBetween w w' of.datagram = whole.only of.datagram of.now of.sent (contains_at later (Deliver of.datagram other on of.now) of.delivered) of.sent_is of.by_router of.on_iface in
      let here' : (d : Sent) × (slice_get w'.sent of.datagram ≡ Some d) = at_place w'.sent of.datagram between.1 in
      let same : here'.0 ≡ of.sent = Some-same here'.0 of.sent (sym (still of.datagram here'.0 here'.1) ∙ of.sent_is) in
      let new = get_right w.sent (map (sent_by router) answer.sends) of.datagram of.sent between.0 (ap (λ (ds : List Sent). slice_get ds of.datagram) (sym m.sent) ∙ here'.1 ∙ ap Some same) in
      let o = mapped answer.sends of.sent new.0 new.1 in
      contains_at sent bytes (subst (At sent) (ap (λ (d : Sent). d.bytes) o.2 ∙ of.bytes_are) (at_sent_on iface answer.sends o.0 o.1 (ap (λ (d : Sent). d.iface) o.2 ∙ of.on_iface)))
    where
      mapped : (os : List Outgoing) (d : Sent) (k : ℕ) → slice_get (map (sent_by router) os) k ≡ Some d → (o : Outgoing) × At os o × (sent_by router o ≡ d)
      mapped [] d k e = absurd (None-Some d e)
      mapped (o ∷ os) d zero e = (o, (0, refl), Some-same (sent_by router o) d e)
      mapped (o ∷ os) d (suc k) e = let l = mapped os d k e in (l.0, (suc l.1.0, l.1.1), l.2)

  pub heard_whole : IsHeardWhole sent sees.heard
  heard_whole =
      record {
        all = all_at (Contains sees.heard) sent sent_heard;
        only = all_at (Contains sent) sees.heard (λ bytes at. heard_sent bytes
            (each_at_place (IsOf net is_net.distinct is_net.usable router iface other on apart linked node node_is end later) sees.heard sees.only at.0 bytes at.1));
      }

pub delivered_ends : (net : Network) (moments : List ℕ) (events later : List Event) (cold w w' end : World) (router iface other on now : ℕ) (answer : Answer) (s t : State)
    → AllByRecursion (λ o. TellsLosses o.bytes) answer.sends
    → IsNetwork net → IsCold net moments cold → WorldRun net cold events w → slice_get w.states router ≡ Some s → is_passive s.config iface ≡ false
    → Happens net w (Shutdown router now) answer w' → WorldRun net w' later end → slice_get end.states other ≡ Some t
    → router ≢ other → AreLinked net router iface other on → IsDeliveredWhole w w' end router iface other on later
    → (p : Prefix6) (r : RouteValue) → map_of.get s.table p ≡ Some r → is_announced s.config iface p ≡ true → HasNoneBy on (address_at net router iface) t.table p
delivered_ends net moments events later cold w w' end router iface other on now answer s t losses is_net is_cold run s_is active m then t_is apart linked whole p r at out =
    let all : AreReached net w = reached_from_cold net is_net moments events cold w is_cold run in
    let good : IsGood net is_net.owns_prefixes w = run_from_cold net is_net.owns_prefixes moments events cold w is_cold run in
    let once : WorldRun net w (Shutdown router now ∷ []) w' = (w', answer, m, refl) in
    let all' : AreReached net w' = reached_on net is_net (Shutdown router now ∷ []) w w' once good all in
    let good' : IsGood net is_net.owns_prefixes w' = ran net is_net.owns_prefixes (Shutdown router now ∷ []) w w' once good in
    let node = node_of (slice_get net other) refl in
    let b = all'.everyone other node.0 node.1 in
    let sees : Seen net is_net.distinct is_net.usable router iface other on (λ e. apart (sym e)) linked node.0 node.1 end later b.0 =
    seen net is_net.distinct is_net.usable router iface other on (λ e. apart (sym e)) linked node.0 node.1 end later w' then b.0 b.1 (own_addresses net is_net w' good' other node.0 node.1 b.0 b.1) in
    let old_is : m.old ≡ s = Some-same m.old s (sym m.old_is ∙ s_is) in
    let row = (all.states router s s_is).reached.rows p r at in
    let known = known_lawful net is_net w all p row.plain.is_known in
    subst (λ (x : State). HasNoneBy on (address_at net router iface) x.table p) (Some-same sees.after t (sym sees.after_is ∙ t_is))
    (neighbor_ends s m.new b.0 sees.after now iface on (address_at net router iface) answer sees.happenings sees.heard losses active
    (here net is_net w all router s s_is iface linked.here linked.here_is) (wide net is_net w all router s s_is iface linked.here linked.here_is)
    (subst (λ (x : State). Moves x (ShutsDown now) answer m.new) old_is m.moves)
    (lawful_table net w' all' other b.0 b.1) sees.hears
    (heard_whole net is_net w w' end router iface other on now answer m later then (λ e. apart (sym e)) linked node.0 node.1 b.0 sees whole)
    p r at out known.0 known.1)
  where
    node_of : (o : Option Node) → slice_get net other ≡ o → (node : Node) × (slice_get net other ≡ Some node)
    node_of None is = absurd (None-Some linked.there (sym (ap (option_and_then (λ (n : Node). slice_get n.interfaces on)) is) ∙ linked.there_is))
    node_of (Some node) is = (node, is)
