-- What a neighbor's regular update makes of a route of its prefix: it is held by it if it goes through it, and is no dearer.
use Rattle.std.proofs.Common.{◌≡◌, ◌≢◌, inl, ℕ, ◌+◌, min, max, ◌<◌, ◌≤◌, Bool, true, false, ◌&&◌, ◌==◌, MatchBool, MatchOption, List, All, Option, Some, None, slice_get, refl, ap, sym, subst, ◌∙◌, arith, le_refl}
use Rattle.std.specs.List.{AllByRecursion}
use Rattle.std.specs.FinMap as map_of
use Rattle.std.proofs.lemmas.Bool.{eqb-true}
use Rattle.prefix6.specs.Prefix.{Prefix6}
use Rattle.prefix6.specs.Addr.{is_link_local}
use Rattle.ripng_wire.specs.declared.rte.Rte.{Rte}
use Rattle.ripng_wire.specs.declared.rte.Command.TheVariants.{Response}
use Rattle.ripng_wire.specs.Layout.{Spells}
use Rattle.ripng_wire.specs.Wire.{is_response}
use Rattle.ripng_wire.proofs.OneReading.{one_reading}
use Rattle.route_table.specs.Route.{RouteValue, infinity}
use Rattle.route_table.specs.declared.route.Clock.{Clock}
use Rattle.route_table.specs.declared.route.Clock.TheVariants.{Fixed, Live, Dying}
use Rattle.route_table.specs.declared.route.Origin.TheVariants.{Learned}
use Rattle.route_table.proofs.TableLaws.{Some-same, None-Some}
use Rattle.router_core.specs.Adoption.{is_through}
use Rattle.router_core.specs.Faults.{fault}
use Rattle.router_core.specs.Hearing.{Hearing}
use Rattle.router_core.specs.Machine.{State, Hears, Replies, Refuses, gateway_of}
use Rattle.router_core.specs.Offers.{prefix_named}
use Rattle.router_core.specs.Received.{Received}
use Rattle.router_core.specs.Timers.{timeout}
use Rattle.router_core.specs.declared.answer.Answer.{Answer}
use Rattle.router_core.specs.declared.answer.NoteKind.TheVariants.{NoMemory}
use Rattle.router_core.specs.declared.arrival.Fault.{Fault}
use Rattle.ripng_world.specs.Network.{Network, HasDistinctAddresses, IsUsable}
use Rattle.ripng_world.specs.Truth.{IsNeighbor}
use Rattle.ripng_world.specs.World.{World, Delivers, address_at, arrival_of}
use Rattle.ripng_world.specs.declared.event.Sent.{Sent}
use Rattle.ripng_world.proofs.Each.{each_at_place}
use Rattle.ripng_world.proofs.HealHearing.{AreFew, IsToldLine, hearing_here, hearing_bound}
use Rattle.ripng_world.proofs.HealPlain.{IsPlainRow, IsClocked}
use Rattle.ripng_world.proofs.HealRows.{IsTold, IsRow, IsByClock, IsHeard, IsAtMost, HasHeard, one_told, through}
use Rattle.ripng_world.proofs.Members.{At, get_left}
use Rattle.ripng_world.proofs.RoundDeliveries.{gateway_at}
use Rattle.ripng_world.proofs.RoundNeighbors.{neighbor, not_mine, source_is, set_here}
use Rattle.ripng_world.proofs.Undamaged.{no_fault, spelled_response}
use Rattle.ripng_phases.proofs.Held.{IsHeld}
use Rattle.ripng_phases.proofs.Orderly.{IsOrderly, IsOrderlyState}

-- a route as it is, before anything is heard
pub begin_row : (net : Network) (distinct : HasDistinctAddresses net) (mid : World) (known : Prefix6 → Type 0) (router since : ℕ) (p : Prefix6) (o : Option RouteValue) → ((r : RouteValue) → o ≡ Some r → IsPlainRow known p r)
    → IsRow net distinct mid known router since p o o
begin_row net distinct mid known router since p None f = refl
begin_row net distinct mid known router since p (Some r) f =
    let q = f r refl in
    record { is_known = q.is_known; positive = q.positive; in_range = q.in_range; by_clock = by_clock r.clock q.clocked; fixed = λ x is f. Some-same r x is }
  where
    by_clock : (c : Clock) → IsClocked r.metric c → IsByClock net distinct mid known router since p (Some r) r c
    by_clock Fixed k = (refl, k)
    by_clock (Live until) k = inl (refl, k)
    by_clock (Dying until) k = (k, inl refl)

-- entries of a datagram that tell what its sender has in some world
pub record IsToldIn (net : Network) (mid : World) (known : Prefix6 → Type 0) (d : Sent) : Type 0 where
  pub entries : List Rte
  pub spelled : Spells Response entries d.bytes
  pub told : AllByRecursion (IsToldLine net mid known d.router d.iface) entries
  pub entry : Rte
  pub stands : At entries entry

module _ (net : Network) (usable : IsUsable net) (distinct : HasDistinctAddresses net) (known : Prefix6 → Type 0) (fits : AreFew net known) (mid v v' : World) (orderly : IsOrderly net known v)
    (datagram router iface now : ℕ) (answer : Answer) (memory : All (λ n. n.kind ≢ NoMemory) answer.notes) (h : Delivers net v datagram router iface now answer v')
    (update : IsToldIn net mid known h.sent) (other : router ≢ h.sent.router) where
  abbrev old : State
  old = h.moves.old

  abbrev x : Received
  x = arrival_of net h.sent iface now

  abbrev n : ℕ
  n = max h.moves.old.last now

  abbrev from : ℕ
  from = address_at net h.sent.router h.sent.iface

  o : IsOrderlyState net known router h.moves.old
  o = orderly.states router h.moves.old h.moves.old_is

  hears : Hears h.moves.old (max h.moves.old.last now) (arrival_of net h.sent iface now) answer h.moves.new
  hears = by (fault old.config x) (is_response h.sent.bytes) clean (spelled_response update.entries h.sent.bytes update.spelled) h.moves.moves
    where
      clean : fault old.config x ≡ None
      clean =
          no_fault old.config x update.entries update.spelled refl
          (ap is_link_local (source_is net h.sent router iface h.linked) ∙ usable.local h.sent.router h.sent.iface h.linked.here h.linked.here_is)
          (not_mine net distinct h.sent router iface old o.node o.node_is o.config_is h.linked other) refl

      by : (f : Option Fault) (b : Bool) → f ≡ None → b ≡ true
          → MatchOption f (MatchBool b (Hears h.moves.old (max h.moves.old.last now) (arrival_of net h.sent iface now) answer h.moves.new)
          (Replies h.moves.old (max h.moves.old.last now) (arrival_of net h.sent iface now) answer h.moves.new)) (λ why. Refuses h.moves.old (max h.moves.old.last now) why answer h.moves.new)
          → Hears h.moves.old (max h.moves.old.last now) (arrival_of net h.sent iface now) answer h.moves.new
      by None true e f m = m
      by None false e f m = absurd (cc)
      by (Some why) b e f m = absurd (None-Some why (sym e))

  abbrev hearing : Hearing
  hearing = record { config = h.moves.old.config; gateway = gateway_of h.moves.old (max h.moves.old.last now) (arrival_of net h.sent iface now); entries = hears.entries; before = h.moves.old.table; notes = answer.notes }

  near : IsNeighbor net router (gateway_of h.moves.old (max h.moves.old.last now) (arrival_of net h.sent iface now)) h.sent.router h.sent.iface
  near = neighbor net h.sent router iface n now old o.node o.node_is o.config_is h.linked other

  same_entries : update.entries ≡ hears.entries
  same_entries = (one_reading Response Response update.entries hears.entries h.sent.bytes update.spelled hears.read).1

  told_at : (place : ℕ) (e : Rte) → slice_get hears.entries place ≡ Some e → IsToldLine net mid known h.sent.router h.sent.iface e
  told_at place e is =
      each_at_place (IsToldLine net mid known h.sent.router h.sent.iface) hears.entries (subst (AllByRecursion (IsToldLine net mid known h.sent.router h.sent.iface)) same_entries update.told) place e is

  rows : (p : Prefix6) → IsRow net distinct mid known router (max h.moves.old.last now) p (map_of.get h.moves.old.table p) (map_of.get h.moves.old.table p)
  rows p = begin_row net distinct mid known router n p (map_of.get old.table p) (λ r is. o.plain p r is)

  listed : slice_get hears.entries update.stands.0 ≡ Some update.entry
  listed = ap (λ (es : List Rte). slice_get es update.stands.0) (sym same_entries) ∙ update.stands.1

  has_heard : HasHeard net distinct mid known router (max h.moves.old.last now) (prefix_named update.entry) iface (address_at net h.sent.router h.sent.iface) (map_of.get hears.table (prefix_named update.entry))
  has_heard =
      hearing_here net distinct mid known fits router n hearing h.sent.router h.sent.iface near (le_refl n) told_at old.table rows o.node o.node_is o.config_is hears.table hears.heard memory update.stands.0 update.entry listed

  pub update_moves : (slice_get v'.states router ≡ Some h.moves.new) × (h.moves.new.last ≡ max h.moves.old.last now)
  update_moves = (ap (λ (xs : List State). slice_get xs router) h.moves.states ∙ set_here v.states router old h.moves.new h.moves.old_is, ap (λ (s : State). s.last) hears.state)

  -- a route through the gateway is held by the update
  pub update_holds : (first : ℕ) (moments : ℕ → ℕ → Type 0) → first ≤ datagram → moments router now → (r : RouteValue) (until : ℕ)
      → map_of.get h.moves.new.table (prefix_named update.entry) ≡ Some r → r.clock ≡ Live until
      → is_through (gateway_at iface (address_at net h.sent.router h.sent.iface)) r.origin ≡ true → IsHeld net v' first moments router h.moves.new.last (prefix_named update.entry) r until
  update_holds first moments late now_is r until at clock goes =
      let heard : IsHeard net distinct mid known router n (prefix_named update.entry) r = has_heard r until (ap (λ (s : State). map_of.get s.table (prefix_named update.entry)) (sym hears.state) ∙ at) clock goes in
      by heard (both heard.iface heard.from heard.next_hop (sym (ap (is_through (gateway_at iface from)) heard.origin) ∙ goes))
    where
      and_left : (a b : Bool) → (a && b) ≡ true → a ≡ true
      and_left true b e = refl
      and_left false b e = e

      and_right : (a b : Bool) → (a && b) ≡ true → b ≡ true
      and_right true b e = e
      and_right false b e = absurd (cc)

      both : (i f k : ℕ) → is_through (gateway_at iface (address_at net h.sent.router h.sent.iface)) (Learned i f k) ≡ true → (i ≡ iface) × (f ≡ address_at net h.sent.router h.sent.iface)
      both i f k e = (eqb-true i iface (and_left (i == iface) (f == from) e), eqb-true f from (and_right (i == iface) (f == from) e))

      line : IsTold net mid router (prefix_named update.entry) iface (address_at net h.sent.router h.sent.iface) update.entry.metric
      line =
          let t = told_at update.stands.0 update.entry listed in
          record { sender = h.sent.router; sender_iface = h.sent.iface; route = t.route; linked = near.linked; apart = near.apart; from_is = near.from; at = t.at; positive = t.positive; in_range = t.in_range; told = t.metric }

      same_until : (a b : ℕ) → Live a ≡ Live b → a ≡ b
      same_until a b e = cc

      by : (heard : IsHeard net distinct mid known router (max h.moves.old.last now) (prefix_named update.entry) r) → (heard.iface ≡ iface) × (heard.from ≡ address_at net h.sent.router h.sent.iface)
          → IsHeld net v' first moments router h.moves.new.last (prefix_named update.entry) r until
      by heard same =
          let told : IsTold net mid router (prefix_named update.entry) iface from heard.metric =
          subst (λ f. IsTold net mid router (prefix_named update.entry) iface f heard.metric) same.1 (subst (λ i. IsTold net mid router (prefix_named update.entry) i heard.from heard.metric) same.0 heard.told) in
          let one : heard.metric ≡ update.entry.metric = one_told net distinct mid router (prefix_named update.entry) iface from heard.metric update.entry.metric told line in
          let far : n + timeout ≤ until = subst (λ u. n + timeout ≤ u) (same_until heard.until until (sym heard.clock ∙ clock)) heard.timely in
          record {
            rests = record {
              datagram = datagram;
              recent = late;
              sent = h.sent;
              sent_is = ap (λ (ds : List Sent). slice_get ds datagram) h.moves.sent ∙ get_left v.sent _ datagram h.sent h.sent_is;
              iface = iface;
              linked = near.linked;
              apart = other;
              entries = update.entries;
              spelled = update.spelled;
              entry = update.entry;
              stands = update.stands;
              names = refl;
              metric = heard.metric_is ∙ ap (λ i. through net router i heard.metric) same.0 ∙ ap (through net router iface) one;
              next_hop = heard.next_hop;
              origin = heard.origin ∙ ap (λ i. Learned i heard.from heard.next_hop) same.0 ∙ ap (λ f. Learned iface f heard.next_hop) same.1;
            };
            ahead = before h.moves.new.last n until (ap (λ (s : State). s.last) hears.state) far;
            since = now;
            since_is = now_is;
            within = after old.last now until far;
          }
        where
          before : (l m u : ℕ) → l ≡ m → m + timeout ≤ u → l < u
          before l m u a b = omega arith

          after : (l k u : ℕ) → max l k + timeout ≤ u → k + timeout ≤ u
          after l k u a = omega arith

  -- afterwards the route is no dearer than what was told, unless its gateway has raised it
  pub update_bounds : through net router iface update.entry.metric < infinity
      → IsAtMost net distinct mid known router (max h.moves.old.last now) (prefix_named update.entry) (map_of.get h.moves.old.table (prefix_named update.entry)) (map_of.get h.moves.new.table (prefix_named update.entry))
      (through net router iface update.entry.metric)
  update_bounds low =
      subst (λ (s : State). IsAtMost net distinct mid known router n (prefix_named update.entry) (map_of.get old.table (prefix_named update.entry)) (map_of.get s.table (prefix_named update.entry)) (through net router iface update.entry.metric)) (sym hears.state)
      (subst (IsAtMost net distinct mid known router n (prefix_named update.entry) (map_of.get old.table (prefix_named update.entry)) (map_of.get hears.table (prefix_named update.entry))) same_cost
      (hearing_bound net distinct mid known fits router n hearing h.sent.router h.sent.iface near (le_refl n) told_at old.table rows o.node o.node_is o.config_is hears.table hears.heard memory update.stands.0 update.entry listed
      (subst (λ k. k < infinity) (sym same_cost) low)))
    where
      same_cost : min (update.entry.metric + (gateway_of h.moves.old (max h.moves.old.last now) (arrival_of net h.sent iface now)).cost) infinity ≡ through net router iface update.entry.metric
      same_cost = ap (λ c. min (update.entry.metric + c) infinity) near.cost
