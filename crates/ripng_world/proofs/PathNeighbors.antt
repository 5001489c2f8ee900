-- Who has the address of a next hop, and where a router forwards packets.
use Rattle.std.proofs.Common.{◌≡◌, ℕ, ◌<◌, ◌≤◌, ◌==◌, ◌&&◌, Bool, true, false, cond, nat_lt, List, length, get_or, Some, None, option_map, slice_get, refl, ap, sym, subst, ◌∙◌, arith}
use Rattle.std.specs.List.{position, position_or_len}
use Rattle.std.proofs.lemmas.Bool.{and_from, and_parts, eq-eqb, eqb-true, false≢true, ltb-false}
use Rattle.std.proofs.lemmas.List.{length-map}
use Rattle.std.proofs.lemmas.List.Quantifiers.{position-Some}
use Rattle.std.proofs.lemmas.List.Sums.{fails_before_first}
use Rattle.std.proofs.lemmas.Option.{slice_get-get_or, slice_get_within}
use Rattle.prefix6.specs.Prefix.{Prefix6}
use Rattle.fib.specs.Forwarding.{Forwarding, IsMatch, IsLongestMatch}
use Rattle.fib.specs.declared.change.Hop.{Hop as FibHop}
use Rattle.fib.specs.declared.change.Hop.TheVariants.{Via}
use Rattle.route_table.proofs.TableLaws.{Some-same, None-Some}
use Rattle.route_table.specs.Table.{Table}
use Rattle.router_core.specs.Changes.{forwards}
use Rattle.router_core.specs.Machine.{State}
use Rattle.ripng_world.specs.Network.{Network, interface_at}
use Rattle.ripng_world.specs.Packets.{Forwardings, ForwardsBy, HandsOn, forwardings_of}
use Rattle.ripng_world.specs.Path.{ForwardsToNobody, HasNoMatch, LeadsTo}
use Rattle.ripng_world.specs.Stations.{StationValue, network_of}
use Rattle.ripng_world.specs.Walks.{Hop}
use Rattle.ripng_world.specs.World.{World}
use Rattle.ripng_world.specs.declared.network.NetInterface.{NetInterface}
use Rattle.ripng_world.proofs.Packets.{node_of}
use Rattle.ripng_world.proofs.Refusals.{interface_of}

-- ---- one link

-- the interface is on the link, and has the address
abbrev pub is_on : ℕ → ℕ → NetInterface → Bool
is_on link addr i = i.link == link && i.interface.addr == addr

abbrev addr_of : NetInterface → ℕ
addr_of i = i.interface.addr

-- where none passes, the element at a place does not
none_at : {X : Type 0} (p : X → Bool) (xs : List X) → position p xs ≡ None → (i : ℕ) (x : X) → slice_get xs i ≡ Some x → p x ≡ false
none_at {X = X} p xs none i x is =
    subst (λ (y : X). p y ≡ false) (Some-same (get_or xs i x) x (sym (slice_get-get_or xs i x inside) ∙ is)) (fails_before_first p xs i x (before (position_or_len p xs) (length xs) (far (nat_lt (position_or_len p xs) (length xs)) refl none) inside))
  where
    inside : i < length xs
    inside = slice_get_within xs i x is

    before : (m n : ℕ) → n ≤ m → i < n → i < m
    before m n h l = omega arith

    far : (b : Bool) → nat_lt (position_or_len p xs) (length xs) ≡ b → cond b (Some (position_or_len p xs)) None ≡ None → length xs ≤ position_or_len p xs
    far true b e = absurd (None-Some (position_or_len p xs) (sym e))
    far false b e = ltb-false (position_or_len p xs) (length xs) b

module _ (stations : List StationValue) (router iface next_hop : ℕ) (here : NetInterface) (here_is : interface_at (network_of stations) router iface ≡ Some here) where
  -- the hop to an interface of another router that has the address on the link
  pub leads_to : (other router_iface : ℕ) (s : StationValue) → (router ≡ other → ⊥) → slice_get stations other ≡ Some s
      → position (is_on here.link next_hop) s.node.interfaces ≡ Some router_iface
      → LeadsTo (network_of stations) router iface next_hop (record { iface = iface; router = other; router_iface = router_iface })
  leads_to other router_iface s apart is found =
      let p = position-Some (is_on here.link next_hop) s.node.interfaces router_iface here found in
      let there : NetInterface = get_or s.node.interfaces router_iface here in
      let b = and_parts (there.link == here.link) (there.interface.addr == next_hop) p.1 in
      let there_is : interface_at (network_of stations) other router_iface ≡ Some there = interface_of stations other router_iface s is ∙ slice_get-get_or s.node.interfaces router_iface here p.0 in
      record {
        leaves = refl;
        is_hop = (apart, record { here = here; there = there; here_is = here_is; there_is = there_is; same_link = sym (eqb-true there.link here.link b.0) });
        address = ap (option_map addr_of) there_is ∙ ap (λ (n : ℕ). Some n) (eqb-true there.interface.addr next_hop b.1);
      }

  -- a hop leads to an interface that has the address on the link
  led_to : (h : Hop) (leads : LeadsTo (network_of stations) router iface next_hop h) → is_on here.link next_hop leads.is_hop.1.there ≡ true
  led_to h leads =
      let l = leads.is_hop.1 in
      let same : l.here ≡ here = Some-same l.here here (sym l.here_is ∙ ap (interface_at (network_of stations) router) leads.leaves ∙ here_is) in
      let addr : l.there.interface.addr ≡ next_hop = Some-same (addr_of l.there) next_hop (sym (ap (option_map addr_of) l.there_is) ∙ leads.address) in
      and_from (l.there.link == here.link) (l.there.interface.addr == next_hop) (eq-eqb l.there.link here.link (sym l.same_link ∙ ap (λ (i : NetInterface). i.link) same)) (eq-eqb l.there.interface.addr next_hop addr)

  -- no hop leads to a router of which no interface has the address on the link
  pub passed_by : (other : ℕ) (s : StationValue) → slice_get stations other ≡ Some s → position (is_on here.link next_hop) s.node.interfaces ≡ None
      → (h : Hop) → LeadsTo (network_of stations) router iface next_hop h → h.router ≡ other → ⊥
  passed_by other s is none h leads e =
      let l = leads.is_hop.1 in
      let at : slice_get s.node.interfaces h.router_iface ≡ Some l.there = sym (interface_of stations other h.router_iface s is) ∙ ap (λ (r : ℕ). interface_at (network_of stations) r h.router_iface) (sym e) ∙ l.there_is in
      false≢true (sym (none_at (is_on here.link next_hop) s.node.interfaces none h.router_iface l.there at) ∙ led_to h leads)

-- where the router has no such interface, no hop leads anywhere
pub leads_nowhere : (net : Network) (router iface next_hop : ℕ) → interface_at net router iface ≡ None → (h : Hop) → LeadsTo net router iface next_hop h → ⊥
leads_nowhere net router iface next_hop none h leads = let l = leads.is_hop.1 in None-Some l.here (sym none ∙ sym (ap (interface_at net router) leads.leaves) ∙ l.here_is)

-- ---- all routers

-- a hop leads to a router of the network
pub led_inside : (net : Network) (router iface next_hop : ℕ) (h : Hop) → LeadsTo net router iface next_hop h → h.router < length net
led_inside net router iface next_hop h leads =
    let l = leads.is_hop.1 in
    let n = node_of net h.router h.router_iface l.there l.there_is in
    slice_get_within net h.router n.0 n.1

-- so none leads past the last
pub leads_past : (stations : List StationValue) (router iface next_hop other : ℕ) → length stations ≤ other → (h : Hop) → LeadsTo (network_of stations) router iface next_hop h → h.router ≡ other → ⊥
leads_past stations router iface next_hop other past h leads same =
    outside h.router other (length stations) (subst (λ (n : ℕ). h.router < n) (length-map stations (λ (s : StationValue). s.node)) (led_inside (network_of stations) router iface next_hop h leads)) same past
  where
    outside : (a b n : ℕ) → a < n → a ≡ b → n ≤ b → ⊥
    outside a b n low e h = omega arith

-- ---- what a router does

module _ (w : World) (addr router : ℕ) where
  pub no_router : None ≡ slice_get w.states router → HasNoMatch (forwardings_of w) addr router
  no_router past table p is m = None-Some table (sym (ap (option_map (λ (s : State). forwards s.table)) (sym past)) ∙ is)

  module _ (s : State) (is : Some s ≡ slice_get w.states router) (table : Table) (same : table ≡ s.table) where
    table_is : forwardings_of w router ≡ Some (forwards table)
    table_is = ap (option_map (λ (s : State). forwards s.table)) (sym is) ∙ ap (λ (t : Table). Some (forwards t)) (sym same)

    pub forwards_by : (hop : FibHop) → IsLongestMatch (forwards table) addr hop → ForwardsBy (forwardings_of w) addr router hop
    forwards_by hop longest = record { table = forwards table; table_is = table_is; longest = longest }

    pub no_match : ((p : Prefix6) → ¬ (IsMatch (forwards table) addr p)) → HasNoMatch (forwardings_of w) addr router
    no_match none other p e m = none p (subst (λ (t : Forwarding). IsMatch t addr p) (sym (Some-same (forwards table) other (sym table_is ∙ e))) m)

pub hands_on : (net : Network) (fibs : Forwardings) (addr router iface next_hop : ℕ) (h : Hop) → ForwardsBy fibs addr router (Via iface next_hop) → LeadsTo net router iface next_hop h → HandsOn net fibs addr router h
hands_on net fibs addr router iface next_hop h by leads =
    record {
      next_hop = next_hop;
      by = subst (λ (i : ℕ). ForwardsBy fibs addr router (Via i next_hop)) (sym leads.leaves) by;
      is_hop = leads.is_hop;
      address = leads.address;
    }

pub to_nobody : (net : Network) (fibs : Forwardings) (addr router iface next_hop : ℕ) → ForwardsBy fibs addr router (Via iface next_hop) → ((h : Hop) → ¬ (LeadsTo net router iface next_hop h)) → ForwardsToNobody net fibs addr router
to_nobody net fibs addr router iface next_hop by nobody = record { iface = iface; next_hop = next_hop; by = by; nobody = nobody }
