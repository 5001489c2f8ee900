-- The way of packets by the tables of routers, and how it ends.
use Rattle.std.specs.Prelude.{◌≡◌, ◌↔◌, ℕ, nat_eq, List, [], ◌∷◌, Contains, Some, option_map}
use Rattle.ripng_world.specs.Below.{IsDistinct, Prefix6, Forwarding, IsMatch, Via, PathEnd, Delivered, NoRoute, NextHopIsNobodys, Loops}
use Rattle.ripng_world.specs.Network.{Network, interface_at}
use Rattle.ripng_world.specs.Packets.{Forwardings, ForwardsBy, HandsOn, DeliversItself, ArriveBy}
use Rattle.ripng_world.specs.Walks.{Hop, IsHop, end_of}

-- what callers see of a way: its hops, and how it ends
pub record PathValue : Type 0 where
  pub hops : List Hop
  pub end : PathEnd

-- ---- routers

-- no prefix of the router's forwarding table holds the address
abbrev pub HasNoMatch : Forwardings → ℕ → ℕ → Type 0
HasNoMatch fibs addr router = (table : Forwarding) (p : Prefix6) → fibs router ≡ Some table → ¬ (IsMatch table addr p)

-- the hop leaves the router by that interface, and ends at an interface with that address, of another router of the link
pub record LeadsTo (net : Network) (router iface next_hop : ℕ) (h : Hop) : Type 0 where
  pub leaves : h.iface ≡ iface
  pub is_hop : IsHop net router h
  pub address : option_map (λ i. i.interface.addr) (interface_at net h.router h.router_iface) ≡ Some next_hop

-- the router forwards to a next hop that is nobody's
pub record ForwardsToNobody (net : Network) (fibs : Forwardings) (addr router : ℕ) : Type 0 where
  pub iface : ℕ
  pub next_hop : ℕ
  pub by : ForwardsBy fibs addr router (Via iface next_hop)
  pub nobody : (h : Hop) → ¬ (LeadsTo net router iface next_hop h)

-- a way ends at the router, whatever it passed before
abbrev pub EndsAt : Network → Forwardings → ℕ → ℕ → PathEnd → Type 0
EndsAt net fibs addr router Delivered = DeliversItself fibs addr router
EndsAt net fibs addr router NoRoute = HasNoMatch fibs addr router
EndsAt net fibs addr router NextHopIsNobodys = ForwardsToNobody net fibs addr router
EndsAt net fibs addr router (Loops from) = ⊥

-- ---- ways

-- the routers hand packets on across these hops, each by its longest match
abbrev pub AreHandedOn : Network → Forwardings → ℕ → ℕ → List Hop → Type 0
AreHandedOn net fibs addr router [] = Unit {0}
AreHandedOn net fibs addr router (h ∷ way) = HandsOn net fibs addr router h × AreHandedOn net fibs addr h.router way

-- the routers that hand them on: all of the way but the last
abbrev pub handing_on : ℕ → List Hop → List ℕ
handing_on router [] = []
handing_on router (h ∷ way) = router ∷ handing_on h.router way

-- the last router of the way is that one, and has handed them on before
abbrev pub ComesBack : ℕ → List Hop → ℕ → Type 0
ComesBack router way from = (end_of router way ≡ from) × Contains (handing_on router way) from

-- the way of packets for the address from the router: no router hands them on twice, and it ends as the last router has it
pub record IsPath (net : Network) (fibs : Forwardings) (addr router : ℕ) (path : PathValue) : Type 0 where
  pub handed_on : AreHandedOn net fibs addr router path.hops
  pub once : IsDistinct nat_eq (handing_on router path.hops)
  pub delivered : (path.end ≡ Delivered) ↔ ArriveBy net fibs addr router path.hops
  pub no_route : (path.end ≡ NoRoute) ↔ HasNoMatch fibs addr (end_of router path.hops)
  pub nobodys : (path.end ≡ NextHopIsNobodys) ↔ ForwardsToNobody net fibs addr (end_of router path.hops)
  pub loops : (from : ℕ) → (path.end ≡ Loops from) ↔ ComesBack router path.hops from
