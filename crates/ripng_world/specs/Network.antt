-- Networks: routers with interfaces on links.
use Rattle.std.specs.Prelude.{◌≡◌, ℕ, ◌<◌, ◌≤◌, Bool, IsTrue, List, [], map, Option, Some, slice_get, option_and_then}
use Rattle.ripng_world.specs.Below.{is_link_local, Prefix6, IsPrefix, is_routable, infinity, Config, config_with, announcing, Filter, Limit, NetInterface}

-- what one router of a network is configured with
pub record Node : Type 0 where
  pub interfaces : List NetInterface
  pub prefixes : List (Prefix6 × ℕ)  -- that it owns, with their tags
  pub quiet : Bool
  pub filters : List Filter  -- of what comes in
  pub limits : List Limit
  pub passive : List ℕ  -- its passive interfaces
  pub announcements : List Filter  -- filters of what goes out

-- routers, each known by its place in the list
abbrev pub Network : Type 0
Network = List Node

-- the configuration of a router, without its links
abbrev pub config_of : Node → Config
config_of node = announcing (config_with (map (λ i. i.interface) node.interfaces) node.prefixes node.quiet node.filters node.limits) node.passive node.announcements

-- no filter, in or out, no limit, and no passive interface of its own
abbrev pub HasNoLists : Node → Type 0
HasNoLists node = (node.filters ≡ []) × (node.limits ≡ []) × (node.passive ≡ []) × (node.announcements ≡ [])

-- the same of all routers
abbrev pub HaveNoLists : Network → Type 0
HaveNoLists net = (router : ℕ) (node : Node) → slice_get net router ≡ Some node → HasNoLists node

-- an interface of a router, if both are there
abbrev pub interface_at : Network → ℕ → ℕ → Option NetInterface
interface_at net router iface = option_and_then (λ node. slice_get node.interfaces iface) (slice_get net router)

-- two interfaces of one link
pub record AreLinked (net : Network) (router iface router' iface' : ℕ) : Type 0 where
  pub here : NetInterface
  pub there : NetInterface
  pub here_is : interface_at net router iface ≡ Some here
  pub there_is : interface_at net router' iface' ≡ Some there
  pub same_link : here.link ≡ there.link

-- the router owns the prefix, with the tag
pub record Owns (net : Network) (router : ℕ) (p : Prefix6) (tag : ℕ) : Type 0 where
  pub node : Node
  pub node_is : slice_get net router ≡ Some node
  pub place : ℕ
  pub listed : slice_get node.prefixes place ≡ Some (p, tag)

-- owned prefixes are prefixes
abbrev pub OwnsPrefixes : Network → Type 0
OwnsPrefixes net = (router : ℕ) (p : Prefix6) (tag : ℕ) → Owns net router p tag → IsPrefix p

-- routers that receive from each other have different addresses; elsewhere in the network an address may occur again
pub record HasDistinctAddresses (net : Network) : Type 0 where
  -- no address is that of two interfaces of one link
  pub on_links : (r i s j : ℕ) (l : AreLinked net r i s j) → l.here.interface.addr ≡ l.there.interface.addr → (r ≡ s) × (i ≡ j)
  -- no router has, at an interface in the zone of one of its links, the address of another router's interface of that link
  pub of_neighbors : (r i k s j : ℕ) (own : NetInterface) → interface_at net r i ≡ Some own → (l : AreLinked net r k s j)
      → own.interface.zone ≡ l.here.interface.zone → own.interface.addr ≡ l.there.interface.addr → r ≡ s

-- to each router a link is in one zone: its own interfaces there have the same (RFC 4007, 5 and 6)
abbrev pub AreZoned : Network → Type 0
AreZoned net = (r i j : ℕ) (l : AreLinked net r i r j) → l.here.interface.zone ≡ l.there.interface.zone

-- each interface and each owned prefix is one that a router may have
pub record IsUsable (net : Network) : Type 0 where
  pub costs : (router iface : ℕ) (i : NetInterface) → interface_at net router iface ≡ Some i → (1 ≤ i.interface.cost) × (i.interface.cost < infinity)
  pub local : (router iface : ℕ) (i : NetInterface) → interface_at net router iface ≡ Some i → IsTrue (is_link_local i.interface.addr)
  pub mtus : (router iface : ℕ) (i : NetInterface) → interface_at net router iface ≡ Some i → (1280 ≤ i.interface.mtu) × (i.interface.mtu ≤ 65535)
  pub routable : (router : ℕ) (p : Prefix6) (tag : ℕ) → Owns net router p tag → IsTrue (is_routable p)

-- what a network needs, and a check of its configuration sees to
pub record IsNetwork (net : Network) : Type 0 where
  pub owns_prefixes : OwnsPrefixes net
  pub distinct : HasDistinctAddresses net
  pub usable : IsUsable net
