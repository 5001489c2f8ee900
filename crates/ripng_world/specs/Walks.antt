-- Walks through a network, their cost, and routes that are backed by one.
use Rattle.std.specs.Prelude.{◌≡◌, ◌≢◌, ℕ, ◌+◌, ◌<◌, ◌≤◌, List, [], ◌∷◌, length, Some, unwrap_or, option_map}
use Rattle.ripng_world.specs.Below.{Prefix6, cleared, Rte, RouteValue, infinity, Table, Origin, Learned}
use Rattle.std.specs.FinMap as map_of
use Rattle.route_table.specs.declared.route.Origin.TheVariants.{Own}
use Rattle.ripng_world.specs.Network.{Network, AreLinked, Owns, interface_at}

-- from an interface of the router where a walk stands to an interface of another router of its link
pub record Hop : Type 0 where
  pub iface : ℕ
  pub router : ℕ
  pub router_iface : ℕ

-- the hop crosses a link, to another router
abbrev pub IsHop : Network → ℕ → Hop → Type 0
IsHop net at h = (at ≢ h.router) × AreLinked net at h.iface h.router h.router_iface

-- the hops lead on from the router
abbrev pub IsWalk : Network → ℕ → List Hop → Type 0
IsWalk net at [] = Unit {0}
IsWalk net at (h ∷ walk) = IsHop net at h × IsWalk net h.router walk

-- the router where a walk from that one ends
abbrev pub end_of : ℕ → List Hop → ℕ
end_of at [] = at
end_of at (h ∷ walk) = end_of h.router walk

-- the cost of an interface; one that is not there reaches nothing
abbrev pub cost_of_interface : Network → ℕ → ℕ → ℕ
cost_of_interface net router iface = unwrap_or (option_map (λ i. i.interface.cost) (interface_at net router iface)) infinity

-- 1, and the cost of each interface that receives
abbrev pub cost : Network → ℕ → List Hop → ℕ
cost net at [] = 1
cost net at (h ∷ walk) = cost_of_interface net at h.iface + cost net h.router walk

-- a walk of that cost to a router that owns the prefix with that tag
pub record Reaches (net : Network) (from : ℕ) (p : Prefix6) (metric tag : ℕ) (walk : List Hop) : Type 0 where
  pub is_walk : IsWalk net from walk
  pub costs : cost net from walk ≡ metric
  pub owner : Owns net (end_of from walk) p tag

-- the walk begins as the route's origin says
abbrev pub BeginsAs : Network → Origin → List Hop → Type 0
BeginsAs net Own [] = Unit {0}
BeginsAs net (Learned iface from next_hop) (h ∷ walk) =
    (h.iface ≡ iface)
    × (option_map (λ i. i.interface.addr) (interface_at net h.router h.router_iface) ≡ Some from)
    × (next_hop ≡ from)
BeginsAs net Own (h ∷ walk) = ⊥
BeginsAs net (Learned iface from next_hop) [] = ⊥

-- ---- said once for all walks that reach an owner: those of a network, and those of all that was in force (`Past`)

-- a walk has the route's cost, owner, tag and first hop
abbrev pub IsBackedBy : (ℕ → ℕ → List Hop → Type 0) → Network → RouteValue → Type 0
IsBackedBy reach net r = (walk : List Hop) × reach r.metric r.tag walk × BeginsAs net r.origin walk

-- every route that is not unreachable is backed
abbrev pub IsTableBackedBy : (Prefix6 → RouteValue → Type 0) → Table → Type 0
IsTableBackedBy backed table = (p : Prefix6) (r : RouteValue) → map_of.get table p ≡ Some r → r.metric < infinity → backed p r

-- an entry that is not unreachable has the cost and tag of a walk
abbrev pub IsEntryBackedBy : (Prefix6 → ℕ → ℕ → List Hop → Type 0) → Rte → Type 0
IsEntryBackedBy reach e = e.metric < infinity → (walk : List Hop) × reach (cleared e.addr e.len) e.metric e.tag walk

-- some walk has this cost, and none a lower one
pub record IsLeastBy (reach : ℕ → ℕ → List Hop → Type 0) (metric : ℕ) : Type 0 where
  pub reached : (tag : ℕ) × (walk : List Hop) × reach metric tag walk
  pub least : (metric' tag : ℕ) (walk : List Hop) → reach metric' tag walk → metric ≤ metric'

-- ---- the same of the walks of a network

-- a route
abbrev pub IsBacked : Network → ℕ → Prefix6 → RouteValue → Type 0
IsBacked net router p r = IsBackedBy (λ metric tag walk. Reaches net router p metric tag walk) net r

-- a table
abbrev pub IsTableBacked : Network → ℕ → Table → Type 0
IsTableBacked net router table = IsTableBackedBy (IsBacked net router) table

-- an entry that the router advertises
abbrev pub IsEntryBacked : Network → ℕ → Rte → Type 0
IsEntryBacked net router e = IsEntryBackedBy (λ p metric tag walk. Reaches net router p metric tag walk) e

-- the least cost
abbrev pub IsLeast : Network → ℕ → Prefix6 → ℕ → Type 0
IsLeast net from p metric = IsLeastBy (λ metric' tag walk. Reaches net from p metric' tag walk) metric

-- the least cost of walks of at most k hops, and only up to 15
pub record IsLeastWithin (net : Network) (k from : ℕ) (p : Prefix6) (metric : ℕ) : Type 0 where
  pub reached : (tag : ℕ) × (walk : List Hop) × (length walk ≤ k) × Reaches net from p metric tag walk
  pub least : (metric' tag : ℕ) (walk : List Hop) → length walk ≤ k → Reaches net from p metric' tag walk → metric ≤ metric'
  pub usable : metric < infinity
