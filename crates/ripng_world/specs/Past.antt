-- All that was in force in a network since its cold start: costs, owners, and the walks at such costs to such owners.
use Rattle.std.specs.Prelude.{◌≡◌, ◌⊎◌, ℕ, ◌+◌, List, [], ◌∷◌, Some, slice_get}
use Rattle.ripng_world.specs.Below.{Prefix6, Rte, RouteValue, Table, Change, Cost, Own}
use Rattle.ripng_world.specs.Network.{Network, Owns}
use Rattle.ripng_world.specs.Walks.{Hop, IsWalk, IsBackedBy, IsEntryBackedBy, IsLeastBy, IsTableBackedBy, end_of, cost_of_interface}

-- a network as it started, and the changes that its routers have done since, each with its router
pub record Past : Type 0 where
  pub net : Network
  pub reconfigurations : List (ℕ × Change)

-- nothing was changed yet
abbrev pub beginning : Network → Past
beginning net = record { net = net; reconfigurations = [] }

-- the router did this change
abbrev pub WasDone : Past → ℕ → Change → Type 0
WasDone past router c = (place : ℕ) × (slice_get past.reconfigurations place ≡ Some (router, c))

-- the interface has, or had, this cost
abbrev pub HasCostSince : Past → ℕ → ℕ → ℕ → Type 0
HasCostSince past router iface cost = (cost ≡ cost_of_interface past.net router iface) ⊎ WasDone past router (Cost iface cost)

-- the router owns, or owned, the prefix with the tag
abbrev pub OwnsSince : Past → ℕ → Prefix6 → ℕ → Type 0
OwnsSince past router p tag = Owns past.net router p tag ⊎ WasDone past router (Own p tag)

-- 1, and for each interface that receives a cost that it has or had
abbrev pub CostsSince : Past → ℕ → List Hop → ℕ → Type 0
CostsSince past at [] metric = metric ≡ 1
CostsSince past at (h ∷ walk) metric =
    (here : ℕ) × (later : ℕ) × HasCostSince past at h.iface here × CostsSince past h.router walk later × (here + later ≡ metric)

-- a walk of that cost to a router that owns or owned the prefix with that tag
pub record ReachesSince (past : Past) (from : ℕ) (p : Prefix6) (metric tag : ℕ) (walk : List Hop) : Type 0 where
  pub is_walk : IsWalk past.net from walk
  pub costs : CostsSince past from walk metric
  pub owner : OwnsSince past (end_of from walk) p tag

-- ---- what `Walks` says of walks, of these

-- a route
abbrev pub IsBackedSince : Past → ℕ → Prefix6 → RouteValue → Type 0
IsBackedSince past router p r = IsBackedBy (λ metric tag walk. ReachesSince past router p metric tag walk) past.net r

-- a table
abbrev pub IsTableBackedSince : Past → ℕ → Table → Type 0
IsTableBackedSince past router table = IsTableBackedBy (IsBackedSince past router) table

-- an entry that the router advertises
abbrev pub IsEntryBackedSince : Past → ℕ → Rte → Type 0
IsEntryBackedSince past router e = IsEntryBackedBy (λ p metric tag walk. ReachesSince past router p metric tag walk) e

-- the least cost
abbrev pub IsLeastSince : Past → ℕ → Prefix6 → ℕ → Type 0
IsLeastSince past from p metric = IsLeastBy (λ metric' tag walk. ReachesSince past from p metric' tag walk) metric
