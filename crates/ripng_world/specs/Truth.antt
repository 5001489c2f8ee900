-- What every table and every datagram of a network keeps.
use Rattle.std.specs.Prelude.{◌≡◌, ◌≢◌, ℕ, ◌<◌, ◌≤◌, List, Some, option_map}
use Rattle.ripng_world.specs.Below.{AllByRecursion, Prefix6, cleared, Rte, Response, Spells, RouteValue, infinity, Table, Gateway}
use Rattle.std.specs.FinMap as map_of
use Rattle.ripng_world.specs.Network.{Network, AreLinked, interface_at}
use Rattle.ripng_world.specs.Walks.{IsBacked, IsEntryBacked, cost_of_interface}

-- ---- said once for all walks that back: those of a network, and those of all that was in force (`TruthSince`)

-- a route to a prefix, backed if it is not unreachable
pub record IsSoundBy (backed_by : Prefix6 → RouteValue → Type 0) (p : Prefix6) (r : RouteValue) : Type 0 where
  pub is_prefix : cleared p.addr p.len ≡ p
  pub in_range : r.metric ≤ infinity
  pub backed : r.metric < infinity → backed_by p r

-- every route of the table is sound
abbrev pub IsSoundTableBy : (Prefix6 → RouteValue → Type 0) → Table → Type 0
IsSoundTableBy backed_by table = (p : Prefix6) (r : RouteValue) → map_of.get table p ≡ Some r → IsSoundBy backed_by p r

-- an entry in range, so no next hop entry, and backed
pub record IsSoundEntryBy (backed_by : Rte → Type 0) (e : Rte) : Type 0 where
  pub in_range : e.metric ≤ infinity
  pub backed : backed_by e

-- if the bytes are a Response, each of its entries is sound
abbrev pub IsSoundDatagramBy : (Rte → Type 0) → List ℕ → Type 0
IsSoundDatagramBy backed_by bytes = (entries : List Rte) → Spells Response entries bytes → AllByRecursion (IsSoundEntryBy backed_by) entries

-- a gateway that is an interface of another router of the link, at such a cost
pub record IsNeighborBy (has_cost : ℕ → ℕ → Type 0) (net : Network) (router : ℕ) (g : Gateway) (sender sender_iface : ℕ) : Type 0 where
  pub linked : AreLinked net router g.iface sender sender_iface
  pub apart : router ≢ sender
  pub from : option_map (λ i. i.interface.addr) (interface_at net sender sender_iface) ≡ Some g.from
  pub cost : has_cost g.iface g.cost

-- ---- the same of the walks of a network

-- a route
abbrev pub IsSound : Network → ℕ → Prefix6 → RouteValue → Type 0
IsSound net router p r = IsSoundBy (IsBacked net router) p r

-- a table
abbrev pub IsSoundTable : Network → ℕ → Table → Type 0
IsSoundTable net router table = IsSoundTableBy (IsBacked net router) table

-- an entry
abbrev pub IsSoundEntry : Network → ℕ → Rte → Type 0
IsSoundEntry net router e = IsSoundEntryBy (IsEntryBacked net router) e

-- a datagram
abbrev pub IsSoundDatagram : Network → ℕ → List ℕ → Type 0
IsSoundDatagram net router bytes = IsSoundDatagramBy (IsEntryBacked net router) bytes

-- a gateway, at the cost of the receiving interface
abbrev pub IsNeighbor : Network → ℕ → Gateway → ℕ → ℕ → Type 0
IsNeighbor net router g sender sender_iface = IsNeighborBy (λ iface cost. cost ≡ cost_of_interface net router iface) net router g sender sender_iface
