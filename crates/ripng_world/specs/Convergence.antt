-- Convergence from a cold start, in a counted number of rounds.
use Rattle.std.specs.Prelude.{◌≡◌, ℕ, ◌<◌, ◌≤◌, IsTrue, IsFalse, List, length, Contains, Some, slice_get}
use Rattle.ripng_world.specs.Below.{Prefix6, RouteValue, infinity, Table, table_limit, State, is_accepted, is_announced, is_passive, limit_at}
use Rattle.std.specs.FinMap as map_of
use Rattle.ripng_world.specs.Network.{Network, Node, Owns, config_of}
use Rattle.ripng_world.specs.Walks.{IsLeast, IsLeastWithin}
use Rattle.ripng_world.specs.World.{World}

-- no interface of a router is passive, so no router is quiet
abbrev pub IsNeverQuiet : Network → Type 0
IsNeverQuiet net = (router iface : ℕ) (node : Node) → slice_get net router ≡ Some node → IsFalse (is_passive (config_of node) iface)

-- each interface of each router takes and announces routes to what is so, and has no limit below that number
pub record AreLetThrough (net : Network) (is_so : Prefix6 → Type 0) (number : ℕ) : Type 0 where
  pub accepted : (router iface : ℕ) (node : Node) (p : Prefix6) → slice_get net router ≡ Some node → is_so p → IsTrue (is_accepted (config_of node) iface p)
  pub announced : (router iface : ℕ) (node : Node) (p : Prefix6) → slice_get net router ≡ Some node → is_so p → IsTrue (is_announced (config_of node) iface p)
  pub within : (router iface limit : ℕ) (node : Node) → slice_get net router ≡ Some node → limit_at (config_of node) iface ≡ Some limit → number ≤ limit

-- no more distinct owned prefixes than a table holds; where there are filters and limits, they let all of them through, in and out
abbrev pub FitsTables : Network → Type 0
FitsTables net =
    (owned : List Prefix6) × (length owned ≤ table_limit) × ((router : ℕ) (p : Prefix6) (tag : ℕ) → Owns net router p tag → Contains owned p)
    × AreLetThrough net (λ p. (router : ℕ) × (tag : ℕ) × Owns net router p tag) (length owned)

-- the routes below infinity have exactly the least costs within k hops
pub record IsConverged (net : Network) (k router : ℕ) (table : Table) : Type 0 where
  pub least : (p : Prefix6) (r : RouteValue) → map_of.get table p ≡ Some r → r.metric < infinity → IsLeastWithin net k router p r.metric
  pub found : (p : Prefix6) (metric : ℕ) → IsLeastWithin net k router p metric → (r : RouteValue) × (map_of.get table p ≡ Some r) × (r.metric ≡ metric)

-- the same of all tables
abbrev pub AreConverged : Network → ℕ → World → Type 0
AreConverged net k w = (router : ℕ) (state : State) → slice_get w.states router ≡ Some state → IsConverged net k router state.table

-- every router has the least cost, wherever that is below infinity
abbrev pub HaveSettled : Network → World → Type 0
HaveSettled net w =
    (router : ℕ) (state : State) (p : Prefix6) (metric : ℕ) → slice_get w.states router ≡ Some state → IsLeast net router p metric → metric < infinity
    → (r : RouteValue) × (map_of.get state.table p ≡ Some r) × (r.metric ≡ metric)
