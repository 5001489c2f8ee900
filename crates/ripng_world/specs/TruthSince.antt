-- What every table and every datagram of a network keeps while costs and owners change: what `Truth` says, of all walks since.
use Rattle.std.specs.Prelude.{ℕ, List}
use Rattle.ripng_world.specs.Below.{Prefix6, Rte, RouteValue, Table, Gateway}
use Rattle.ripng_world.specs.Past.{Past, HasCostSince, IsBackedSince, IsEntryBackedSince}
use Rattle.ripng_world.specs.Truth.{IsNeighborBy, IsSoundBy, IsSoundDatagramBy, IsSoundEntryBy, IsSoundTableBy}

-- a route to a prefix, backed by such a walk if it is not unreachable
abbrev pub IsSoundSince : Past → ℕ → Prefix6 → RouteValue → Type 0
IsSoundSince past router p r = IsSoundBy (IsBackedSince past router) p r

-- every route of the table is sound
abbrev pub IsSoundTableSince : Past → ℕ → Table → Type 0
IsSoundTableSince past router table = IsSoundTableBy (IsBackedSince past router) table

-- an entry in range, so no next hop entry, and backed
abbrev pub IsSoundEntrySince : Past → ℕ → Rte → Type 0
IsSoundEntrySince past router e = IsSoundEntryBy (IsEntryBackedSince past router) e

-- if the bytes are a Response, each of its entries is sound
abbrev pub IsSoundDatagramSince : Past → ℕ → List ℕ → Type 0
IsSoundDatagramSince past router bytes = IsSoundDatagramBy (IsEntryBackedSince past router) bytes

-- a gateway that is an interface of another router of the link, at a cost that the receiving interface has or had
abbrev pub IsNeighborSince : Past → ℕ → Gateway → ℕ → ℕ → Type 0
IsNeighborSince past router g sender sender_iface = IsNeighborBy (HasCostSince past router) past.net router g sender sender_iface
