-- Timeout and garbage collection (RFC 2080, 2.3).
use Rattle.std.specs.Prelude.{ℕ, nat_le, if◌then◌else◌, Option, Some, None}
use Rattle.route_table.specs.Route.{RouteValue}
use Rattle.route_table.specs.Table.{Table, map_values}
use Rattle.route_table.specs.declared.route.Clock.{Clock}
use Rattle.route_table.specs.declared.route.Clock.TheVariants.{Fixed, Live, Dying}
use Rattle.router_core.specs.Adoption.{lost}
-- a route without its route change flag, and a table without any (RFC 2080, 2.5.1)
pub use Rattle.route_table.specs.Due.{without_mark, unmarked}

-- what is left of a route at a moment, by its clock: at its timeout it is withdrawn, and after garbage collection deleted
abbrev pub aged_by_clock : ℕ → RouteValue → Clock → Option RouteValue
aged_by_clock now r Fixed = Some r
aged_by_clock now r (Live until) = if nat_le until now then Some (lost now r) else Some r
aged_by_clock now r (Dying until) = if nat_le until now then None else Some r

-- what is left of a route at a moment (RFC 2080, 2.3)
abbrev pub aged : ℕ → RouteValue → Option RouteValue
aged now r = aged_by_clock now r r.clock

-- the table at a moment: every route whose timer has ended is withdrawn or deleted (RFC 2080, 2.3)
abbrev pub aged_table : ℕ → Table → Table
aged_table now table = map_values (aged now) table
