-- The last update of a router that shuts down: every route of its table, local or learned, as unreachable (route
-- poisoning). RFC 2080 has no such update; it is this project's choice.
use Rattle.std.specs.Prelude.{ℕ, List, Some}
use Rattle.route_table.specs.Table.{Table, map_values}
use Rattle.router_core.specs.Config.{Config}
use Rattle.router_core.specs.Adoption.{lost}
use Rattle.router_core.specs.Output.{Message, update_messages, every_route}

-- every route of the table, unreachable
abbrev pub unreachable_table : ℕ → Table → Table
unreachable_table now table = map_values (λ r. Some (lost now r)) table

-- the last update: all routes, on each interface, with metric 16
abbrev pub shutdown_messages : Config → ℕ → Table → List Message
shutdown_messages config now table = update_messages config every_route (unreachable_table now table)
