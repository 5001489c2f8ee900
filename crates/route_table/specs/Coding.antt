-- How tables and their entries are coded, for all that holds one.
use Rattle.std.specs.Coded.{Coded, codes}
use Rattle.std.specs.FinMap as map
use Rattle.prefix6.specs.Prefix.{Prefix6, prefix_cmp}
use Rattle.prefix6.specs.contracts.prefix.Prefix as prefix
use Rattle.route_table.specs.Route.{RouteValue}
use Rattle.route_table.specs.Table.{Table}
use Rattle.route_table.specs.contracts.route.Route as route

-- how a prefix is coded; how a route is
abbrev pub coded_prefix : Coded Prefix6
coded_prefix = prefix.the_row.coded

abbrev pub coded_route : Coded RouteValue
coded_route = route.the_row.coded

-- how a table is coded
abbrev pub coded_table : Coded Table
coded_table = map.code {R = prefix_cmp} coded_prefix coded_route

-- how entries of a table are coded, and all that is made of them
pub ruleset coded_entries = (codes, coded_prefix, coded_route)
