-- A link goes down: routes that were learned on it are withdrawn at once, as at their timeout (RFC 2080, 2.3). That this need not
-- wait for the timeout is this project's choice.
use Rattle.std.specs.Prelude.{ℕ, ◌&&◌, nat_lt, Bool, if◌then◌else◌, List, filter_map, Some}
use Rattle.std.specs.FinMap as map_of
use Rattle.fib.specs.declared.change.RouteChange.{RouteChange}
use Rattle.route_table.specs.Route.{RouteValue, infinity}
use Rattle.route_table.specs.Table.{Table, map_values}
use Rattle.router_core.specs.Adoption.{lost}
use Rattle.router_core.specs.Changes.{change}
use Rattle.router_core.specs.Output.{is_learned_on}

-- a route that was learned on that interface, and is reachable
abbrev pub is_live_on : ℕ → RouteValue → Bool
is_live_on iface r = is_learned_on iface r.origin && nat_lt r.metric infinity

-- what is left of a route when the link of an interface goes down
abbrev pub after_link_down : ℕ → ℕ → RouteValue → RouteValue
after_link_down iface now r = if is_live_on iface r then lost now r else r

-- the table after the link of an interface went down
abbrev pub table_after_link_down : ℕ → ℕ → Table → Table
table_after_link_down iface now table = map_values (λ r. Some (after_link_down iface now r)) table

-- the changes of forwarding entries when the link of an interface goes down
abbrev pub changes_of_link_down : ℕ → ℕ → Table → List RouteChange
changes_of_link_down iface now table = filter_map (λ t. change t.0 (Some t.1) (Some (after_link_down iface now t.1))) (map_of.entries table)
