-- The forwarding table that belongs to a router's table of routes, and its changes.
use Rattle.std.specs.Prelude.{ℕ, ◌+◌, nat_lt, if◌then◌else◌, List, filter_map, Option, Some, None, option_and_then}
use Rattle.std.specs.List.{enumerate_from}
use Rattle.std.specs.FinMap as map_of
use Rattle.prefix6.specs.Prefix.{Prefix6}
use Rattle.fib.specs.Forwarding.{Forward, Forwarding, change_between}
use Rattle.fib.specs.declared.change.Hop.{Hop}
use Rattle.fib.specs.declared.change.Hop.TheVariants.{Direct, Via}
use Rattle.fib.specs.declared.change.RouteChange.{RouteChange}
use Rattle.ripng_wire.specs.declared.rte.Rte.{Rte}
use Rattle.route_table.specs.Route.{RouteValue, infinity}
use Rattle.route_table.specs.Table.{Table, map_values}
use Rattle.route_table.specs.declared.route.Origin.{Origin}
use Rattle.route_table.specs.declared.route.Origin.TheVariants.{Own, Learned}
use Rattle.router_core.specs.Ageing.{aged}
use Rattle.router_core.specs.Offers.{is_offer, prefix_named}
use Rattle.router_core.specs.Hearing.{Hearing, route_after}

-- where packets go by a route of this origin
abbrev pub hop_of : Origin → Hop
hop_of Own = Direct
hop_of (Learned iface from next_hop) = Via iface next_hop

-- the forwarding entry of a route, if it is reachable
abbrev pub forward : RouteValue → Option Forward
forward r = if nat_lt r.metric infinity then Some (record { hop = hop_of r.origin; metric = r.metric }) else None

-- the forwarding table of a table of routes
abbrev pub forwards : Table → Forwarding
forwards table = map_values forward table

-- the change of the forwarding entry of a prefix, from one route to another
abbrev pub change : Prefix6 → Option RouteValue → Option RouteValue → Option RouteChange
change p old new = change_between p (option_and_then forward old) (option_and_then forward new)

-- the changes of a start: an entry for each route
abbrev pub changes_of_start : Table → List RouteChange
changes_of_start table = filter_map (λ t. change t.0 None (Some t.1)) (map_of.entries table)

-- the changes of a tick: routes that time out are withdrawn
abbrev pub changes_of_ageing : ℕ → Table → List RouteChange
changes_of_ageing now table = filter_map (λ t. change t.0 (Some t.1) (aged now t.1)) (map_of.entries table)

-- the change that the entry at a place of a Response makes
abbrev pub change_at : Hearing → ℕ → Rte → Option RouteChange
change_at h place e =
    if is_offer e then change (prefix_named e) (route_after h place (prefix_named e)) (route_after h (place + 1) (prefix_named e)) else None

-- the changes of a Response, in the order of its entries
abbrev pub changes_of_hearing : Hearing → List RouteChange
changes_of_hearing h = filter_map (λ t. change_at h t.0 t.1) (enumerate_from 0 h.entries)
