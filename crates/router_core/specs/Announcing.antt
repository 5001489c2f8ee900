-- What an interface announces: which prefixes, and whether it sends of its own accord at all. RFC 2080 knows neither; both are this
-- project's choice.
use Rattle.std.specs.Prelude.{ℕ, ◌==◌, ◌||◌, Bool, List, filter}
use Rattle.std.specs.List.{list_any}
use Rattle.std.specs.FinMap as map_of
use Rattle.prefix6.specs.Prefix.{Prefix6}
use Rattle.route_table.specs.Route.{RouteValue}
use Rattle.route_table.specs.Table.{Table}
use Rattle.router_core.specs.Config.{Config}
use Rattle.router_core.specs.Lists.{lets_through}

-- whether an interface is passive: each is where the router is quiet
abbrev pub is_passive : Config → ℕ → Bool
is_passive config iface = config.quiet || list_any (λ n. n == iface) config.passive

-- whether an interface announces routes to a prefix: its filters of what goes out let it through
abbrev pub is_announced : Config → ℕ → Prefix6 → Bool
is_announced config iface p = lets_through config.announcements iface p

-- what an interface announces of some routes
abbrev pub announced_of : Config → ℕ → List (Prefix6 × RouteValue) → List (Prefix6 × RouteValue)
announced_of config iface routes = filter (λ t. is_announced config iface t.0) routes

-- what an interface announces of a table
abbrev pub announced : Config → ℕ → Table → Table
announced config iface table = map_of.retain_keys table (is_announced config iface)
