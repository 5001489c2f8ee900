-- Which routes an interface takes: its filters of what comes in, and its limit. RFC 2080 knows neither; both are this project's choice.
use Rattle.std.specs.Prelude.{ℕ, ◌==◌, ◌&&◌, not, nat_lt, nat_le, Bool, false, if◌then◌else◌, List, [], ◌∷◌, find, Option, unwrap_or, option_map}
use Rattle.prefix6.specs.Prefix.{Prefix6}
use Rattle.ripng_wire.specs.declared.rte.Rte.{Rte}
use Rattle.ripng_wire.specs.Wire.{first_reason}
use Rattle.route_table.specs.Route.{RouteValue, infinity}
use Rattle.router_core.specs.Config.{Config}
use Rattle.router_core.specs.Lists.{lets_through}
use Rattle.router_core.specs.Offers.{prefix_named}
use Rattle.router_core.specs.Output.{is_learned_on}
use Rattle.router_core.specs.declared.answer.NoteKind.{NoteKind}
use Rattle.router_core.specs.declared.answer.NoteKind.TheVariants.{NotAccepted, LimitReached}
use Rattle.router_core.specs.declared.filter.Limit.{Limit}

-- whether an interface takes routes to a prefix: its filters let it through
abbrev pub is_accepted : Config → ℕ → Prefix6 → Bool
is_accepted config iface p = lets_through config.filters iface p

-- the most routes by way of an interface, if it has a limit: the first that is given
abbrev pub limit_at : Config → ℕ → Option ℕ
limit_at config iface = option_map (λ l. l.routes) (find (λ l. l.iface == iface) config.limits)

-- whether as many routes as the limit allows are held by way of an interface
abbrev pub is_limit_reached : Option ℕ → ℕ → Bool
is_limit_reached limit held = unwrap_or (option_map (λ n. nat_le n held) limit) false

-- whether a route goes by way of an interface
abbrev pub is_by : ℕ → Option RouteValue → Bool
is_by iface old = unwrap_or (option_map (λ r. is_learned_on iface r.origin) old) false

-- the reasons to refuse an offer that comes to an interface. An offer of metric 16 withdraws, and no filter keeps it out. The limit
-- is asked of an offer that would bring one route more by way of the interface, where so many are held already
abbrev pub refusals : Config → ℕ → Rte → Bool → ℕ → List (Bool × NoteKind)
refusals config iface e brings held =
    (nat_lt e.metric infinity && not (is_accepted config iface (prefix_named e)), NotAccepted)
    ∷ (brings && is_limit_reached (limit_at config iface) held, LimitReached)
    ∷ []

-- the first reason to refuse the offer, if there is one
abbrev pub refusal : Config → ℕ → Rte → Bool → ℕ → Option NoteKind
refusal config iface e brings held = first_reason (refusals config iface e brings held)
