-- Routes and states before and after a tick, as any world may have them.
use Rattle.std.proofs.Common.{◌≡◌, ℕ, ◌+◌, max, ◌<◌, ◌≤◌, cond, List, option_and_then}
use Rattle.std.specs.FinMap as map_of
use Rattle.prefix6.specs.Prefix.{Prefix6}
use Rattle.ripng_wire.specs.declared.rte.Rte.{Rte}
use Rattle.ripng_wire.specs.declared.rte.Command.TheVariants.{Response}
use Rattle.ripng_wire.specs.Layout.{Spells}
use Rattle.route_table.specs.Route.{RouteValue, infinity}
use Rattle.route_table.specs.declared.route.Clock.{Clock}
use Rattle.route_table.specs.declared.route.Clock.TheVariants.{Fixed, Live, Dying}
use Rattle.router_core.specs.Offers.{prefix_named}
use Rattle.router_core.specs.Ageing.{aged, without_mark}
use Rattle.router_core.specs.Output.{is_learned_on}
use Rattle.router_core.specs.Machine.{State}
use Rattle.ripng_world.specs.declared.event.Sent.{Sent}
use Rattle.ripng_world.proofs.Members.{At}

-- a metric goes with its clock
abbrev pub IsClocked : ℕ → Clock → Type 0
IsClocked metric Fixed = metric ≡ 1
IsClocked metric (Live until) = metric < infinity
IsClocked metric (Dying until) = metric ≡ infinity

-- a route of a prefix that is spoken of, with a metric in range that goes with its clock
pub record IsPlainRow (known : Prefix6 → Type 0) (p : Prefix6) (r : RouteValue) : Type 0 where
  pub is_known : known p
  pub positive : 1 ≤ r.metric
  pub in_range : r.metric ≤ infinity
  pub clocked : IsClocked r.metric r.clock

-- the state after the tick of a regular update that is due
pub record IsTicked (s t : State) (now : ℕ) : Type 0 where
  pub last : t.last ≡ max s.last now
  pub due : s.regular ≤ t.last
  pub regular : t.last + 15_000 ≤ t.regular
  pub config : t.config ≡ s.config
  pub table : (p : Prefix6) → map_of.get t.table p ≡ option_and_then without_mark (option_and_then (aged t.last) (map_of.get s.table p))

-- a datagram of the router, on the interface, that tells the route
pub record Tells (new : List Sent) (router iface : ℕ) (p : Prefix6) (r : RouteValue) : Type 0 where
  pub sent : Sent
  pub stands : At new sent
  pub by_router : sent.router ≡ router
  pub on_iface : sent.iface ≡ iface
  pub entries : List Rte
  pub spelled : Spells Response entries sent.bytes
  pub entry : Rte
  pub in_entries : At entries entry
  pub names : prefix_named entry ≡ p
  pub metric : entry.metric ≡ cond (is_learned_on iface r.origin) infinity r.metric
