-- What holds between rounds: each live route was set by what its gateway told in the round before, or is one of before the first
-- round, and those run out.
use Rattle.std.proofs.Common.{◌≡◌, ◌≢◌, ◌⊎◌, ℕ, ◌+◌, ◌*◌, max, ◌≤◌, List, Some, option_map, slice_get}
use Rattle.std.specs.Prelude.{⊤}
use Rattle.std.specs.FinMap as map_of
use Rattle.prefix6.specs.Prefix.{Prefix6}
use Rattle.route_table.specs.Route.{RouteValue}
use Rattle.route_table.specs.declared.route.Origin.TheVariants.{Own, Learned}
use Rattle.route_table.specs.declared.route.Clock.{Clock}
use Rattle.route_table.specs.declared.route.Clock.TheVariants.{Fixed, Live, Dying}
use Rattle.router_core.specs.Timers.{timeout, garbage_time}
use Rattle.router_core.specs.Machine.{State}
use Rattle.ripng_world.specs.Network.{Network, Node, AreLinked, Owns, config_of, interface_at}
use Rattle.ripng_world.specs.Walks.{Hop, Reaches, cost_of_interface}
use Rattle.ripng_world.specs.World.{World}
use Rattle.ripng_world.proofs.Improving.{RouteAt}
use Rattle.ripng_world.proofs.HealPlain.{IsPlainRow}

-- the gateway told the bound or more, or there is a walk from it that is no dearer
abbrev pub IsAboveBy : Network → ℕ → ℕ → Prefix6 → ℕ → ℕ → ℕ → Type 0
IsAboveBy net m router p iface sender metric =
    (m ≤ metric) ⊎ ((x : ℕ) × (tag : ℕ) × (walk : List Hop) × Reaches net sender p x tag walk × (cost_of_interface net router iface + x ≤ metric))

-- the route will be told at the next tick, live or dying
abbrev pub IsLasting : (ℕ → ℕ → Type 0) → ℕ → Clock → Type 0
IsLasting recent router Fixed = ⊤
IsLasting recent router (Live until) = ⊤
IsLasting recent router (Dying until) = (e : ℕ) × recent router e × (e + garbage_time ≤ until)

-- the route was set in the last round, by a gateway that still has one to tell
pub record IsFresh (net : Network) (w : World) (recent : ℕ → ℕ → Type 0) (m router : ℕ) (p : Prefix6) (metric iface from until : ℕ) : Type 0 where
  pub sender : ℕ
  pub sender_iface : ℕ
  pub linked : AreLinked net router iface sender sender_iface
  pub apart : router ≢ sender
  pub from_is : option_map (λ i. i.interface.addr) (interface_at net sender sender_iface) ≡ Some from
  pub gateway : RouteValue
  pub at : RouteAt w sender p gateway
  pub lasting : IsLasting recent sender gateway.clock
  pub above : IsAboveBy net m router p iface sender metric
  pub since : ℕ
  pub since_is : recent router since
  pub timely : since + timeout ≤ until

-- the route is one of before the rounds, and runs out with that many rounds left
pub record IsStale (left limit until metric : ℕ) : Type 0 where
  pub some : 1 ≤ left
  pub soon : until + 15_000 ≤ limit + 15_000 * left
  pub two : 2 ≤ metric

abbrev pub IsSteadyBy : Network → World → (ℕ → ℕ → Type 0) → ℕ → ℕ → ℕ → ℕ → Prefix6 → RouteValue → Clock → Type 0
IsSteadyBy net w recent left m router limit p r Fixed = (r.origin ≡ Own) × ((tag : ℕ) × Owns net router p tag)
IsSteadyBy net w recent left m router limit p r (Dying until) = ⊤
IsSteadyBy net w recent left m router limit p r (Live until) =
    (iface : ℕ) × (from : ℕ) × (next_hop : ℕ) × (r.origin ≡ Learned iface from next_hop)
    × (IsStale left limit until r.metric ⊎ IsFresh net w recent m router p r.metric iface from until)

pub record IsSteadyState (net : Network) (known : Prefix6 → Type 0) (w : World) (recent : ℕ → ℕ → Type 0) (left m router : ℕ) (s : State) : Type 0 where
  pub node : Node
  pub node_is : slice_get net router ≡ Some node
  pub config_is : s.config ≡ config_of node
  pub plain : (p : Prefix6) (r : RouteValue) → map_of.get s.table p ≡ Some r → IsPlainRow known p r
  pub steady : (p : Prefix6) (r : RouteValue) → map_of.get s.table p ≡ Some r → IsSteadyBy net w recent left m router (max s.last s.regular) p r r.clock
  pub owned : (p : Prefix6) (tag : ℕ) → Owns net router p tag → (r : RouteValue) × (map_of.get s.table p ≡ Some r) × (r.clock ≡ Fixed)

-- between rounds, with so many rounds left in which routes of before may be held; what was told last is the bound or more, or backed
pub record IsSteady (net : Network) (known : Prefix6 → Type 0) (w : World) (recent : ℕ → ℕ → Type 0) (left m : ℕ) : Type 0 where
  pub states : (router : ℕ) (s : State) → slice_get w.states router ≡ Some s → IsSteadyState net known w recent left m router s
  pub everyone : (router : ℕ) (node : Node) → slice_get net router ≡ Some node → (s : State) × (slice_get w.states router ≡ Some s)

-- the effective moments of the ticks
abbrev pub IsTickMoment : World → ℕ → ℕ → Type 0
IsTickMoment mid router e = (t : State) × (slice_get mid.states router ≡ Some t) × (e ≡ t.last)
