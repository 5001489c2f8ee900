-- Routes and their timers (RFC 2080, 2.2 and 2.3).
use Rattle.std.specs.Prelude.{◌≡◌, ℕ, ◌≤◌, ◌==◌, ◌&&◌, ◌||◌, Bool, true, false, Option, Some, None, IsTrue, if◌then◌else◌}
use Rattle.route_table.specs.declared.route.Origin.{Origin}
use Rattle.route_table.specs.declared.route.Origin.TheVariants.{Own, Learned}
use Rattle.route_table.specs.declared.route.Clock.{Clock}
use Rattle.route_table.specs.declared.route.Clock.TheVariants.{Fixed, Live, Dying}

-- a route as contracts see it
pub record RouteValue : Type 0 where
  pub metric : ℕ
  pub tag : ℕ
  pub origin : Origin
  pub clock : Clock
  pub changed : Bool

-- the metric that means unreachable (RFC 2080, 2.1)
abbrev pub infinity : ℕ
infinity = 16

-- the prefix is the router's own
abbrev pub is_own : Origin → Bool
is_own Own = true
is_own (Learned iface from next_hop) = false

-- the route has no timer: it is local and valid
abbrev pub is_fixed : Clock → Bool
is_fixed Fixed = true
is_fixed _ = false

-- the route is being garbage-collected (RFC 2080, 2.3)
abbrev pub is_dying : Clock → Bool
is_dying (Dying until) = true
is_dying _ = false

-- when the timer ends, if there is one
abbrev pub deadline_by_clock : Clock → Option ℕ
deadline_by_clock Fixed = None
deadline_by_clock (Live until) = Some until
deadline_by_clock (Dying until) = Some until

-- the deadline of a route's timer, if it has one (RFC 2080, 2.3)
abbrev pub deadline : RouteValue → Option ℕ
deadline r = deadline_by_clock r.clock

-- the clock of a route of this origin and metric
abbrev pub clock_of : Origin → ℕ → ℕ → Clock
clock_of Own metric until = if metric == infinity then Dying until else Fixed
clock_of (Learned iface from next_hop) metric until = if metric == infinity then Dying until else Live until

-- the deadline of a clock, or 0 if it has none
abbrev pub until_of : Clock → ℕ
until_of Fixed = 0
until_of (Live until) = until
until_of (Dying until) = until

-- a lawful route: its metric is 1 to 16, and 16 exactly while it is garbage-collected. It has no timer exactly if it is local
-- with metric 1, and a local one has no timer or is garbage-collected (RFC 2080, 2.3)
pub record IsRoute (r : RouteValue) : Type 0 where
  pub positive : 1 ≤ r.metric
  pub in_range : r.metric ≤ infinity
  pub dying : is_dying r.clock ≡ (r.metric == infinity)
  pub fixed : is_fixed r.clock ≡ (is_own r.origin && r.metric == 1)
  pub own : IsTrue (is_own r.origin) → IsTrue (is_fixed r.clock || is_dying r.clock)
