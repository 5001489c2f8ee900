-- Owned prefixes: the local route to each, and that a router keeps it.
use Rattle.std.specs.Prelude.{◌≡◌, ℕ, false, List, [], ◌∷◌, Some, ⊤}
use Rattle.std.specs.List.{AllByRecursion}
use Rattle.std.specs.FinMap as map_of
use Rattle.prefix6.specs.Prefix.{Prefix6, same_prefix}
use Rattle.route_table.specs.Route.{RouteValue}
use Rattle.route_table.specs.Table.{Table}
use Rattle.route_table.specs.declared.route.Origin.TheVariants.{Own}
use Rattle.route_table.specs.declared.route.Clock.TheVariants.{Fixed}
use Rattle.router_core.specs.Config.{Config}

-- the local route to an owned prefix: it has no timer, and no offer replaces it
abbrev pub owned_route : ℕ → RouteValue
owned_route tag = record { metric = 1; tag = tag; origin = Own; clock = Fixed; changed = false }

-- the local route with a tag, its route change flag set or not
pub record IsOwnRoute (tag : ℕ) (r : RouteValue) : Type 0 where
  pub tag_is : r.tag ≡ tag
  pub metric : r.metric ≡ 1
  pub origin : r.origin ≡ Own
  pub clock : r.clock ≡ Fixed

-- the table has the local route of an owned prefix
abbrev pub HasOwnRoute : Table → Prefix6 × ℕ → Type 0
HasOwnRoute table t = (r : RouteValue) × (map_of.get table t.0 ≡ Some r) × IsOwnRoute t.1 r

-- no prefix is owned twice
abbrev pub OwnsOnce : List (Prefix6 × ℕ) → Type 0
OwnsOnce [] = ⊤
OwnsOnce (t ∷ ts) = AllByRecursion (λ u. same_prefix t.0 u.0 ≡ false) ts × OwnsOnce ts

-- each prefix is owned once, and has its local route
pub record HoldsOwned (config : Config) (table : Table) : Type 0 where
  pub once : OwnsOnce config.prefixes
  pub held : AllByRecursion (HasOwnRoute table) config.prefixes
