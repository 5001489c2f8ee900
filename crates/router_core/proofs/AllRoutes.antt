-- Walks over all routes.
use Rattle.std.proofs.Common.{◌≡◌, Bool, true, false, Option}
use Rattle.route_table.specs.Route.{RouteValue}
use Rattle.route_table.proofs.WalksWhere.{Leaves}

-- every route passes
abbrev pub any_route : RouteValue → Bool
any_route r = true

pub none_left : (f : RouteValue → Option RouteValue) → Leaves any_route f
none_left f r fails = absurd (true_false fails)
  where
    true_false : true ≡ false → ⊥
    true_false e = cc
