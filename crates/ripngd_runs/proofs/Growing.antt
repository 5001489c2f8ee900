-- What was in force since the first starts stays so, whatever was changed later.
use Rattle.std.proofs.Common.{inl, inr, ℕ, List, [], ◌∷◌, ◌++◌}
use Rattle.prefix6.specs.Prefix.{Prefix6}
use Rattle.route_table.specs.Route.{RouteValue}
use Rattle.router_core.specs.declared.reconfiguring.Change.{Change}
use Rattle.ripng_world.specs.Network.{Network}
use Rattle.ripng_world.specs.Past.{CostsSince, HasCostSince, IsBackedSince, OwnsSince, WasDone}
use Rattle.ripng_world.specs.Walks.{Hop}
use Rattle.ripng_world.proofs.Members.{get_left}

module _ (net : Network) (changes later : List (ℕ × Change)) where
  was_done : (router : ℕ) (c : Change) → WasDone (record { net = net; reconfigurations = changes }) router c → WasDone (record { net = net; reconfigurations = changes ++ later }) router c
  was_done router c was = (was.0, get_left changes later was.0 (router, c) was.1)

  had_cost : (router iface cost : ℕ) → HasCostSince (record { net = net; reconfigurations = changes }) router iface cost
      → HasCostSince (record { net = net; reconfigurations = changes ++ later }) router iface cost
  had_cost router iface cost (inl is) = inl is
  had_cost router iface cost (inr was) = inr (was.0, get_left changes later was.0 _ was.1)

  owned : (router : ℕ) (p : Prefix6) (tag : ℕ) → OwnsSince (record { net = net; reconfigurations = changes }) router p tag
      → OwnsSince (record { net = net; reconfigurations = changes ++ later }) router p tag
  owned router p tag (inl is) = inl is
  owned router p tag (inr was) = inr (was.0, get_left changes later was.0 _ was.1)

  costs : (at : ℕ) (walk : List Hop) (metric : ℕ) → CostsSince (record { net = net; reconfigurations = changes }) at walk metric
      → CostsSince (record { net = net; reconfigurations = changes ++ later }) at walk metric
  costs at [] metric is = is
  costs at (h ∷ walk) metric is = (is.0, is.1, had_cost at h.iface is.0 is.2, costs h.router walk is.1 is.3, is.4)

  pub backed_later : (router : ℕ) (p : Prefix6) (r : RouteValue) → IsBackedSince (record { net = net; reconfigurations = changes }) router p r
      → IsBackedSince (record { net = net; reconfigurations = changes ++ later }) router p r
  backed_later router p r backed = (
    backed.0,
    record { is_walk = backed.1.is_walk; costs = costs router backed.0 r.metric backed.1.costs; owner = owned _ p r.tag backed.1.owner },
    backed.2,
  )
