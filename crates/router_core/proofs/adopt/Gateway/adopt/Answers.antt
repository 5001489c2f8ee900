use Rattle.std.proofs.Common.{◌+◌, ◌∙◌, ap}
use Rattle.route_table.specs.Route.{RouteValue}
use Rattle.route_table.specs.declared.route.Clock.TheVariants.{Live}
use Rattle.router_core.specs.Adoption.{Gateway}
use Rattle.router_core.specs.Timers.{timeout}
use Rattle.router_core.proofs.Renewing.{renewed_is}
use Rattle.router_core.proofs.adopt.Gateway.adopt.Goals as goal

pub returns-then-is_renewal-clause-route : goal.returns-then-is_renewal-clause-route
returns-then-is_renewal-clause-route c =
    let r : RouteValue = c.args.route.now in
    c.renewed.ensures ∙ ap (λ u. record r { clock = Live u }) (c.later.ensures.sum ∙ ap (λ (g : Gateway). g.moment + timeout) c.self.view_is)
    ∙ renewed_is c.args.self.now c.args.offer.now r c.is_renewal.ensures.lawful (c.is_renewal.ensures.usable c.if-is_renewal.true) (c.is_renewal.ensures.same c.if-is_renewal.true)
