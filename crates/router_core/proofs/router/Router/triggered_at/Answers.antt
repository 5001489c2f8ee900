use Rattle.std.proofs.Common.{ap, sym, cond, ◌∙◌, Some, None}
use Rattle.std.specs.Prelude.{is_some}
use Rattle.router_core.proofs.Waking.{triggered_found}
use Rattle.router_core.proofs.router.Router.triggered_at.Goals as goal

pub returns-in-None : goal.returns-in-None
returns-in-None g c =
    rw (← c.self.view_is)
    (ap (λ o. cond (is_some o) (Some c.self.inside.hold) None) (sym c.in-None.is) ∙ triggered_found (record { config = c.self.inside.config; table = g.S.RouteStore.table c.self.inside.store; last = c.self.inside.last; regular = c.self.inside.regular; hold = c.self.inside.hold }) c.walk_changed.result c.walk_changed.ensures)

pub returns-in-Some : goal.returns-in-Some
returns-in-Some g c =
    rw (← c.self.view_is)
    (ap (λ o. cond (is_some o) (Some c.self.inside.hold) None) (sym c.in-Some.is) ∙ triggered_found (record { config = c.self.inside.config; table = g.S.RouteStore.table c.self.inside.store; last = c.self.inside.last; regular = c.self.inside.regular; hold = c.self.inside.hold }) c.walk_changed.result c.walk_changed.ensures)
