use Rattle.std.proofs.Common.{◌≡◌, false, ap, sym, subst, ◌∙◌}
use Rattle.std.specs.Prelude.{is_some}
use Rattle.std.specs.FinMap.{entries}
use Rattle.route_table.specs.Due.{is_reached, least_deadline}
use Rattle.router_core.proofs.Waking.{none_found}
use Rattle.router_core.proofs.router.Router.ages_by.Goals as goal

pub returns-in-None : goal.returns-in-None
returns-in-None g c = λ late. absurd (cc)

pub returns-in-Some : goal.returns-in-Some
returns-in-Some g c =
    let table = g.S.RouteStore.table c.self.inside.store in
    rw (← c.self.view_is)
    (λ none. subst (λ n. is_reached n (least_deadline (entries table)) ≡ false) (c.in-Some.ensures.1 ∙ c.ms.ensures.value)
    (none_found c.in-Some.by (entries table) (ap is_some (sym c.walk_due.ensures) ∙ sym c.is_some.ensures ∙ none)))
