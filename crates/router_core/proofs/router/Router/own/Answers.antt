use Rattle.std.proofs.Common.{◌≡◌, None, ap, ap₂, subst, sym, ◌∙◌}
use Rattle.route_table.specs.Table.{Table}
use Rattle.router_core.specs.Config.{Config}
use Rattle.router_core.specs.Machine.{State}
use Rattle.router_core.specs.Reconfiguring.{reconfigure_fault, reconfigured_config}
use Rattle.router_core.specs.declared.reconfiguring.Change.TheVariants.{Own, Disown}
use Rattle.router_core.proofs.ConfigChanges.{undone_config}
use Rattle.router_core.proofs.router.Router.own.Goals as goal

-- what was owned is given up again
pub returns-in-Err-clause-err : goal.returns-in-Err-clause-err
returns-in-Err-clause-err g c =
    let table = g.S.RouteStore.table c.self.inside.store in
    let p = c.args.prefix in
    let tag = c.args.tag in
    let allowed = subst (λ (s : State). reconfigure_fault s.config s.table (Own p tag) ≡ None) (sym c.self.view_is) c.requires.allowed in
    let with_both : Config → Table → State = λ config t. record { config = config; table = t; last = c.self.inside.last; regular = c.self.inside.regular; hold = c.self.inside.hold } in
    ap₂ with_both
    (c.disown.ensures ∙ ap (λ config. reconfigured_config config (Disown p)) c.in_ok-own.ensures.done ∙ undone_config c.self.inside.config table p tag allowed)
    c.in-Err.ensures.kept
    ∙ c.self.view_is
