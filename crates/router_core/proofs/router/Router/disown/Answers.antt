use Rattle.std.proofs.Common.{ap₂, sym, ◌∙◌}
use Rattle.route_table.specs.Table.{Table}
use Rattle.router_core.specs.Config.{Config}
use Rattle.router_core.specs.Machine.{State}
use Rattle.router_core.proofs.ConfigChanges.{none_given_up}
use Rattle.router_core.proofs.router.Router.disown.Goals as goal

pub returns-in_default-clause-done : goal.returns-in_default-clause-done
returns-in_default-clause-done g c =
    let table = g.S.RouteStore.table c.self.inside.store in
    let none = sym c.get.ensures ∙ c.in_default.is in
    let with_both : Config → Table → State = λ config t. record { config = config; table = t; last = c.self.inside.last; regular = c.self.inside.regular; hold = c.self.inside.hold } in
    rw (← c.self.view_is) (ap₂ with_both c.disown.ensures (sym (none_given_up c.args.now table c.args.prefix none)))
