use Rattle.std.proofs.Common.{◌≡◌, None, sym, ap, ◌∙◌}
use Rattle.route_table.proofs.TableSteps.{with_value-same}
use Rattle.router_core.specs.Adoption.{adopted}
use Rattle.router_core.specs.Meeting.{meeting, met}
use Rattle.router_core.proofs.hear.meet_first.Goals as goal

pub returns-in_default-clause-table : goal.returns-in_default-clause-table
returns-in_default-clause-table g c =
    let m = meeting c.args.gateway.now c.args.offer.now c.args.prefix (g.S.RouteStore.table c.args.store.now) in
    let none : met m ≡ None = ap (λ old. adopted c.args.gateway.now old c.args.offer.now) c.requires.absent ∙ sym c.adopt_first.ensures ∙ c.in_default.is in
    sym (with_value-same m.table m.prefix (met m) (c.requires.absent ∙ sym none))
