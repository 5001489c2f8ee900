use Rattle.std.proofs.Common.{None, sym, subst, ap, ap₂, ◌∙◌}
use Rattle.router_core.specs.Hearing.{hearing}
use Rattle.router_core.specs.Machine.{State, Hears, gateway_of}
use Rattle.router_core.specs.declared.answer.Answer.{Answer}
use Rattle.router_core.proofs.RouterSteps.{heard_response, heard_replays}
use Rattle.router_core.proofs.router.Router.hear.Goals as goal

pub returns-clause-hears : goal.returns-clause-hears
returns-clause-hears g c = λ spells.
    let inside = c.self.inside in
    let before : State = record { config = inside.config; table = g.S.RouteStore.table inside.store; last = inside.last; regular = inside.regular; hold = inside.hold } in
    let after : State = record before { table = g.S.RouteStore.table c.hear.new.store; last = c.args.now } in
    let answer = c.answer_of.ensures ∙ ap₂ (λ changes notes. record { fault = None; sends = c.new.result.items; changes = changes; notes = notes }) c.taken-changes.ensures c.taken-notes.ensures in
    subst (λ (old : State). Hears old c.args.now c.args.arrival.now c.answer_of.result after) c.self.view_is
    (heard_response before c.args.now c.args.arrival.now c.args.response.now.entries c.entries-entries.result c.gateway-gateway.result
    (g.S.RouteStore.table c.hear.new.store) c.new.result.items c.hear.new.changes.items c.hear.new.notes.items c.answer_of.result
    (c.gateway-gateway.ensures ∙ ap (λ (old : State). gateway_of old c.args.now c.args.arrival.now) (sym c.self.view_is))
    c.entries-entries.ensures.entries c.hear.ensures.heard c.hear.ensures.changed c.new.ensures.items answer spells)

pub returns-clause-replays : goal.returns-clause-replays
returns-clause-replays g c =
    let inside = c.self.inside in
    let changes = ap (λ (a : Answer). a.changes) c.answer_of.ensures ∙ c.taken-changes.ensures ∙ c.hear.ensures.changed in
    rw (← c.self.view_is)
    (heard_replays (hearing inside.config c.gateway-gateway.result c.entries-entries.result (g.S.RouteStore.table inside.store) c.hear.new.notes.items)
    (g.S.RouteStore.table c.hear.new.store) c.answer_of.result.changes c.hear.ensures.heard changes)
