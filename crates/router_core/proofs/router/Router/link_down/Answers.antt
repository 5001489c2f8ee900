use Rattle.std.proofs.Common.{ap, ◌∙◌}
use Rattle.router_core.specs.declared.answer.Answer.{Answer}
use Rattle.router_core.proofs.RouterSteps.{lost_on_replays}
use Rattle.router_core.proofs.router.Router.link_down.Goals as goal

pub returns-clause-replays : goal.returns-clause-replays
returns-clause-replays g c =
    rw (← c.self.view_is)
    (lost_on_replays c.args.iface c.effective-now.result (g.S.RouteStore.table c.self.inside.store) (g.S.RouteStore.table c.lose_all_on.new.store) c.answer_of.result.changes
    c.lose_all_on.ensures (ap (λ (a : Answer). a.changes) c.answer_of.ensures ∙ c.in_ok-changes.ensures))
