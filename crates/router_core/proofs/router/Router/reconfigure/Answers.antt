use Rattle.std.proofs.Common.{ap, subst, sym, ◌∙◌, List}
use Rattle.fib.specs.Forwarding.{Replays}
use Rattle.fib.specs.declared.change.RouteChange.{RouteChange}
use Rattle.route_table.specs.Table.{Table}
use Rattle.router_core.specs.Changes.{forwards}
use Rattle.router_core.specs.Machine.{State}
use Rattle.router_core.specs.Reconfiguring.{changes_of_reconfiguring}
use Rattle.router_core.specs.declared.answer.Answer.{Answer}
use Rattle.router_core.proofs.MovesReplay.{change_replays}
use Rattle.router_core.proofs.router.Router.reconfigure.Goals as goal

pub returns-clause-replays : goal.returns-clause-replays
returns-clause-replays g c =
    let old = c.args.self.now in
    subst (λ (cs : List RouteChange). Replays (forwards old.table) cs (forwards (g.S.RouteStore.table c.self-2.inside.store)))
    (sym (ap (λ (a : Answer). a.changes) c.answer_of.ensures ∙ c.in_ok-changes.ensures.changes))
    (subst (λ (t : Table). Replays (forwards old.table) (changes_of_reconfiguring c.effective-now.result old.table c.args.change) (forwards t)) (sym (ap (λ (s : State). s.table) (c.self-2.view_is ∙ c.in_ok-changes.ensures.done)))
    (change_replays c.effective-now.result old.table c.args.change))
