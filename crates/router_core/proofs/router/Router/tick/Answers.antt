use Rattle.std.proofs.Common.{rules, List, ap, subst, ◌∙◌}
use Rattle.router_core.specs.Machine.{tick_messages}
use Rattle.router_core.specs.Output.{Message, AreSpelled}
use Rattle.router_core.specs.Updates.{update_of}
use Rattle.router_core.specs.declared.answer.Answer.{Answer}
use Rattle.router_core.proofs.RouterSteps.{update_of-due, ticked_replays}
use Rattle.router_core.proofs.router.Router.tick.Goals as goal

pub returns-clause-moves : goal.returns-clause-moves
returns-clause-moves g c =
    let same = ap (update_of c.args.self.now c.effective-now.result) c.update_due-due.ensures ∙ update_of-due c.args.self.now c.effective-now.result in
    let sent : AreSpelled (tick_messages c.args.self.now c.effective-now.result) c.in_ok-sends.sends.items =
    subst (λ (ms : List Message). AreSpelled ms c.in_ok-sends.sends.items) same c.in_ok-sends.ensures.spelled in
    search rules

pub returns-in_err-sends-clause-idle_is_free : goal.returns-in_err-sends-clause-idle_is_free
returns-in_err-sends-clause-idle_is_free g c =
    let same = ap (update_of c.args.self.now c.effective-now.result) c.update_due-due.ensures ∙ update_of-due c.args.self.now c.effective-now.result
    ∙ ap (tick_messages c.args.self.now) c.effective-now.ensures in
    λ silent none. let free = c.in_err-sends.ensures.silent_is_free (same ∙ silent) in absurd (cc)

pub returns-clause-replays : goal.returns-clause-replays
returns-clause-replays g c =
    rw (← c.self.view_is)
    (ticked_replays c.effective-now.result c.is_some.result (g.S.RouteStore.table c.self.inside.store) (g.S.RouteStore.table c.settle_all.new.store) c.answer_of.result.changes
    c.settle_all.ensures (ap (λ (a : Answer). a.changes) c.answer_of.ensures ∙ c.in_ok-changes.ensures.listed))
