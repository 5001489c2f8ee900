use Rattle.std.proofs.Common.{sym, ◌∙◌}
use Rattle.route_table.proofs.NextDue.{next_is, has_deadline}
use Rattle.route_table.proofs.store.RouteStore.next_due.Goals as goal

pub returns-in_err-until : goal.returns-in_err-until
returns-in_err-until g c =
    let table = g.Self.RouteStore.table c.args.self.now in
    absurd (has_deadline table c.in_ok-least.least (sym c.least_due_ms.ensures ∙ c.in_ok-least.was) c.in_ok-entry.entry (sym c.first_wanted.ensures ∙ c.in_ok-entry.was) (sym c.deadline.ensures ∙ c.in_err-until.was))

pub returns : goal.returns
returns g c =
    let table = g.Self.RouteStore.table c.args.self.now in
    next_is table c.in_ok-least.least (sym c.least_due_ms.ensures ∙ c.in_ok-least.was) c.in_ok-entry.entry c.in_ok-until.until (sym c.first_wanted.ensures ∙ c.in_ok-entry.was) (sym c.deadline.ensures ∙ c.in_ok-until.was)
