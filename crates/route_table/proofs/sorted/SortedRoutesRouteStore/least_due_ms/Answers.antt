use Rattle.std.proofs.Common.{sym, ap, ◌∙◌}
use Rattle.route_table.specs.Due.{least_deadline}
use Rattle.route_table.specs.Blocks.{joined}
use Rattle.route_table.proofs.SortedTable.{entries_are}
use Rattle.route_table.proofs.sorted.SortedRoutesRouteStore.least_due_ms.Goals as goal

pub returns : goal.returns
returns c = c.due_ms.ensures ∙ ap (λ l. least_deadline (joined l)) c.deref.ensures.value ∙ ap least_deadline (sym (entries_are (joined c.self.inside.blocks.items) c.self.invariant.blocks.sorted c.args.self.now c.self.view_is))
