use Rattle.std.proofs.Common.{sym, ◌∙◌, ap, Some}
use Rattle.prefix6.proofs.SortedEntries.{find_at, find_gap}
use Rattle.route_table.proofs.TrieLists.{Entry}
use Rattle.route_table.proofs.block.Block.get.Goals as goal

pub returns-in-Ok : goal.returns-in-Ok
returns-in-Ok c =
    let found = rw c.deref.ensures.value at c.in-Ok.ensures.found in
    let items = c.self.inside.routes.items in
    rw (← c.self.view_is) (ap (λ (e : Entry). Some e.1) c.index.ensures ∙ sym (find_at items c.args.prefix.now c.in-Ok.at c.index.result.now c.self.invariant.sorted found))

pub returns-in-Err : goal.returns-in-Err
returns-in-Err c =
    let absent = rw c.deref.ensures.value at c.in-Err.ensures.absent in
    rw (← c.self.view_is) (sym (find_gap c.self.inside.routes.items c.args.prefix.now c.in-Err.field-0 absent))
