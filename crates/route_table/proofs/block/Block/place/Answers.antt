use Rattle.prefix6.proofs.SortedEntries.{find_gap}
use Rattle.route_table.proofs.block.Block.place.Goals as goal

pub returns-in-Err-clause-absent : goal.returns-in-Err-clause-absent
returns-in-Err-clause-absent c =
    let absent = rw c.deref.ensures.value at c.in-Err.ensures.absent in
    rw (← c.self.view_is) (λ _. find_gap c.self.inside.routes.items c.args.prefix.now c.in-Err.field-0 absent)
