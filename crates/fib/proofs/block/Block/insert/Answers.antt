use Rattle.fib.proofs.BlockEdits.{inserted_is, inserted_block}
use Rattle.fib.proofs.block.Block.insert.Goals as goal

pub invariant_of-self-2 : goal.invariant_of-self-2
invariant_of-self-2 c =
    let gap = rw (← c.self.view_is) at c.requires in
    inserted_block c.self.inside.first c.self.inside.entries.items c.self.invariant c.args.entry c.args.at gap c.insert.new.self.items c.in_ok-insert.ensures.items c.first_of-self-inside.result (rw c.deref.ensures.value at c.first_of-self-inside.ensures)

pub returns-clause-ok : goal.returns-clause-ok
returns-clause-ok c =
    let gap = rw (← c.self.view_is) at c.requires in
    rw (← c.self.view_is) (inserted_is c.self.inside.first c.self.inside.entries.items c.self.invariant c.args.entry c.args.at gap c.insert.new.self.items c.in_ok-insert.ensures.items)
