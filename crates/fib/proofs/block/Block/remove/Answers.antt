use Rattle.fib.proofs.BlockEdits.{removed_is, removed_block}
use Rattle.fib.proofs.block.Block.remove.Goals as goal

pub invariant_of-self : goal.invariant_of-self
invariant_of-self c =
    let a = rw (← c.self.view_is) at c.requires in
    removed_block c.self.inside.first c.self.inside.entries.items c.self.invariant c.args.prefix.now c.args.at a c.remove.new.self.items c.remove.ensures.items c.first_of-self-inside.result (rw c.deref.ensures.value at c.first_of-self-inside.ensures)

pub returns : goal.returns
returns c =
    let a = rw (← c.self.view_is) at c.requires in
    rw (← c.self.view_is) (removed_is c.self.inside.first c.self.inside.entries.items c.self.invariant c.args.prefix.now c.args.at a c.remove.new.self.items c.remove.ensures.items)
