use Rattle.fib.proofs.BlockEdits.{found_is}
use Rattle.fib.proofs.block.Block.get.Goals as goal

pub returns : goal.returns
returns c =
    let a = rw (← c.self.view_is) at c.requires in
    rw (← c.self.view_is) (found_is c.self.inside.first c.self.inside.entries.items c.self.invariant c.args.prefix.now c.args.at c.index.result.now a c.index.ensures)
