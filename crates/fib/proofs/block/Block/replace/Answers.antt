use Rattle.std.proofs.Common.{refl}
use Rattle.fib.proofs.BlockEdits.{replaced_is, replaced_block}
use Rattle.fib.proofs.block.Block.replace.Goals as goal

pub invariant_of-self : goal.invariant_of-self
invariant_of-self c =
    let a = rw (← c.self.view_is) at c.requires in
    replaced_block c.self.inside.first c.self.inside.entries.items c.self.invariant c.args.entry c.args.at a _ refl

pub returns-clause-now : goal.returns-clause-now
returns-clause-now c =
    let a = rw (← c.self.view_is) at c.requires in
    rw (← c.self.view_is) (replaced_is c.self.inside.first c.self.inside.entries.items c.self.invariant c.args.entry c.args.at a _ refl)
