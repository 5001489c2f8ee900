use Rattle.fib.specs.Blocks.{half_block}
use Rattle.fib.proofs.BlockEdits.{lower_is, lower_block, upper_is, upper_block}
use Rattle.fib.proofs.block.Block.split.Goals as goal

pub invariant_of-result : goal.invariant_of-result
invariant_of-result c = upper_block c.self.inside.first c.self.inside.entries.items c.self.invariant half_block c.in_ok-entries.entries.items c.first_of-first.result c.in_ok-entries.ensures.tail (rw c.deref.ensures.value at c.first_of-first.ensures)

pub invariant_of-self-2 : goal.invariant_of-self-2
invariant_of-self-2 c = lower_block c.self.inside.first c.self.inside.entries.items c.self.invariant half_block c.split_off.new.self.items c.in_ok-entries.ensures.items

pub returns-clause-ok : goal.returns-clause-ok
returns-clause-ok c = rw (← c.self.view_is) (lower_is c.self.inside.first c.self.inside.entries.items c.self.invariant half_block c.split_off.new.self.items c.in_ok-entries.ensures.items)

pub returns-clause-upper : goal.returns-clause-upper
returns-clause-upper c = rw (← c.self.view_is) (upper_is c.self.inside.first c.self.inside.entries.items c.self.invariant half_block c.in_ok-entries.entries.items c.in_ok-entries.ensures.tail)
