use Rattle.std.proofs.Common.{length, ap, arith, length-drop}
use Rattle.route_table.specs.Blocks.{half_block}
use Rattle.route_table.proofs.BlockEdits.{lower_block, upper_block}
use Rattle.route_table.proofs.block.Block.split.Goals as goal

pub invariant_of-result : goal.invariant_of-result
invariant_of-result c = upper_block c.self.inside.first c.self.inside.bound c.self.inside.routes.items c.self.invariant half_block c.in_ok-routes.routes.items c.first_of-first.result c.sum_up-bound.result c.in_ok-routes.ensures.tail
    (rw c.deref.ensures.value at c.first_of-first.ensures) (rw c.deref-2.ensures.value at c.sum_up-bound.ensures)

pub invariant_of-self-2 : goal.invariant_of-self-2
invariant_of-self-2 c = lower_block c.self.inside.first c.self.inside.bound c.self.inside.routes.items c.self.invariant half_block c.split_off.new.self.items c.sum_up-self-inside.result c.in_ok-routes.ensures.items
    (rw c.deref-3.ensures.value at c.sum_up-self-inside.ensures)

pub returns-clause-room : goal.returns-clause-room
returns-clause-room c = omega (arith, ap length c.in_ok-routes.ensures.tail, length-drop half_block c.self.inside.routes.items, c.self.invariant.few)
