use Rattle.std.proofs.Common.{sym, ◌∙◌}
use Rattle.fib.specs.declared.change.Hop.TheVariants.{Direct}
use Rattle.fib.specs.Blocks.{joined}
use Rattle.fib.proofs.BlockChanges.{placed_some, none_vacant}
use Rattle.fib.proofs.Tables.{some_left, removed, table_without, get_is, not_there}
use Rattle.fib.proofs.fib.Fib.remove.Goals as goal

pub overflow_sub-self : goal.overflow_sub-self
overflow_sub-self c =
    let placed = rw c.deref.ensures.value at c.in-Ok.ensures.found in
    some_left c.self.inside.count c.self.inside.blocks.items c.self.invariant c.remove.new.blocks.items c.remove.ensures.filled c.args.prefix.now _ (placed_some c.self.inside.blocks.items c.self.invariant.blocks c.args.prefix.now c.in-Ok.place (c.args.prefix.now, record { hop = Direct; metric = 0 }) placed)

pub invariant_of-self : goal.invariant_of-self
invariant_of-self c =
    let placed = rw c.deref.ensures.value at c.in-Ok.ensures.found in
    removed c.self.inside.count c.self.inside.blocks.items c.self.invariant c.remove.new.blocks.items c.remove.ensures.filled c.args.prefix.now _ (placed_some c.self.inside.blocks.items c.self.invariant.blocks c.args.prefix.now c.in-Ok.place (c.args.prefix.now, record { hop = Direct; metric = 0 }) placed) c.remove.ensures.left

pub returns-in-Ok : goal.returns-in-Ok
returns-in-Ok c = table_without (joined c.self.inside.blocks.items) c.self.invariant.blocks.sorted c.args.self.now c.self.view_is c.args.prefix.now (joined c.remove.new.blocks.items) (sym c.remove.ensures.left)

pub returns-in_default : goal.returns-in_default
returns-in_default c =
    let vacant = rw c.deref.ensures.value at c.in_default.ensures.absent in
    not_there c.args.self.now c.args.prefix.now (get_is (joined c.self.inside.blocks.items) c.self.invariant.blocks.sorted c.args.self.now c.self.view_is c.args.prefix.now ∙ none_vacant c.self.inside.blocks.items c.args.prefix.now c.in_default.field-0 vacant)
