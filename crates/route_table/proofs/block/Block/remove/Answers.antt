use Rattle.std.proofs.Common.{sym, subst, ◌∙◌}
use Rattle.route_table.specs.Blocks.{Covers}
use Rattle.route_table.proofs.BlockBounds.{covers_remove}
use Rattle.route_table.proofs.BlockEdits.{removed_block, removed_is}
use Rattle.route_table.proofs.block.Block.remove.Goals as goal

pub bound_of-self-inside-requires : goal.bound_of-self-inside-requires
bound_of-self-inside-requires c = subst (Covers c.self.inside.bound) (sym (c.deref-2.ensures.value ∙ c.remove.ensures.items)) (covers_remove c.self.inside.bound c.self.inside.routes.items c.args.at c.self.invariant.covered)

pub invariant_of-self : goal.invariant_of-self
invariant_of-self c =
    let a = rw (← c.self.view_is) at c.requires in
    removed_block c.self.inside.first c.self.inside.bound c.self.inside.routes.items c.self.invariant c.args.prefix.now c.args.at c.remove.new.self.items c.first_of-self-inside.result c.bound_of-self-inside.result a c.remove.ensures.items
    (rw c.deref.ensures.value at c.first_of-self-inside.ensures) (rw c.deref-2.ensures.value at c.bound_of-self-inside.ensures)

pub returns : goal.returns
returns c =
    let a = rw (← c.self.view_is) at c.requires in
    rw (← c.self.view_is) (removed_is c.self.inside.first c.self.inside.bound c.self.inside.routes.items c.self.invariant c.args.prefix.now c.args.at c.remove.new.self.items a c.remove.ensures.items)
