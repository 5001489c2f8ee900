use Rattle.std.proofs.Common.{sym, subst}
use Rattle.std.specs.Prelude.{IsSome}
use Rattle.route_table.specs.Blocks.{joined, Covers}
use Rattle.route_table.proofs.BlockBounds.{covers_without}
use Rattle.route_table.proofs.SortedTable.{get_is, table_without}
use Rattle.route_table.proofs.SortedStore.{some_left, removed}
use Rattle.route_table.proofs.sorted.SortedRoutesRouteStore.remove.Goals as goal

pub remove-requires-clause-present : goal.remove-requires-clause-present
remove-requires-clause-present c = subst IsSome (get_is (joined c.self.inside.blocks.items) c.self.invariant.blocks.sorted c.args.self.now c.self.view_is c.args.prefix.now) c.requires.present

pub overflow_sub-self : goal.overflow_sub-self
overflow_sub-self c =
    let n = c.self.inside in
    some_left n.count n.bound n.blocks.items c.self.invariant c.args.self.now c.self.view_is c.remove.new.blocks.items c.remove.ensures.filled n.bound c.args.prefix.now c.requires.present

pub invariant_of-self : goal.invariant_of-self
invariant_of-self c =
    let n = c.self.inside in
    removed n.count n.bound n.blocks.items c.self.invariant c.args.self.now c.self.view_is c.remove.new.blocks.items c.remove.ensures.filled n.bound c.args.prefix.now c.requires.present c.remove.ensures.kept
    (subst (Covers n.bound) (sym c.remove.ensures.kept) (covers_without n.bound c.args.prefix.now (joined n.blocks.items) c.self.invariant.covered))

pub returns : goal.returns
returns c = table_without (joined c.self.inside.blocks.items) c.self.invariant.blocks.sorted c.args.self.now c.self.view_is c.args.prefix.now (joined c.remove.new.blocks.items) (sym c.remove.ensures.kept)
