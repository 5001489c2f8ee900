use Rattle.std.proofs.Common.{sym}
use Rattle.route_table.specs.Blocks.{joined}
use Rattle.route_table.proofs.SortedTable.{table_unmarked}
use Rattle.route_table.proofs.SortedStore.{unmarked_store}
use Rattle.route_table.proofs.sorted.SortedRoutesRouteStore.unmark.Goals as goal

pub invariant_of-self : goal.invariant_of-self
invariant_of-self c =
    let n = c.self.inside in
    unmarked_store n.count n.bound n.blocks.items c.self.invariant c.args.self.now c.self.view_is c.unmark-self-inside.new.blocks.items c.unmark-self-inside.ensures.filled c.unmark-self-inside.result c.unmark-self-inside.ensures.unmarked
    c.unmark-self-inside.ensures.covered

pub returns : goal.returns
returns c = table_unmarked (joined c.self.inside.blocks.items) c.self.invariant.blocks.sorted c.args.self.now c.self.view_is (joined c.unmark-self-inside.new.blocks.items) (sym c.unmark-self-inside.ensures.unmarked)
