use Rattle.route_table.proofs.SortedStore.{updated, table_updated}
use Rattle.route_table.proofs.sorted.SortedRoutesRouteStore.update.Goals as goal

pub invariant_of-self : goal.invariant_of-self
invariant_of-self g c =
    let n = c.self.inside in
    updated n.count n.bound n.blocks.items c.self.invariant c.args.self.now c.self.view_is c.update.new.blocks.items c.update.ensures.filled c.update.new.bound c.args.prefix.now _ c.update.result c.update.ensures.updates c.update.ensures.covered

pub returns : goal.returns
returns g c =
    let n = c.self.inside in
    table_updated n.count n.bound n.blocks.items c.self.invariant c.args.self.now c.self.view_is c.update.new.blocks.items c.update.ensures.filled c.update.new.bound c.args.prefix.now _ c.update.result c.update.ensures.updates
