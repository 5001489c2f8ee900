use Rattle.route_table.proofs.TrieTable.{updated, table_updated}
use Rattle.route_table.proofs.SortedTable.{get_is}
use Rattle.std.proofs.Common.{sym, ◌∙◌}
use Rattle.route_table.specs.Trie.{linked}
use Rattle.route_table.proofs.trie_routes.TrieRoutes.make.Goals as goal

pub invariant_of-self : goal.invariant_of-self
invariant_of-self g c =
    let n = c.self.inside in
    updated n.count n.root c.self.invariant c.args.self.now c.self.view_is c.args.prefix.now c.update.new.node c.update.ensures.some c.update.new.made c.update.ensures.before c.update.ensures.after

pub returns-clause-before : goal.returns-clause-before
returns-clause-before g c =
    let n = c.self.inside in
    c.update.ensures.before ∙ sym (get_is (linked n.root) c.self.invariant.sorted c.args.self.now c.self.view_is c.args.prefix.now)

pub returns-clause-after : goal.returns-clause-after
returns-clause-after g c =
    let n = c.self.inside in
    table_updated n.count n.root c.self.invariant c.args.self.now c.self.view_is c.args.prefix.now c.update.new.node c.update.ensures.some c.update.new.made c.update.ensures.after
