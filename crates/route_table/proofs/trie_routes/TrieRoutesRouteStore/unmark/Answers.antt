use Rattle.std.proofs.Common.{sym}
use Rattle.route_table.specs.Trie.{linked}
use Rattle.route_table.proofs.TrieTable.{unmarked_trie}
use Rattle.route_table.proofs.SortedTable.{table_unmarked}
use Rattle.route_table.proofs.trie_routes.TrieRoutesRouteStore.unmark.Goals as goal

pub invariant_of-self : goal.invariant_of-self
invariant_of-self c =
    let n = c.self.inside in
    unmarked_trie n.count n.root c.self.invariant c.args.self.now c.self.view_is c.unmark.new.node c.unmark.ensures.some c.unmark.ensures.unmarked

pub returns : goal.returns
returns c =
    let n = c.self.inside in
    table_unmarked (linked n.root) c.self.invariant.sorted c.args.self.now c.self.view_is _ (sym c.unmark.ensures.unmarked)
