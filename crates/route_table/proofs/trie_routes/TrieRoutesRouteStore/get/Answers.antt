use Rattle.std.proofs.Common.{sym, ◌∙◌}
use Rattle.route_table.specs.Trie.{linked}
use Rattle.route_table.proofs.SortedTable.{get_is}
use Rattle.route_table.proofs.trie_routes.TrieRoutesRouteStore.get.Goals as goal

pub returns : goal.returns
returns c =
    let n = c.self.inside in
    c.get.ensures ∙ sym (get_is (linked n.root) c.self.invariant.sorted c.args.self.now c.self.view_is c.args.prefix.now)
