use Rattle.std.proofs.Common.{sym, ◌∙◌}
use Rattle.route_table.specs.Trie.{linked}
use Rattle.route_table.proofs.SortedTable.{len_is}
use Rattle.route_table.proofs.trie_routes.TrieRoutesRouteStore.len.Goals as goal

pub returns-clause-value : goal.returns-clause-value
returns-clause-value c = c.self.invariant.counted ∙ sym (len_is (linked c.self.inside.root) c.self.invariant.sorted c.args.self.now c.self.view_is)
