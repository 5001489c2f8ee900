use Rattle.std.proofs.Common.{sym, ap, ◌∙◌}
use Rattle.route_table.specs.Due.{least_deadline}
use Rattle.route_table.specs.Trie.{linked}
use Rattle.route_table.proofs.SortedTable.{entries_are}
use Rattle.route_table.proofs.trie_routes.TrieRoutesRouteStore.least_due_ms.Goals as goal

pub returns : goal.returns
returns c = c.due_ms.ensures ∙ ap least_deadline (sym (entries_are (linked c.self.inside.root) c.self.invariant.sorted c.args.self.now c.self.view_is))
