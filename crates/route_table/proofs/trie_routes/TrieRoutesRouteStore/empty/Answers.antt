use Rattle.std.proofs.Common.{refl}
use Rattle.route_table.proofs.SortedTable.{table_none}
use Rattle.route_table.proofs.trie_routes.TrieRoutesRouteStore.empty.Goals as goal

pub returns : goal.returns
returns c = table_none _ refl
