use Rattle.std.proofs.Common.{length}
use Rattle.route_table.specs.Trie.{linked}
use Rattle.route_table.proofs.trie.updating.+unmark.Given as goal

abbrev pub decreases-unmark : goal.decreases-unmark
decreases-unmark l = length (linked l.node.now)
