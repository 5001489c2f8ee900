use Rattle.std.proofs.Common.{length}
use Rattle.route_table.specs.Trie.{linked}
use Rattle.route_table.proofs.trie.updating.+update.Given as goal

abbrev pub decreases-update : goal.decreases-update
decreases-update g l = length (linked l.node.now)
