use Rattle.std.proofs.Common.{ap, ◌∙◌}
use Rattle.route_table.specs.Summary.{SummaryValue}
use Rattle.route_table.specs.Trie.{linked}
use Rattle.route_table.proofs.TrieSummary.{due_of}
use Rattle.route_table.proofs.trie.due_ms.Goals as goal

pub returns : goal.returns
returns c = c.due_ms.ensures ∙ ap (λ (s : SummaryValue). s.due) c.summary.ensures ∙ due_of (linked c.args.node.now)
