use Rattle.std.proofs.Common.{◌≡◌, take}
use Rattle.route_table.specs.Blocks.{joined}
use Rattle.route_table.specs.Summary.{summary_of}
use Rattle.route_table.proofs.blocks.due_ms.Given as goal

abbrev pub invariant-loop-block : goal.invariant-loop-block
invariant-loop-block l = l.due ≡ (summary_of (joined (take l.block-index l.blocks))).due
