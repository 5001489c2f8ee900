use Rattle.std.proofs.Common.{◌≡◌, drop}
use Rattle.route_table.specs.Blocks.{joined}
use Rattle.route_table.specs.Due.{first_where}
use Rattle.route_table.specs.Summary.{meets}
use Rattle.route_table.proofs.blocks.first_wanted.Given as goal

-- what the blocks from here on have is what all have
abbrev pub invariant-loop-k : goal.invariant-loop-k
invariant-loop-k l = first_where (meets l.wanted) l.after (joined (drop l.k l.blocks)) ≡ first_where (meets l.wanted) l.after (joined l.blocks)
