use Rattle.std.proofs.Common.{◌≡◌, ◌+◌, ◌≤◌, ◌++◌, take, drop, vec_len, vec_capacity}
use Rattle.route_table.specs.Blocks.{joined}
use Rattle.route_table.specs.Summary.{wanted_of}
use Rattle.route_table.specs.Table.{past}
use Rattle.route_table.proofs.blocks.list_wanted.Given as goal

-- what is listed, and what is still to be listed of the blocks from here on, is what was asked for
abbrev pub invariant-loop-k : goal.invariant-loop-k
invariant-loop-k l = record {
  items : l.out.items ++ take l.left (wanted_of l.wanted (past l.after (joined (drop l.k l.blocks)))) ≡ l.fn.out.items ++ take l.most (wanted_of l.wanted (past l.after (joined l.blocks)));
  room : vec_len l.out + l.left ≤ vec_capacity l.out;
}
