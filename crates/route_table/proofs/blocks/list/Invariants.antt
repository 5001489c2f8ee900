use Rattle.std.proofs.Common.{◌≡◌, ◌+◌, ◌≤◌, ◌++◌, length, take, drop, vec_len, vec_capacity}
use Rattle.route_table.specs.Blocks.{joined}
use Rattle.route_table.proofs.blocks.list.Given as goal

abbrev pub invariant-loop-block : goal.invariant-loop-block
invariant-loop-block l = record {
  items : l.out.items ≡ l.fn.out.items ++ joined (take l.block-index l.blocks);
  room : vec_len l.out + length (joined (drop l.block-index l.blocks)) ≤ vec_capacity l.out;
}
