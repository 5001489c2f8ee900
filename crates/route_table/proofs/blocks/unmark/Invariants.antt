use Rattle.std.proofs.Common.{◌≡◌, ◌++◌, map, take, drop}
use Rattle.route_table.specs.Blocks.{joined, Covers}
use Rattle.route_table.proofs.BlockChanges.{plain}
use Rattle.route_table.proofs.blocks.unmark.Given as goal

-- the blocks that the loop has come past have no mark
abbrev pub invariant-loop-k : goal.invariant-loop-k
invariant-loop-k l = record {
  items : l.blocks.items ≡ map plain (take l.k l.fn.blocks.items) ++ drop l.k l.fn.blocks.items;
  covered : Covers l.bound (joined (map plain (take l.k l.fn.blocks.items)));
}
