use Rattle.std.proofs.Common.{◌-◌}
use Rattle.fib.proofs.BlockLists.{IsNarrowed}
use Rattle.fib.proofs.blocks.home.Given as goal

abbrev pub invariant-loop-low : goal.invariant-loop-low
invariant-loop-low l = IsNarrowed l.blocks l.fn.prefix l.low l.high l.middle

abbrev pub decreases-loop-low : goal.decreases-loop-low
decreases-loop-low l = l.high - l.low
