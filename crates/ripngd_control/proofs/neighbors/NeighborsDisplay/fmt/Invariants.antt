use Rattle.std.proofs.Common.{take}
use Rattle.std.specs.Fmt.{HasWritten, IsPlainFormatter}
use Rattle.ripngd_control.specs.Printed.{row_lines}
use Rattle.ripngd_control.proofs.neighbors.NeighborsDisplay.fmt.Given as goal

-- what is written is the lines of the rows so far
abbrev pub invariant-loop-row : goal.invariant-loop-row
invariant-loop-row g l = IsPlainFormatter l.fn.f
    → HasWritten g.W.Write.write_str_gives l.fn.f (row_lines (take l.row-index l.row-items)) l.f
