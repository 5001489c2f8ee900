use Rattle.std.proofs.Common.{take}
use Rattle.std.specs.Fmt.{HasWritten, IsPlainFormatter}
use Rattle.ripngd_control.specs.Printed.{count_lines}
use Rattle.ripngd_control.proofs.refusals.RefusalsDisplay.fmt.Given as goal

abbrev pub invariant-loop-refusal : goal.invariant-loop-refusal
invariant-loop-refusal g l = IsPlainFormatter l.fn.f
    → HasWritten g.W.Write.write_str_gives l.fn.f (count_lines l.self.by_number (take l.refusal-index l.refusal-items)) l.f
