use Rattle.std.proofs.Common.{take}
use Rattle.std.specs.Io.KnownBytes.{Appends}
use Rattle.ripngd_engine.specs.Log.{log_of}
use Rattle.ripngd_engine.proofs.lines.write_lines.Given as goal

abbrev pub invariant-loop-change : goal.invariant-loop-change
invariant-loop-change g l = Appends (g.W.Write.contents l.initial.log) (g.W.Write.contents l.log) (log_of (take l.change-index l.changes))
