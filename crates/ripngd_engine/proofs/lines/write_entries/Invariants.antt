use Rattle.std.specs.Io.KnownBytes.{Appends}
use Rattle.ripngd_engine.specs.Log.{entry_lines}
use Rattle.ripngd_engine.proofs.lines.write_entries.Given as goal

-- what is written is the lines of the entries so far
abbrev pub invariant-loop-entry : goal.invariant-loop-entry
invariant-loop-entry g l =
    Appends (g.W.Write.contents l.fn.out) (g.W.Write.contents l.out) (entry_lines l.yielded)
