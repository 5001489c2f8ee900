use Rattle.std.proofs.Common.{take}
use Rattle.std.specs.Io.KnownBytes.{Appends}
use Rattle.ripngd_control.specs.Printed.{note_lines}
use Rattle.ripngd_control.proofs.monitor.write_lines.Given as goal

-- behind the line of the fault stand the lines of the notes so far
abbrev pub invariant-loop-note : goal.invariant-loop-note
invariant-loop-note g l = Appends (g.W.Write.contents l.initial.out) (g.W.Write.contents l.out) (note_lines l.origin.0 (take l.note-index l.notes))
