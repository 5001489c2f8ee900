use Rattle.std.proofs.Common.{take}
use Rattle.ripngd_control.specs.Watching.{Refused, notes_of}
use Rattle.ripngd_control.proofs.refusals.Refusals.count.Given as goal

abbrev pub invariant-loop-note : goal.invariant-loop-note
invariant-loop-note l = Refused (λ number. notes_of number (take l.note-index l.notes)) l.initial.self l.self
