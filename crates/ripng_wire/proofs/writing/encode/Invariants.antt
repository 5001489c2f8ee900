use Rattle.std.proofs.Common.{take}
use Rattle.ripng_wire.specs.Layout.{Spells}
use Rattle.ripng_wire.proofs.writing.encode.Given as goal

abbrev pub invariant-loop-entry : goal.invariant-loop-entry
invariant-loop-entry l = Spells l.fn.command (take l.entry-index l.entries) l.bytes.items
