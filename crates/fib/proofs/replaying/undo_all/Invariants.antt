use Rattle.std.proofs.Common.{◌≡◌, length}
use Rattle.fib.specs.Undo.{undone, CanUndo}
use Rattle.fib.proofs.replaying.undo_all.Given as goal

abbrev pub invariant-loop-undo : goal.invariant-loop-undo
invariant-loop-undo l = record {
  same : undone l.done.items l.fib ≡ undone l.initial.done.items l.initial.fib;
  can : CanUndo l.done.items l.fib;
}

abbrev pub decreases-loop-undo : goal.decreases-loop-undo
decreases-loop-undo l = length l.done.items
