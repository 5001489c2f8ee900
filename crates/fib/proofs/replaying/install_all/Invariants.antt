use Rattle.std.proofs.Common.{◌≡◌, take}
use Rattle.std.specs.List.{filter}
use Rattle.fib.specs.Forwarding.{is_install, Replays}
use Rattle.fib.specs.Undo.{undone, CanUndo}
use Rattle.fib.proofs.replaying.install_all.Given as goal

abbrev pub invariant-loop-change : goal.invariant-loop-change
invariant-loop-change l = record {
  replays : Replays l.initial.fib (filter is_install (take l.change-index l.changes)) l.fib;
  noted : undone l.done.items l.fib ≡ l.initial.fib;
  can : CanUndo l.done.items l.fib;
}
