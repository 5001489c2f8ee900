use Rattle.std.proofs.Common.{◌≡◌, false, take}
use Rattle.fib.specs.Undo.{has_install}
use Rattle.fib.proofs.replaying.is_installed.Given as goal

abbrev pub invariant-loop-change : goal.invariant-loop-change
invariant-loop-change l = has_install (take l.change-index l.changes) l.fn.prefix ≡ false
