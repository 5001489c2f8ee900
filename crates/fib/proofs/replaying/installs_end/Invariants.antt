use Rattle.std.proofs.Common.{◌≡◌, ◌≤◌, ◌<◌, ℕ, false, get_or}
use Rattle.fib.specs.declared.change.RouteChange.{RouteChange}
use Rattle.fib.specs.Forwarding.{is_install}
use Rattle.fib.proofs.replaying.installs_end.Given as goal

abbrev pub invariant-loop-k : goal.invariant-loop-k
invariant-loop-k l = record {
  last : l.end ≤ l.k;
  none : (j : ℕ) (d : RouteChange) → l.end ≤ j → j < l.k → is_install (get_or l.changes j d) ≡ false;
}
