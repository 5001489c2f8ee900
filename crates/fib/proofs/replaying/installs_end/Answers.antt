use Rattle.std.proofs.Common.{arith}
use Rattle.fib.proofs.Withdrawals.{none_after}
use Rattle.fib.proofs.replaying.installs_end.Goals as goal

pub returns : goal.returns
returns c = λ k p le. none_after c.args.changes.now k p (λ j d low lt. c.loop-k.invariant.none j d (omega arith) (omega arith))
