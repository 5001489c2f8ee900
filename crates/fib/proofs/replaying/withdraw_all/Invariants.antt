use Rattle.std.proofs.Common.{take, drop}
use Rattle.fib.proofs.Withdrawals.{IsWithdrawn}
use Rattle.fib.proofs.replaying.withdraw_all.Given as goal

abbrev pub invariant-loop-k : goal.invariant-loop-k
invariant-loop-k l = IsWithdrawn (take l.k l.changes) (drop l.k l.changes) l.initial.fib l.fib
