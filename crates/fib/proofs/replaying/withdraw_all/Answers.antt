use Rattle.std.proofs.Common.{◌+◌, refl, sym, ap, ◌∙◌, arith}
use Rattle.fib.specs.Undo.{has_install}
use Rattle.fib.proofs.Withdrawals.{rest_whole, at_install, at_passed, at_withdrawn}
use Rattle.fib.proofs.replaying.withdraw_all.Goals.{in-Withdraw+then-k-end, then-k-end-via-then-k-end, then-k-end-via-else-k-end+then-not-is_installed, in-Withdraw+else-k-end+else-not-is_installed, in_default}
use Rattle.fib.proofs.replaying.withdraw_all.Goals as goal

pub loop-k-preserved : goal.loop-k-preserved
loop-k-preserved c = elim c.match-changes-k.branch [
  | in-Withdraw+then-k-end w ↦ rw (w.fib-is, w.remove.ensures) (at_withdrawn c.args.changes.now c.loop-k.k _ _ c.loop-k-test.true refl c.args.fib.now c.loop-k.fib c.loop-k.invariant w.in-Withdraw.prefix w.in-Withdraw.is (elim w.then-k-end.branch [
    | then-k-end-via-then-k-end u ↦ c.installs_end-end.ensures (c.loop-k.k + 1) w.in-Withdraw.prefix (omega (arith, u.if-k-end.true))
    | then-k-end-via-else-k-end+then-not-is_installed u ↦ ap (λ l. has_install l w.in-Withdraw.prefix) (sym (rest_whole c.args.changes.now (c.loop-k.k + 1))) ∙ sym u.is_installed.ensures ∙ u.if-not-is_installed.true
  ]))
  | in-Withdraw+else-k-end+else-not-is_installed w ↦ rw w.fib-is (at_passed c.args.changes.now c.loop-k.k _ _ c.loop-k-test.true refl c.args.fib.now c.loop-k.fib c.loop-k.invariant w.in-Withdraw.prefix w.in-Withdraw.is
      (ap (λ l. has_install l w.in-Withdraw.prefix) (sym (rest_whole c.args.changes.now (c.loop-k.k + 1))) ∙ sym w.is_installed.ensures ∙ w.if-not-is_installed.false))
  | in_default w ↦ rw w.fib-is (at_install c.args.changes.now c.loop-k.k _ _ c.loop-k-test.true refl c.args.fib.now c.loop-k.fib c.loop-k.invariant w.in_default.field-0 w.in_default.field-1 w.in_default.field-2 w.in_default.is)
]
