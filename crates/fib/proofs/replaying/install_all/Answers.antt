use Rattle.std.proofs.Common.{refl, sym, subst, ap, ◌∙◌}
use Rattle.std.specs.FinMap as map
use Rattle.fib.specs.Undo.{undo_of, undone, CanUndo}
use Rattle.fib.proofs.Undoing.{undone-push, can_push, taken_back, can_take_back}
use Rattle.fib.proofs.Withdrawals.{installed_more, passed_over}
use Rattle.fib.proofs.replaying.install_all.Goals.{in-Install+in_ok-install, in_default}
use Rattle.fib.proofs.replaying.install_all.Goals as goal

pub loop-change-preserved : goal.loop-change-preserved
loop-change-preserved c = elim c.match-change.branch [
  | in-Install+in_ok-install w ↦ rw (w.fib-is, w.done-is, w.in_ok-install.ensures.ok, w.in_ok-install.ensures.noted) (record {
    replays = installed_more c.args.fib.now c.loop-change.fib c.args.changes.now c.loop-change.change-index c.change-item.result w.in-Install.prefix w.in-Install.hop w.in-Install.metric c.loop-change-test.true (sym c.change-item.is ∙ w.in-Install.is) c.loop-change.invariant.replays;
    noted = undone-push c.loop-change.done.items (undo_of w.in-Install.prefix (map.get c.loop-change.fib w.in-Install.prefix)) _ ∙ ap (undone c.loop-change.done.items) (taken_back c.loop-change.fib w.in-Install.prefix (record { hop = w.in-Install.hop; metric = w.in-Install.metric }) (map.get c.loop-change.fib w.in-Install.prefix) refl) ∙ c.loop-change.invariant.noted;
    can = can_push c.loop-change.done.items (undo_of w.in-Install.prefix (map.get c.loop-change.fib w.in-Install.prefix)) _ (can_take_back c.loop-change.fib w.in-Install.prefix (record { hop = w.in-Install.hop; metric = w.in-Install.metric }) (map.get c.loop-change.fib w.in-Install.prefix)) (subst (CanUndo c.loop-change.done.items) (sym (taken_back c.loop-change.fib w.in-Install.prefix (record { hop = w.in-Install.hop; metric = w.in-Install.metric }) (map.get c.loop-change.fib w.in-Install.prefix) refl)) c.loop-change.invariant.can);
  })
  | in_default w ↦ rw (w.fib-is, w.done-is) (record {
    replays = passed_over c.args.fib.now c.loop-change.fib c.args.changes.now c.loop-change.change-index c.change-item.result w.in_default.field-0 c.loop-change-test.true (sym c.change-item.is ∙ w.in_default.is) c.loop-change.invariant.replays;
    noted = c.loop-change.invariant.noted;
    can = c.loop-change.invariant.can;
  })
]
