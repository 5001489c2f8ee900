use Rattle.std.proofs.Common.{◌≡◌, refl}
use Rattle.ripngd_daemon.specs.Losses.{log_text}
use Rattle.ripngd_daemon.proofs.history.write_losses.Goals.{then-has_failed, else-has_failed}
use Rattle.ripngd_daemon.proofs.history.write_losses.Goals as goal

pub returns-clause-line : goal.returns-clause-line
returns-clause-line g c = λ lost.
    let log : c.if-has_failed.log.now ≡ log_text c.args.lost.report.log_failed =
    elim c.if-has_failed.branch [
      | then-has_failed w ↦ rw (w.log-is, w.if-has_failed.true) refl
      | else-has_failed w ↦ rw (w.log-is, w.if-has_failed.false) refl
    ] in
    rw log at c.writeln.ensures.bytes
