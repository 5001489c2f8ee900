use Rattle.std.proofs.Common.{◌≡◌, [], refl}
use Rattle.std.specs.Prelude.{codes, if◌then◌else◌}
use Rattle.ripngd_control.proofs.counts.LossesDisplay.fmt.Goals.{then-has_failed, else-has_failed}
use Rattle.ripngd_control.proofs.counts.LossesDisplay.fmt.Goals as goal

pub returns-clause-writes : goal.returns-clause-writes
returns-clause-writes g c =
    let log : c.if-has_failed.log.now ≡ (if c.args.self.now.report.log_failed then codes "\nlog failed" else []) =
    elim c.if-has_failed.branch [
      | then-has_failed w ↦ rw (w.log-is, w.if-has_failed.true) refl
      | else-has_failed w ↦ rw (w.log-is, w.if-has_failed.false) refl
    ] in
    rw log at c.write.ensures.writes
