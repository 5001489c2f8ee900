use Rattle.ripngd_daemon.proofs.Runs.{cut_off}
use Rattle.ripngd_daemon.proofs.run_command.run.Goals as goal

pub returns-in-Ok-clause-ran : goal.returns-in-Ok-clause-ran
returns-in-Ok-clause-ran g c =
    let ran = c.in_ok-run_configured-in-Ok.ensures in (
      c.in_ok-text.text.items,
      c.in_ok-text.ensures.text,
      (c.in-Ok.config, rw c.as_slice.ensures.value at c.in-Ok.ensures.read, ran.bound, ran.alone, ran.ran),
    )

pub returns-clause-ran : goal.returns-clause-ran
returns-clause-ran g c =
    let refused = c.in_ok-write_refusal-in-Err.ensures.refused in (
      c.in_ok-text.text.items,
      c.in_ok-text.ensures.text,
      rw refused.0 (c.in-Err.fault, refused.1, rw c.as_slice.ensures.value at c.in-Err.ensures.refused),
    )

pub returns-in_err-run_configured-in-Ok-clause-cut_off :
    goal.returns-in_err-run_configured-in-Ok-clause-cut_off
returns-in_err-run_configured-in-Ok-clause-cut_off g c =
    cut_off _ c.args.order c.in_ok-text.text.items c.in-Ok.config c.in_err-run_configured-in-Ok.field-0.0 _ _ c.from_residual-in_err-run_configured-in-Ok.result
    c.in_ok-text.ensures.text (rw c.as_slice.ensures.value at c.in-Ok.ensures.read) c.in_err-run_configured-in-Ok.ensures.cut_off
    c.from_residual-in_err-run_configured-in-Ok.ensures.1
