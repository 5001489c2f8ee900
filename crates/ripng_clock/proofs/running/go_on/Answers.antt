use Rattle.ripng_clock.proofs.Passing.{handed, waits}
use Rattle.ripng_clock.proofs.running.go_on.Goals as goal

pub returns-in_err-act-clause-stopped : goal.returns-in_err-act-clause-stopped
returns-in_err-act-clause-stopped g c =
    handed c.from_residual.result c.in_err-act.field-0.0 _ c.from_residual.ensures.1
    (λ s begin is. c.in_err-act.ensures.stopped s begin
    (waits g.V.Observer.takes c.args.span.now s begin c.args.course.now.moment (g.L.Runs.value c.args.lab.now, c.args.watch.now) is _ c.in-Some.ensures.next.not_before))
