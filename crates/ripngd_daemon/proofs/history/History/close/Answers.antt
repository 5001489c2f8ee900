use Rattle.std.proofs.Common.{◌∙◌, Some, ap, refl, sym}
use Rattle.ripngd_udp.specs.Udp.{LinkState}
use Rattle.ripngd_daemon.proofs.history.History.close.Goals as goal

pub returns-clause-calls : goal.returns-clause-calls
returns-clause-calls g c =
    (c.into_link-link.result.calls, sym c.into_link-link.ensures, ap (λ p. p.calls) c.close.ensures ∙ ap (λ (l : LinkState). Some l.calls) c.finish.ensures.1)

pub returns-clause-moments : goal.returns-clause-moments
returns-clause-moments g c = (c.clock-clock.result.now, sym c.clock-clock.ensures)

pub returns-clause-lost : goal.returns-clause-lost
returns-clause-lost g c =
    let losses = c.losses_of-self.ensures in
    let report = c.report-report.ensures in
    record {
      late = c.finish.new.self.failed_sends;
      sends_are = rw (losses, report) refl;
      steps_are = rw (losses, report) refl;
      log_is = rw (losses, report) refl;
    }
