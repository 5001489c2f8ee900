use Rattle.std.proofs.Common.{◌∙◌, refl, sym}
use Rattle.ripngd_control.proofs.Answered.{apart, was_no_err}
use Rattle.ripngd_control.proofs.monitor.MonitorTrafficObserver.processed.Goals as goal

pub returns-then-not-self : goal.returns-then-not-self
returns-then-not-self g c = record {
  counts = c.count_arrival.ensures c.args.arrived c.args.bytes.now;
  neighbors = c.count.ensures;
  links = c.count-2.ensures;
  stays_muted = λ h. apart _ c.if-not-self.true h;
  gains = λ h. was_no_err c.write_lines.result (sym c.is_err-self.ensures.value ∙ h) c.write_lines.ensures;
}

pub returns-else-not-self : goal.returns-else-not-self
returns-else-not-self g c = record {
  counts = c.count_arrival.ensures c.args.arrived c.args.bytes.now;
  neighbors = c.count.ensures;
  links = c.count-2.ensures;
  stays_muted = λ h. (h, refl);
  gains = λ h. apart _ h c.if-not-self.false;
}
