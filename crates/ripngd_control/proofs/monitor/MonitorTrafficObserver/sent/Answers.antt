use Rattle.std.proofs.Common.{refl}
use Rattle.std.proofs.KnownBytes.{Appends-nil}
use Rattle.ripngd_control.proofs.monitor.MonitorTrafficObserver.sent.Goals as goal

pub returns : goal.returns
returns g c = record {
  counts = c.count_send.ensures c.args.outgoing.now;
  neighbors = refl;
  links = c.count_send-2.ensures;
  stays_muted = λ h. (h, refl);
  gains = λ h. Appends-nil (g.W.Write.contents c.args.self.now.out);
}
