use Rattle.std.proofs.Common.{refl}
use Rattle.std.proofs.KnownBytes.{Appends-nil}
use Rattle.ripngd_control.proofs.Counted.{Counted-begins}
use Rattle.ripngd_control.proofs.monitor.MonitorTrafficObserver.begins.Goals as goal

pub returns : goal.returns
returns g c = record {
  counts = Counted-begins c.args.self.now.counts c.args.update;
  neighbors = refl;
  links = c.begin.ensures;
  stays_muted = λ h. (h, refl);
  gains = λ h. Appends-nil (g.W.Write.contents c.args.self.now.out);
}
