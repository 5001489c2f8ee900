use Rattle.std.proofs.Common.{◌≡◌, take}
use Rattle.ripng_phases.specs.Making.{IsHanded}
use Rattle.ripng_phases.proofs.acting.hand_on.Given as goal

abbrev pub invariant-loop-router : goal.invariant-loop-router
invariant-loop-router g l = record {
  network : l.lab.network ≡ l.fn.lab.network;
  handed : IsHanded g.V.Observer.takes l.fn.lab.network (l.fn.lab.world, l.fn.watch) l.datagram l.now l.keeps (take l.router-index l.router-items) (l.lab.world, l.watch);
}
