use Rattle.std.proofs.Common.{◌≡◌, ℕ, ◌+◌, ◌*◌, ◌≤◌, length}
use Rattle.ripng_phases.specs.Making.{IsLatest}
use Rattle.ripng_phases.proofs.Together.{AreSoFar}
use Rattle.ripng_phases.proofs.making.run_phases.Given as goal

abbrev pub invariant-loop-done : goal.invariant-loop-done
invariant-loop-done g l = record {
  network : l.lab.network ≡ l.fn.lab.network;
  so_far : AreSoFar g.V.Observer.takes l.fn.lab.network (l.fn.lab.world, l.fn.watch) l.done l.begin l.first l.last (l.lab.world, l.watch);
  begins : (latest : ℕ) × IsLatest l.fn.lab.world.states (length l.fn.lab.network) latest × (l.begin ≡ latest + 60_000 * l.done);
  within : l.first ≤ length l.lab.world.sent;
}
