use Rattle.std.proofs.Common.{◌≡◌, take, get_or, false}
use Rattle.ripng_world.specs.AskedRounds.{other_deliveries}
use Rattle.ripng_world.specs.Watching.{WatchedRun, heard}
use Rattle.ripng_world.proofs.lab.Lab.deliver_others.Given as goal

abbrev pub invariant-loop-place : goal.invariant-loop-place
invariant-loop-place g l = record {
  network : l.self.network ≡ l.fn.self.network;
  delivered : WatchedRun g.V.Observer.takes heard l.fn.self.network (l.fn.self.world, l.fn.watch) (other_deliveries (λ k. get_or l.picked k false) (take l.place l.pairs) l.rest) (l.self.world, l.watch);
}
