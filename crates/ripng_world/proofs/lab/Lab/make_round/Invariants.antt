use Rattle.std.proofs.Common.{◌≡◌, take}
use Rattle.ripng_world.specs.AskedRounds.{ticks_of}
use Rattle.ripng_world.specs.Watching.{WatchedRun, due}
use Rattle.ripng_world.proofs.lab.Lab.make_round.Given as goal

abbrev pub invariant-loop-router : goal.invariant-loop-router
invariant-loop-router g l = record {
  network : l.self.network ≡ l.fn.self.network;
  ticked : WatchedRun g.V.Observer.takes due l.fn.self.network (l.fn.self.world, l.fn.watch) (take l.router (ticks_of l.round.ticks)) (l.self.world, l.watch);
}
