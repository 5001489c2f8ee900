use Rattle.std.proofs.Common.{◌≡◌, take}
use Rattle.ripng_world.specs.Watching.{AreMadeTold}
use Rattle.ripng_world.proofs.lab.Lab.run_rounds_watched.Given as goal

abbrev pub invariant-loop-number : goal.invariant-loop-number
invariant-loop-number g l = record {
  network : l.self.network ≡ l.fn.self.network;
  made : AreMadeTold g.V.Observer.takes l.fn.self.network (l.fn.self.world, l.fn.watch) (take l.number l.rounds) (l.self.world, l.watch);
}
