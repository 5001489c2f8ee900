use Rattle.std.proofs.Common.{◌≡◌, ◌++◌, map, take}
use Rattle.ripng_world.specs.Events.{event_of}
use Rattle.ripng_world.specs.Labs.{Keeps}
use Rattle.ripng_world.specs.Watching.{WatchedRun, any}
use Rattle.ripng_world.specs.World.{reconfigurations_in}
use Rattle.ripng_world.proofs.lab.Lab.run_watched.Given as goal

abbrev pub invariant-loop-done : goal.invariant-loop-done
invariant-loop-done g l = record {
  told : WatchedRun g.V.Observer.takes any l.fn.self.network (l.fn.self.world, l.fn.watch) (take l.done (map event_of l.events)) (l.self.world, l.watch);
  network : l.self.network ≡ l.fn.self.network;
  reconfigurations : l.self.world.reconfigurations ≡ l.fn.self.world.reconfigurations ++ reconfigurations_in (take l.done (map event_of l.events));
  keeps : Keeps l.self;
}
