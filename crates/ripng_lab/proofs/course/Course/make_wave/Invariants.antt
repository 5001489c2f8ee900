use Rattle.std.proofs.Common.{Some, map}
use Rattle.ripng_world.specs.Events.{event_of}
use Rattle.ripng_lab.specs.Doing.{HasDone, IsWave}
use Rattle.ripng_lab.specs.ScriptWatching.{value_of}
use Rattle.ripng_lab.proofs.course.Course.make_wave.Given as goal

-- the ticks, and the deliveries so far
abbrev pub invariant-loop-datagram : goal.invariant-loop-datagram
invariant-loop-datagram g l =
    HasDone (IsWave (map event_of l.ticks.items) l.wave.moment) g.V.Watch.starts g.V.Observer.takes g.V.Watch.notes (Some (value_of l.fn.self.site), l.fn.watch) (Some (value_of l.self.site), l.watch)
