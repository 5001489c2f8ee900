use Rattle.std.proofs.Common.{Some, is_some, map, take}
use Rattle.ripng_world.specs.Events.{event_of}
use Rattle.ripng_lab.specs.Doing.{HasDone, InTurn, IsPlayed}
use Rattle.ripng_lab.specs.ScriptWatching.{value_of}
use Rattle.ripng_lab.proofs.course.Course.play.Given as goal

-- the events so far are played
abbrev pub invariant-loop-event : goal.invariant-loop-event
invariant-loop-event g l =
    HasDone (InTurn (IsPlayed (is_some l.advert)) (map event_of (take l.event-index l.events))) g.V.Watch.starts g.V.Observer.takes g.V.Watch.notes (Some (value_of l.fn.self.site), l.fn.watch) (Some (value_of l.self.site), l.watch)
