-- Names of std, of the crates below and of the types of this crate, passed on from one place. Declares nothing.
pub use Rattle.std.specs.List.{AllByRecursion, list_any}
pub use Rattle.router_core.specs.Common.{State, wakes_at}
pub use Rattle.router_core.specs.declared.answer.Destination.{Destination}
pub use Rattle.router_core.specs.declared.answer.Destination.TheVariants.{Group, Peer}
pub use Rattle.ripng_world.specs.Common.{AreHealed, Event, Deliver, FitsTablesSince, HappensGiving, IfRefused, IsNeverQuiet, LabValue, Network, network_now, past_of, StepEnds, Tick, Told, WatchedInPart, WatchedRun, World, event_of, failures, heard, interfaces_of, is_other, link_at, refusal_in, router_of}
pub use Rattle.ripng_world.specs.Rounds.{moment_of}
pub use Rattle.ripng_world.specs.Labs.{HasRun}
pub use Rattle.ripng_world.specs.Watching.{EndsAt}
pub use Rattle.ripng_world.specs.declared.event.Sent.{Sent}
pub use Rattle.ripng_world.specs.declared.watch.Stopped.{Stopped}
pub use Rattle.ripng_world.specs.declared.watch.Stopped.TheVariants.{Refused}
pub use Rattle.ripng_phases.specs.Common.{Step, events_of, IsTimely, Timed}
pub use Rattle.ripng_phases.specs.Making.{IsLatest, TellsSteps}
pub use Rattle.ripng_clock.specs.declared.agenda.Agenda.{Agenda}
pub use Rattle.ripng_clock.specs.declared.carrying.Carriage.{Carriage}
pub use Rattle.ripng_clock.specs.declared.due.Due.{Due}
pub use Rattle.ripng_clock.specs.declared.due.Due.TheVariants.{Comes, Ticks}
pub use Rattle.ripng_clock.specs.declared.refused.RunRefused.{RunRefused}
pub use Rattle.ripng_clock.specs.declared.refused.RunRefused.TheVariants.{BeforeBegin, TooManyEvents, OutOfMemory}
pub use Rattle.ripng_clock.specs.declared.timetable.Timetable.{Timetable}
