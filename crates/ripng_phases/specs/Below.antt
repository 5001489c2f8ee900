-- Names of std, of the crates below and of the types of this crate, passed on from one place. Declares nothing.
pub use Rattle.std.specs.List.{AllByRecursion}
pub use Rattle.router_core.specs.Timers.{garbage_time}
pub use Rattle.ripng_world.specs.Common.{Prefix6, RouteValue, infinity, State, Network, World, Past, NoMemory, IsNeverQuiet, network_now, FitsTablesSince, AreHealed, PacketsArrive, IsDueTick, Told, IfRefused, Event, Deliver, Tick, past_of, router_of, Answer, Reconfigure, reconfigurations_in, Round, event_of, WatchedRun, heard, IsNetwork, OwnsPrefixes, IsTableBackedSince, IsLeastSince, SynchronousRounds, IsSoundDatagramSince, IsCold, WorldRun}
pub use Rattle.ripng_world.specs.Labs.{LabValue}
pub use Rattle.ripng_world.specs.Network.{AreLinked}
pub use Rattle.ripng_world.specs.Past.{IsBackedSince, OwnsSince}
pub use Rattle.ripng_world.specs.Rounds.{moment_of, IsMomentOf}
pub use Rattle.ripng_world.specs.Watching.{EndsAt, telling}
pub use Rattle.ripng_world.specs.World.{Happens, Restart, Shutdown, LinkDown}
pub use Rattle.ripng_world.specs.declared.event.Sent.{Sent}
pub use Rattle.ripng_world.specs.declared.watch.Stopped.{Stopped}
pub use Rattle.ripng_world.specs.declared.watch.Stopped.TheVariants.{Refused}
pub use Rattle.ripng_phases.specs.declared.acting.Course.{Course}
pub use Rattle.ripng_phases.specs.declared.acting.Update.{Update}
pub use Rattle.ripng_phases.specs.declared.refused.PhaseRefused.{PhaseRefused}
pub use Rattle.ripng_phases.specs.declared.refused.PhaseRefused.TheVariants.{NoUpdateInTime, PastLastMoment, OutOfMemory}
pub use Rattle.ripng_phases.specs.declared.shown.ShownRoute.{ShownRoute}
