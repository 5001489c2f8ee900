-- The names that the clauses of this crate cite, passed on from one place. Declares nothing.
pub use Rattle.ripng_phases.specs.Below.{AllByRecursion, Prefix6, RouteValue, infinity, State, Network, World, IsNeverQuiet, network_now, FitsTablesSince, AreHealed, PacketsArrive, IsDueTick, IfRefused, Event, Tick, past_of, Round, event_of, WatchedRun, heard, IsNetwork, OwnsPrefixes, IsBackedSince, IsTableBackedSince, IsLeastSince, OwnsSince, SynchronousRounds, IsSoundDatagramSince, IsCold, WorldRun, Update}
pub use Rattle.ripng_phases.specs.Changing.{shown_in, shown_below, shown_route}
pub use Rattle.ripng_phases.specs.Phases.{Step, Begun, Phases, AreClose, ArePhases, steps_of, events_of, reached}
pub use Rattle.ripng_phases.specs.Minutes.{Timed, AreFrom, IsTimely, untimed}
pub use Rattle.ripng_phases.specs.Making.{GoesOn, IsLast, IsAdded, IsKept, AreMadeInPart, AreMadePhases, HealsIn, IsCutShort, IsLatest, IsMadePhase, LetsArriveIn}
pub use Rattle.ripng_phases.specs.Ages.{IsAwake, IsRecent, past_from}
