-- The names that the clauses of this crate cite, passed on from one place. Declares nothing.
pub use Rattle.ripng_clock.specs.Below.{Agenda, IsLatest, HappensGiving, IfRefused, LabValue, Sent, StepEnds, WatchedInPart, WatchedRun, event_of, failures, heard, refusal_in, router_of, RunRefused, OutOfMemory, Step, events_of, Ticks}
pub use Rattle.ripng_clock.specs.Agenda.{AreTimes, Has, IsAdded, IsFirst, IsRemoved, IsUpTo}
pub use Rattle.ripng_clock.specs.Carrying.{Asked, address_in, carriage_of, is_address, carriage_on, is_carried, is_for, prompt, receivers_of, takes_part}
pub use Rattle.ripng_clock.specs.Passing.{HasPassed, IsCutShort, IsLast, IsOwnAt, IsRun, IsRunInPart}
pub use Rattle.ripng_clock.specs.Ending.{AreAlarms, AreAlarmsUpTo, AreLater, HaveSetOut, IsDue, IsNext, IsNothingDue, NoDatagramSooner, NoTickSooner, alarm_of}
pub use Rattle.ripng_clock.specs.Refusing.{refused_name}
pub use Rattle.ripng_clock.specs.Turning.{AreSteps, AreTurns, IsBroughtBy, IsDone, IsStep, IsTurn, place}
pub use Rattle.ripng_clock.specs.Timing.{IsTimelyRun}
