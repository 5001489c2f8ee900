-- The names that the clauses of this crate cite, passed on from one place. Declares nothing.
pub use Rattle.ripng_world.specs.Labs.{HappensGiving}
pub use Rattle.ripng_world.specs.Packets.{forwardings_of}
pub use Rattle.ripng_world.specs.Path.{IsPath}
pub use Rattle.ripng_world.specs.Labs.{StepEnds}
pub use Rattle.ripng_world.specs.Watching.{IfRefused, WatchedInPart, failures, refusal_in}
pub use Rattle.ripng_clock.specs.Carrying.{carriage_on}
pub use Rattle.ripng_clock.specs.Ending.{IsNothingDue}
pub use Rattle.ripng_phases.specs.Making.{HealsIn}
pub use Rattle.ripng_lab.specs.Asides.{aside_of, Broken, Prints, ShowsCounts, Aside, NextLine}
pub use Rattle.ripng_lab.specs.Asking.{AskAfter, IsQuestion, Minds, down_after, first_lost, interfaces_at, is_on, reached_in, reaches_prefix, requests_of}
pub use Rattle.ripng_lab.specs.Counting.{CountedAside, HasCounted, HasStartedCounting, IsSettled, SameWatch, brings, cause_of, counted, counted_change, counted_changes, counted_datagram, counted_datagrams, counted_update, command_number, counts_at_start, entries_in, has_command, last_at, no_counts, timing_at, timings_after, timings_in}
pub use Rattle.ripng_lab.specs.Doing.{AreAtEach, EndsIn, EndsInPhases, HasDone, InTurn, IsAtEach, IsDelivery, IsEvent, IsLie, IsNote, IsPlayed, IsShown, IsWave, PassesUntil, Means, MeansAct, arrival_by, event_by}
pub use Rattle.ripng_lab.specs.Expecting.{HasMissed, HasMoved, fate_of, metric_at}
pub use Rattle.ripng_lab.specs.Healing.{HasHealed, IsHealedAt, IsUnhealed, has_route, has_wrong, has_wrong_heard, has_wrong_owned, heard_among, heard_of, is_heard_from, is_right, is_wrong, least_by, least_heard, metric_or_none, neighbors_at, neighbors_of, places_on, tells_others}
pub use Rattle.ripng_lab.specs.Passing.{HasRunAndNoted, IsStopOfRun, asked_by}
pub use Rattle.ripng_lab.specs.Phasing.{AllTakePart, AreMadeAndCounted, IsStopAt, StopsPhases}
pub use Rattle.ripng_lab.specs.Plans.{brings_lost, with_member, addr_at, first_of, reaches, ticks_of}
pub use Rattle.ripng_lab.specs.ScriptWatching.{Notes, Starts, has_failed, is_failure, HasTold, IsToldOfLab, IsToldUntil, lab_in, value_of}
pub use Rattle.ripng_lab.specs.Scripts.{EndsScript, HasWords, IsBlank, IsFollowed, IsObeyed, IsOfScript, IsVerbOf, Says, asks_by, awaited_by, mode_of, first_word, forms, lines_of}
pub use Rattle.ripng_lab.specs.Below.{LabValue, Told, event_of}
