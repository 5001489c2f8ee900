-- The names that the clauses of this crate cite, passed on from one place. Declares nothing.
pub use Rattle.ripngd_daemon.specs.Asking.{IsPrintedAnswer, IsAnswerWritten, command_line}
pub use Rattle.ripngd_daemon.specs.Below.{Appends, error_kind, Replays, Hop, RouteChange, IsPrefix, Prefix6, written_prefix, HasOneEach, Heeds, Call, HasNoLineFeed, change_text, log_of, hop_text, route_text, counted, Ran, TurnsAnswer, seen, FileCause}
pub use Rattle.ripngd_daemon.specs.Checked.{IsChecked, peers_counted}
pub use Rattle.ripngd_daemon.specs.Failing.{MayFail}
pub use Rattle.ripngd_daemon.specs.Faults.{failure_of, failure_of_engine, failure_of_link}
pub use Rattle.ripngd_daemon.specs.LastRun.{IsLastRun, start_text}
pub use Rattle.ripngd_daemon.specs.Losses.{AreLossesOf, has_failed, losses_line, no_losses, nothing_lost}
pub use Rattle.ripngd_daemon.specs.Questions.{AsksAll, AsksIfDue, AsksOn, HasLost, IsDue, LosesRoute, Minds, MindsOnly, sizes_in}
pub use Rattle.ripngd_daemon.specs.Reading.{IsFirstBadLine, MakesTable, log_fault_text, IsWritableChange, IsWritableHop, IsLogOf, IsRunOf, RefusesLog, RefusesRun}
pub use Rattle.ripngd_daemon.specs.Run.{lines_of, FailsBound, FailsIn, IsCutOff, IsRan, ShowsRun, links_of, IsOver, IsToldToStop, Lasts, CutsRoute, TurnsAndHeeds, Passes, words_of}
pub use Rattle.ripngd_daemon.specs.Said.{cause_text, failure_line, failure_text, file_cause_text, socket_text, why_text}
pub use Rattle.ripngd_daemon.specs.Tabled.{table_text, IsTabled}
pub use Rattle.ripngd_daemon.specs.Warnings.{has_address, is_never_heard}
pub use Rattle.ripngd_daemon.specs.Words.{CutsWord, PushesLine}
pub use Rattle.ripngd_daemon.specs.Written.{begins_with}
