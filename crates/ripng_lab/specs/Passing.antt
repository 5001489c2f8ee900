-- Time that passes in a script: what a line asks for, and what has happened then.
use Rattle.std.specs.Prelude.{◌≡◌, ℕ, true}
use Rattle.ripng_clock.specs.Carrying.{Asked}
use Rattle.ripng_clock.specs.Passing.{IsRun}
use Rattle.ripng_clock.specs.declared.refused.RunRefused.{RunRefused}
use Rattle.ripng_clock.specs.declared.refused.RunRefused.TheVariants.{OutOfMemory}
use Rattle.ripng_clock.specs.declared.timetable.Timetable.{Timetable}
use Rattle.ripng_lab.specs.Below.{Error, HasFailed, IsRefused, LabValue, Outages, Refused, Stop, Stopped, Told}
use Rattle.ripng_lab.specs.Asides.{Aside, Prints}
use Rattle.ripng_lab.specs.ScriptWatching.{is_failure}
use Rattle.ripng_lab.specs.declared.line.Line.{Line}
use Rattle.ripng_lab.specs.declared.stop.Refusal.TheVariants.{Run}

-- what a line asks for: until when, from which datagram on, and what takes no part
abbrev pub asked_by : Line → ℕ → Outages → Asked
asked_by line unheard outages =
    record { until = line.now; first = unheard; silent = outages.silent.items; cut = outages.cut.items; lost = outages.lost.items }

-- time has passed, and then that is noted
abbrev pub HasRunAndNoted : {V : Type 0} → (V → Told → V → Type 0) → (V → Aside → V → Type 0) → Asked → Timetable → LabValue × V → LabValue × V → Type 0
HasRunAndNoted {V} takes notes asked timetable s s' = (v : V) × IsRun takes asked timetable s (s'.0, v) × notes v Prints s'.1

-- what a script says where time stops: the line is refused, unless memory or the observer failed
abbrev pub IsStopOfRun : Stopped RunRefused Error → Stop → Type 0
IsStopOfRun (HasFailed error) stop = is_failure stop ≡ true
IsStopOfRun (IsRefused OutOfMemory) stop = is_failure stop ≡ true
IsStopOfRun (IsRefused refused) stop = stop ≡ Refused (Run refused)
