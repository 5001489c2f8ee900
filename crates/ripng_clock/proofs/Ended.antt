-- A run from its beginning to its end.
use Rattle.std.proofs.Common.{◌≡◌, ℕ, ◌<◌, ◌≤◌, ◌*◌, ◌+◌, max, List, [], length, Option, refl, ap, sym, subst, ◌∙◌, le_refl}
use Rattle.ripng_world.specs.Labs.{LabValue}
use Rattle.ripng_world.specs.Network.{Network}
use Rattle.ripng_world.specs.Watching.{Told}
use Rattle.ripng_world.specs.declared.watch.Stopped.{Stopped}
use Rattle.ripng_phases.specs.Making.{IsLatest}
use Rattle.ripng_phases.specs.Phases.{Step}
use Rattle.ripng_clock.specs.Carrying.{Asked}
use Rattle.ripng_clock.specs.Ending.{AreAlarms, AreLater, HaveSetOut, IsNothingDue}
use Rattle.ripng_clock.specs.Passing.{HasPassed, IsBegin, IsCutShort, IsRun, IsRunInPart}
use Rattle.ripng_clock.specs.Timing.{IsTimelyRun}
use Rattle.ripng_clock.specs.Turning.{AreTurns, Place, place}
use Rattle.ripng_clock.specs.declared.due.Course.{Course}
use Rattle.ripng_clock.specs.declared.refused.RunRefused.{RunRefused}
use Rattle.ripng_clock.specs.declared.timetable.Timetable.{Timetable}
use Rattle.ripng_clock.proofs.Alarming.{nothing_due}
use Rattle.ripng_clock.proofs.Going.{turns_alarms, turns_in_time, turns_network, turns_passed}
use Rattle.ripng_clock.proofs.Passing.{passed_none, waits}
use Rattle.ripng_clock.proofs.Starting.{heals, timely}

-- the moment where a run begins
pub begin_made : (timetable : Timetable) (lab run : LabValue) → run ≡ lab → (latest : ℕ) → IsLatest run.world.states (length run.network) latest → (begin : ℕ) → begin ≡ max latest timetable.over → IsBegin lab timetable begin
begin_made timetable lab run same latest is begin begin_is =
    record { latest = latest; latest_is = subst (λ l. IsLatest l.world.states (length l.network) latest) same is; begin_is = begin_is }

-- what sets out as it begins
pub begun_out : (asked : Asked) (lab run : LabValue) → run ≡ lab → (moment moment' : ℕ) → moment' ≡ moment → (timetable out : Timetable) (first first' : ℕ) → first ≡ first' → (next : ℕ)
    → HaveSetOut asked run moment timetable first next out → HaveSetOut asked lab moment' timetable first' next out
begun_out asked lab run same moment moment' later timetable out first first' one next is =
    subst (λ l. HaveSetOut asked l moment' timetable first' next out) same
    (subst (λ m. HaveSetOut asked run m timetable first' next out) (sym later) (subst (λ n. HaveSetOut asked run moment timetable n next out) one is))

-- the run has come to its end
module _ {V : Type 0} (t : V → Told → V → Type 0) (asked : Asked) (timetable : Timetable) (old new : LabValue) (watch v : V) (out end : Timetable) (course course' : Course)
    (begin_is : IsBegin old timetable course.moment) (set_out : HaveSetOut asked old course.moment timetable asked.first course.next out) (next_is : course.next ≡ max asked.first (length old.world.sent))
    (alarms : AreAlarms asked old course.alarms) (in_time : course.moment ≤ asked.until)
    (turns : (ts : List (List Step)) × AreTurns t asked (place old watch out course) ts (place new v end course')) (later : AreLater course'.alarms end.under_way asked.until) where
  pub run_network : new.network ≡ old.network
  run_network = turns_network t asked turns.0 (place old watch out course) (place new v end course') turns.1

  ended_in_time : course'.moment ≤ asked.until
  ended_in_time = turns_in_time t asked turns.0 (place old watch out course) (place new v end course') turns.1 in_time

  pub run_made : IsRun t asked timetable (old, watch) (new, v)
  run_made =
      record {
        begin = course.moment;
        begin_is = begin_is;
        passed = waits t asked (old, watch) course.moment course'.moment (new, v)
            (turns_passed t asked (old, watch) course.moment turns.0 (place old watch out course) (place new v end course') turns.1 (passed_none t asked (old, watch) course.moment)) asked.until ended_in_time;
      }

  pub run_over : IsNothingDue asked new end.under_way
  run_over = nothing_due asked new course'.alarms end.under_way (turns_alarms t asked turns.0 (place old watch out course) (place new v end course') turns.1 alarms) later

  pub run_timely : IsTimelyRun asked timetable old new
  run_timely = (
    course.moment,
    begin_is,
    (λ calm orderly due_soon. timely t asked timetable old watch course.moment course.next course.alarms out calm orderly due_soon begin_is set_out next_is alarms turns.0 (place new v end course') turns.1 ended_in_time later),
    (λ calm orderly due_soon noisy fits late.
        heals t asked timetable old watch course.moment course.next course.alarms out calm orderly due_soon begin_is set_out next_is alarms turns.0 (place new v end course') turns.1 ended_in_time later noisy fits late),
  )

-- the run stops
pub run_stopped : {V F : Type 0} (t f : V → Told → V → Type 0) (asked : Asked) (timetable : Timetable) (s : LabValue × V) (begin : ℕ) → IsBegin s.0 timetable begin → (why : Stopped RunRefused F) (s' : LabValue × V)
    → IsCutShort t f asked s begin why s' → IsRunInPart t f asked timetable s why s'
run_stopped t f asked timetable s begin begin_is why s' cut = record { begin = begin; begin_is = begin_is; cut = cut }
