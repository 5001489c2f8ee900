-- When something is due, and when nothing is any more.
use Rattle.std.specs.Prelude.{◌≡◌, ℕ, ◌+◌, ◌<◌, ◌≤◌, max, ◌⊎◌, cond, IsTrue, List, Option, Some, None, option_map, length, slice_get}
use Rattle.ripng_clock.specs.Below.{State, wakes_at, LabValue, World, Sent, Agenda, Due, Comes, Ticks, Timetable}
use Rattle.ripng_clock.specs.Agenda.{Has, IsFirst}
use Rattle.ripng_clock.specs.Carrying.{Asked, carriage_of, is_carried, takes_part}

-- when a router next has something to do, if it takes part
abbrev pub alarm_of : Asked → World → ℕ → Option ℕ
alarm_of asked w router = cond (takes_part asked router) (option_map wakes_at (slice_get w.states router)) None

-- each of so many routers has that time
abbrev pub AreAlarmsUpTo : Asked → World → List (Option ℕ) → ℕ → Type 0
AreAlarmsUpTo asked w alarms count = (router : ℕ) → router < count → slice_get alarms router ≡ Some (alarm_of asked w router)

-- each router of the network has that time
pub record AreAlarms (asked : Asked) (lab : LabValue) (alarms : List (Option ℕ)) : Type 0 where
  pub as_many : length alarms ≡ length lab.network
  pub set : AreAlarmsUpTo asked lab.world alarms (length lab.network)

-- what is due comes now
abbrev pub IsDue : List (Option ℕ) → Agenda → ℕ → ℕ → Due → Type 0
IsDue alarms under_way now moment (Comes time datagram) = IsFirst under_way time datagram × (moment ≡ max now time)
IsDue alarms under_way now moment (Ticks router) = (time : ℕ) × (slice_get alarms router ≡ Some (Some time)) × (moment ≡ max now time)

-- no router ticks sooner than at that moment
abbrev pub NoTickSooner : List (Option ℕ) → ℕ → ℕ → Type 0
NoTickSooner alarms now moment = (router time : ℕ) → slice_get alarms router ≡ Some (Some time) → moment ≤ max now time

-- no datagram comes sooner
abbrev pub NoDatagramSooner : Agenda → ℕ → ℕ → Type 0
NoDatagramSooner under_way now moment = (time datagram : ℕ) → Has under_way time datagram → moment ≤ max now time

-- what comes next, and when: nothing is due sooner, and what is overdue comes now
pub record IsNext (alarms : List (Option ℕ)) (under_way : Agenda) (now until moment : ℕ) (due : Due) : Type 0 where
  pub not_before : now ≤ moment
  pub in_time : moment ≤ until
  pub routers : NoTickSooner alarms now moment
  pub datagrams : NoDatagramSooner under_way now moment
  pub is_due : IsDue alarms under_way now moment due

-- each time is after a moment
pub record AreLater (alarms : List (Option ℕ)) (under_way : Agenda) (until : ℕ) : Type 0 where
  pub routers : (router time : ℕ) → slice_get alarms router ≡ Some (Some time) → until < time
  pub datagrams : (time datagram : ℕ) → Has under_way time datagram → until < time

-- each datagram from one number up to another sets out on its link at a moment, if it gets on its way
pub record HaveSetOut (asked : Asked) (lab : LabValue) (moment : ℕ) (timetable : Timetable) (first end : ℕ) (timetable' : Timetable) : Type 0 where
  pub links : timetable'.links ≡ timetable.links
  pub over : timetable'.over ≡ timetable.over
  pub kept : (time number : ℕ) → Has timetable.under_way time number → Has timetable'.under_way time number
  pub set : (number : ℕ) (d : Sent) → first ≤ number → number < end → slice_get lab.world.sent number ≡ Some d → IsTrue (is_carried asked lab number d)
      → Has timetable'.under_way (moment + (carriage_of timetable lab d).delay_ms) number
  pub only : (time number : ℕ) → Has timetable'.under_way time number
      → Has timetable.under_way time number ⊎ ((first ≤ number) × (number < end) × ((d : Sent) → slice_get lab.world.sent number ≡ Some d → time ≡ moment + (carriage_of timetable lab d).delay_ms))

-- nothing is due until a moment: no router that takes part has anything to do, and no datagram comes
pub record IsNothingDue (asked : Asked) (lab : LabValue) (under_way : Agenda) : Type 0 where
  pub routers : (router : ℕ) (s : State) → router < length lab.network → slice_get lab.world.states router ≡ Some s → IsTrue (takes_part asked router) → asked.until < wakes_at s
  pub datagrams : (time datagram : ℕ) → Has under_way time datagram → asked.until < time
