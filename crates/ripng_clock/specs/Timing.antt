-- When a run is a timely history, so that what heals a network in minutes is said of it.
use Rattle.std.specs.Prelude.{◌≡◌, ℕ, ◌+◌, ◌*◌, ◌<◌, ◌≤◌, List, Some, length, slice_get}
use Rattle.ripng_clock.specs.Below.{State, HasRun, IsNeverQuiet, FitsTablesSince, AreHealed, network_now, past_of, LabValue, Sent, IsTimely, Timed, Timetable}
use Rattle.ripng_clock.specs.Agenda.{Has}
use Rattle.ripng_clock.specs.Carrying.{Asked, AllTakePart, carriage_of, carriage_on}
use Rattle.ripng_clock.specs.Passing.{IsBegin}

-- everything takes part, nothing is lost, and each datagram comes in less than 13 seconds
pub record IsCalm (asked : Asked) (timetable : Timetable) : Type 0 where
  pub all : AllTakePart asked
  pub whole : (link : ℕ) → (carriage_on timetable link).loss ≡ 0
  pub short : (link : ℕ) → (carriage_on timetable link).delay_ms < 13_000

-- what is under way as a run begins was sent before all that sets out then, comes no later than that, and keeps the order in which
-- each interface sent it
pub record IsOrderly (asked : Asked) (timetable : Timetable) (lab : LabValue) (begin : ℕ) : Type 0 where
  pub first : asked.first ≤ length lab.world.sent
  pub older : (time number : ℕ) → Has timetable.under_way time number → number < asked.first
  pub soon : (time number : ℕ) (d : Sent) → Has timetable.under_way time number → slice_get lab.world.sent number ≡ Some d → time ≤ begin + (carriage_of timetable lab d).delay_ms
  pub in_order : (time number time' number' : ℕ) (d d' : Sent) → Has timetable.under_way time number → Has timetable.under_way time' number'
      → slice_get lab.world.sent number ≡ Some d → slice_get lab.world.sent number' ≡ Some d' → (d.router ≡ d'.router) × (d.iface ≡ d'.iface) → number < number' → time ≤ time'

-- the network has run, and the next regular update of each router is due in less than 45 seconds
pub record IsDueSoon (lab : LabValue) (begin : ℕ) : Type 0 where
  pub has_run : HasRun lab.network lab.world
  pub regular : (router : ℕ) (s : State) → slice_get lab.world.states router ≡ Some s → s.regular < begin + 45_000

-- from a moment on the run is a timely history, if it begins so
abbrev pub IsTimelyFrom : Asked → Timetable → LabValue → LabValue → ℕ → Type 0
IsTimelyFrom asked timetable lab lab' begin =
    IsCalm asked timetable → IsOrderly asked timetable lab begin → IsDueSoon lab begin
    → (history : List Timed) × IsTimely lab.network lab.world history begin (asked.until + 1) lab'.world

-- where it takes 28 minutes it then heals the network, whatever happened before
abbrev pub HealsFrom : Asked → Timetable → LabValue → LabValue → ℕ → Type 0
HealsFrom asked timetable lab lab' begin =
    IsCalm asked timetable → IsOrderly asked timetable lab begin → IsDueSoon lab begin → IsNeverQuiet lab.network → FitsTablesSince (past_of lab.network lab.world)
    → begin + 28 * 60_000 ≤ asked.until + 1 → AreHealed (network_now (past_of lab.network lab'.world)) lab'.world

-- both, from the moment where the run begins
abbrev pub IsTimelyRun : Asked → Timetable → LabValue → LabValue → Type 0
IsTimelyRun asked timetable lab lab' = (begin : ℕ) × IsBegin lab timetable begin × IsTimelyFrom asked timetable lab lab' begin × HealsFrom asked timetable lab lab' begin
