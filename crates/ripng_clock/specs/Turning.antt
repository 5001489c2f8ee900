-- What a run does, turn by turn.
use Rattle.std.specs.Prelude.{◌≡◌, ℕ, ◌+◌, ◌<◌, max, IsTrue, List, [], ◌∷◌, map, Option, Some, length, slice_get, slice_set}
use Rattle.ripng_clock.specs.Below.{AllByRecursion, Event, Deliver, LabValue, Sent, Tick, Told, router_of, Step, events_of, TellsSteps, Due, Comes, Ticks, Timetable}
use Rattle.ripng_clock.specs.declared.due.Course.{Course}
use Rattle.ripng_clock.specs.Agenda.{IsRemoved}
use Rattle.ripng_clock.specs.Carrying.{Asked, carriage_of, is_carried, receivers_of}
use Rattle.ripng_clock.specs.Ending.{HaveSetOut, IsNext, alarm_of}
use Rattle.ripng_clock.specs.Passing.{IsOwnAt}

-- where a run stands, with its observer
pub record Place (V : Type 0) : Type 0 where
  pub lab : LabValue
  pub watch : V
  pub timetable : Timetable
  pub moment : ℕ
  pub next : ℕ  -- the number of the first datagram that has not set out
  pub alarms : List (Option ℕ)

-- where it stands by its course
abbrev pub place : {V : Type 0} → LabValue → V → Timetable → Course → Place V
place lab watch timetable course = record { lab = lab; watch = watch; timetable = timetable; moment = course.moment; next = course.next; alarms = course.alarms }

-- an event happens, with a notice. What was sent by then sets out, and its router has its next time
pub record IsStep {V : Type 0} (takes : V → Told → V → Type 0) (asked : Asked) (p : Place V) (x : Step) (p' : Place V) : Type 0 where
  pub network : p'.lab.network ≡ p.lab.network
  pub tells : TellsSteps takes p.lab.network (p.lab.world, p.watch) (x ∷ []) (p'.lab.world, p'.watch)
  pub own : IsOwnAt asked p.moment x.event
  pub there : router_of x.event < length p.lab.network
  pub set_out : HaveSetOut asked p'.lab p.moment p.timetable p.next p'.next p'.timetable
  pub next_is : p'.next ≡ max p.next (length p'.lab.world.sent)
  pub moment_is : p'.moment ≡ p.moment
  pub alarms_are : p'.alarms ≡ slice_set p.alarms (router_of x.event) (alarm_of asked p'.lab.world (router_of x.event))

-- events happen so, one after another
abbrev pub AreSteps : {V : Type 0} → (V → Told → V → Type 0) → Asked → Place V → List Step → Place V → Type 0
AreSteps takes asked p [] p' = p' ≡ p
AreSteps {V} takes asked p (x ∷ steps) p' = (mid : Place V) × IsStep takes asked p x mid × AreSteps takes asked mid steps p'

-- the datagram comes to the interface
abbrev pub comes_to : ℕ → ℕ → ℕ × ℕ → Event
comes_to datagram moment at = Deliver datagram at.0 at.1 moment

-- a datagram that gets on its way comes, once to each of its receivers where its link loses nothing
pub record IsBroughtBy (asked : Asked) (timetable : Timetable) (lab : LabValue) (datagram moment : ℕ) (events : List Event) : Type 0 where
  pub only_this : AllByRecursion (λ e. (at : ℕ × ℕ) × (e ≡ comes_to datagram moment at)) events
  pub to_all : (d : Sent) → slice_get lab.world.sent datagram ≡ Some d → IsTrue (is_carried asked lab datagram d) → (carriage_of timetable lab d).loss ≡ 0
      → events ≡ map (comes_to datagram moment) (receivers_of asked lab d)

-- what is due happens: a router ticks, or a datagram comes and is under way no longer
abbrev pub IsDone : {V : Type 0} → (V → Told → V → Type 0) → Asked → Due → Place V → List Step → Place V → Type 0
IsDone takes asked (Ticks router) p steps p' = AreSteps takes asked p steps p' × ((word : ℕ) × (events_of steps ≡ Tick router p.moment word ∷ []))
IsDone {V} takes asked (Comes time datagram) p steps p' =
    (mid : Place V) × AreSteps takes asked p steps mid × IsBroughtBy asked p.timetable p.lab datagram p.moment (events_of steps)
    × IsRemoved mid.timetable.under_way time datagram p'.timetable.under_way × (p'.timetable.links ≡ mid.timetable.links) × (p' ≡ record mid { timetable = p'.timetable })

-- what comes next happens
pub record IsTurn {V : Type 0} (takes : V → Told → V → Type 0) (asked : Asked) (p : Place V) (steps : List Step) (p' : Place V) : Type 0 where
  pub moment : ℕ
  pub due : Due
  pub is_next : IsNext p.alarms p.timetable.under_way p.moment asked.until moment due
  pub done : IsDone takes asked due (record p { moment = moment }) steps p'

-- turn after turn
abbrev pub AreTurns : {V : Type 0} → (V → Told → V → Type 0) → Asked → Place V → List (List Step) → Place V → Type 0
AreTurns takes asked p [] p' = p' ≡ p
AreTurns {V} takes asked p (steps ∷ turns) p' = (mid : Place V) × IsTurn takes asked p steps mid × AreTurns takes asked mid turns p'
