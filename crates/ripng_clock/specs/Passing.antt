-- What a run is: which events happen in it, and in which order.
use Rattle.std.specs.Prelude.{◌≡◌, ℕ, ◌<◌, ◌≤◌, max, ⊤, IsTrue, List, [], ◌∷◌, ◌++◌, Option, Some, length, slice_get, Result, Ok, Err}
use Rattle.ripng_clock.specs.Below.{AllByRecursion, State, wakes_at, Event, Deliver, LabValue, Network, Tick, Told, World, moment_of, EndsAt, Stopped, Refused, Step, events_of, IsLatest, TellsSteps, RunRefused, BeforeBegin, TooManyEvents, OutOfMemory, Timetable}
use Rattle.ripng_clock.specs.Carrying.{Asked, takes_part}

-- a router that takes part ticks, or a datagram comes to it
abbrev pub IsOwn : Asked → Event → Type 0
IsOwn asked (Tick router now word) = IsTrue (takes_part asked router)
IsOwn asked (Deliver datagram router iface now) = IsTrue (takes_part asked router)
IsOwn asked _ = ⊥

-- the events happen in the order of time, from one moment on until another
abbrev pub AreInOrder : ℕ → List Event → ℕ → Type 0
AreInOrder low [] high = low ≤ high
AreInOrder low (e ∷ events) high = (low ≤ moment_of e) × AreInOrder (moment_of e) events high

-- when a run begins: at the last moment of all routers, or where the last run ended if that is later
pub record IsBegin (lab : LabValue) (timetable : Timetable) (begin : ℕ) : Type 0 where
  pub latest : ℕ
  pub latest_is : IsLatest lab.world.states (length lab.network) latest
  pub begin_is : begin ≡ max latest timetable.over

-- what has happened from one moment until another
pub record HasPassed {V : Type 0} (takes : V → Told → V → Type 0) (asked : Asked) (s : LabValue × V) (begin now : ℕ) (s' : LabValue × V) : Type 0 where
  pub network : s'.0.network ≡ s.0.network
  pub steps : List Step
  pub tells : TellsSteps takes s.0.network (s.0.world, s.1) steps (s'.0.world, s'.1)
  pub own : AllByRecursion (IsOwn asked) (events_of steps)
  pub in_order : AreInOrder begin (events_of steps) now

-- an event of that kind stops the run, because memory ran out for a new route or the observer failed; or no event does
pub record IsLast {V F : Type 0} (takes fails : V → Told → V → Type 0) (kind : Event → Type 0) (net : Network) (s : World × V) (why : Stopped RunRefused F) (s' : World × V) : Type 0 where
  pub last : List Event
  pub only : AllByRecursion kind last
  pub ends : EndsAt takes fails net s last why s'

-- an event of the run at a moment
abbrev pub IsOwnAt : Asked → ℕ → Event → Type 0
IsOwnAt asked now e = IsOwn asked e × (moment_of e ≡ now)

-- where the run would end before it begins, nothing is done; other reasons come at any time
abbrev pub IsReason : {F : Type 0} → Stopped RunRefused F → ℕ → ℕ → List Step → Type 0
IsReason (Refused (BeforeBegin moment)) begin until steps = (moment ≡ begin) × (until < begin) × (steps ≡ [])
IsReason _ begin until steps = ⊤

-- a run until it stopped
pub record IsCutShort {V F : Type 0} (takes fails : V → Told → V → Type 0) (asked : Asked) (s : LabValue × V) (begin : ℕ) (why : Stopped RunRefused F) (s' : LabValue × V) : Type 0 where
  pub network : s'.0.network ≡ s.0.network
  pub now : ℕ
  pub steps : List Step
  pub before : World × V
  pub tells : TellsSteps takes s.0.network (s.0.world, s.1) steps before
  pub own : AllByRecursion (IsOwn asked) (events_of steps)
  pub in_order : AreInOrder begin (events_of steps) now
  pub ends : IsLast takes fails (IsOwnAt asked now) s.0.network before why (s'.0.world, s'.1)
  pub reason : IsReason why begin asked.until steps

-- the time until a moment has passed: each event of the run is an observed event of the network, in the order of time
pub record IsRun {V : Type 0} (takes : V → Told → V → Type 0) (asked : Asked) (timetable : Timetable) (s s' : LabValue × V) : Type 0 where
  pub begin : ℕ
  pub begin_is : IsBegin s.0 timetable begin
  pub passed : HasPassed takes asked s begin asked.until s'

-- so it is until the run stops
pub record IsRunInPart {V F : Type 0} (takes fails : V → Told → V → Type 0) (asked : Asked) (timetable : Timetable) (s : LabValue × V) (why : Stopped RunRefused F) (s' : LabValue × V) : Type 0 where
  pub begin : ℕ
  pub begin_is : IsBegin s.0 timetable begin
  pub cut : IsCutShort takes fails asked s begin why s'
