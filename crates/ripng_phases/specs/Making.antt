-- Phases as a lab makes them. Each is one minute by a true clock, in which datagrams are handed on in the order in which they were sent.
use Rattle.std.specs.Prelude.{◌≡◌, ◌≢◌, ℕ, ◌+◌, ◌*◌, ◌^◌, ◌<◌, ◌≤◌, ⊤, ◌⊎◌, Bool, IsTrue, List, [], ◌∷◌, ◌++◌, length, All, Contains, Option, Some, Result, Ok, Err, slice_get}
use Rattle.ripng_phases.specs.Below.{AllByRecursion, State, NoMemory, IsNeverQuiet, network_now, FitsTablesSince, AreHealed, LabValue, Network, AreLinked, PacketsArrive, IsDueTick, moment_of, Told, EndsAt, IfRefused, telling, World, Event, Deliver, Tick, Happens, past_of, Sent, Stopped, Refused, Course, Update, PhaseRefused, NoUpdateInTime, PastLastMoment, OutOfMemory}
use Rattle.ripng_phases.specs.Changing.{IsLastChange}
use Rattle.ripng_phases.specs.Phases.{Step, IsOrdinary, IsHeardUpdate, Phases, Begun, events_of, reached, steps_of}

-- ---- notices of steps

-- the steps happen one after another, each an ordinary event; memory suffices for every new route, and the observer is notified of each
abbrev pub TellsSteps : {V : Type 0} → (V → Told → V → Type 0) → Network → World × V → List Step → World × V → Type 0
TellsSteps takes net s [] s' = s' ≡ s
TellsSteps {V} takes net s (x ∷ steps) s' =
    (v : V) × IsOrdinary x.event × Happens net s.0 x.event x.answer x.after × All (λ n. n.kind ≢ NoMemory) x.answer.notes
    × takes s.1 (telling net s.0 x.event x.answer x.after) v × TellsSteps takes net (x.after, v) steps s'

-- an event stops a call, because memory ran out for a new route or the observer failed; or no event does
abbrev pub IsLast : {V F : Type 0} → (V → Told → V → Type 0) → (V → Told → V → Type 0) → Network → World × V → Stopped PhaseRefused F → World × V → Type 0
IsLast takes fails net s why s' = (last : List Event) × EndsAt takes fails net s last why s'

-- ---- what is asked of a phase

-- `count` phases are made, the last change of a table is in one of them or in none, and the observer is notified of exactly their events
pub record AreMadePhases {V : Type 0} (takes : V → Told → V → Type 0) (net : Network) (s : World × V) (count : ℕ) (last : Option ℕ) (s' : World × V) : Type 0 where
  pub phases : List (List Step)
  pub as_many : length phases ≡ count
  pub are : Phases net s.0 phases s'.0
  pub changed : IsLastChange net s.0 phases last
  pub told : TellsSteps takes net s (steps_of phases) s'

-- the regular update of a router is not due before the minute is over, or ever; or the minute begins past all moments
abbrev pub IsTooLate : {F : Type 0} → Stopped PhaseRefused F → ℕ → World → Type 0
IsTooLate (Refused (NoUpdateInTime router)) begin w = (state : State) → slice_get w.states router ≡ Some state → (begin + 60_000 ≤ state.regular) ⊎ (2 ^ 60 < state.regular)
IsTooLate (Refused PastLastMoment) begin w = 2 ^ 60 < begin
IsTooLate _ begin w = ⊤

-- the last moment of the first `count` routers, or 0
pub record IsLatest (states : List State) (count latest : ℕ) : Type 0 where
  pub none_later : (router : ℕ) (s : State) → router < count → slice_get states router ≡ Some s → s.last ≤ latest
  pub one_is : (latest ≡ 0) ⊎ ((router : ℕ) × (s : State) × (slice_get states router ≡ Some s) × (s.last ≡ latest))

-- `count` phases are made, a minute each from the last moment of all routers; then some of the next one happens, all with notices, up to where the call stops
pub record AreMadeInPart {V F : Type 0} (takes fails : V → Told → V → Type 0) (net : Network) (s : World × V) (count : ℕ) (why : Stopped PhaseRefused F) (s' : World × V) : Type 0 where
  pub phases : List (List Step)
  pub since : List Step
  pub before : World × V
  pub as_many : length phases ≡ count
  pub begun : Begun net s.0 phases since before.0
  pub told : TellsSteps takes net s (steps_of phases ++ since) before
  pub ends : IsLast takes fails net before why s'
  pub latest : ℕ
  pub latest_is : IsLatest s.0.states (length net) latest
  pub too_late : IsTooLate why (latest + 60_000 * count) s'.0

-- whatever happened before, 28 phases leave each table with the least costs of now, and nothing else below infinity
abbrev pub HealsIn : Network → World → ℕ → World → Type 0
HealsIn net w count w' = IsNeverQuiet net → FitsTablesSince (past_of net w) → 28 ≤ count → AreHealed (network_now (past_of net w')) w'

-- so packets arrive
abbrev pub LetsArriveIn : Network → World → ℕ → World → Type 0
LetsArriveIn net w count w' = IsNeverQuiet net → FitsTablesSince (past_of net w) → 28 ≤ count → PacketsArrive (network_now (past_of net w')) w'

-- ---- a phase under way

-- deliveries bring datagrams in the order in which they were sent, from one number on, and none past another
abbrev pub IsRising : ℕ → List Event → ℕ → Type 0
IsRising low [] high = low ≤ high
IsRising low (Deliver datagram router iface now ∷ events) high = (low ≤ datagram) × IsRising datagram events high
IsRising low (e ∷ events) high = IsRising low events high

-- the event happens in a minute
abbrev pub IsInMinute : ℕ → Event → Type 0
IsInMinute begin e = (begin ≤ moment_of e) × (moment_of e < begin + 60_000)

-- the datagram comes to each other interface of its link, among these events
abbrev pub IsHandedOn : Network → List Event → ℕ → Sent → Type 0
IsHandedOn net events datagram d =
    (router iface : ℕ) → AreLinked net d.router d.iface router iface → (router ≢ d.router) ⊎ (iface ≢ d.iface)
    → (moment : ℕ) × Contains events (Deliver datagram router iface moment)

-- a regular update of the router, of which the datagrams before a number are handed on
pub record IsUpdateTold (net : Network) (w : World) (steps : List Step) (router : ℕ) (update : Update) (next : ℕ) : Type 0 where
  pub before : List Step
  pub tick : Step
  pub after : List Step
  pub parts : steps ≡ before ++ tick ∷ after
  pub now : ℕ
  pub word : ℕ
  pub ticks : tick.event ≡ Tick router now word
  pub due : IsDueTick (reached w before) (Tick router now word)
  pub first_is : update.first ≡ length (reached w before).sent
  pub end_is : update.end ≡ length tick.after.sent
  pub handed_on : (datagram : ℕ) (d : Sent) → update.first ≤ datagram → datagram < next → slice_get tick.after.sent datagram ≡ Some d → IsHandedOn net (events_of after) datagram d

-- what has happened since a phase began with a datagram and a moment, as its course has it
pub record IsUnderway {V : Type 0} (takes : V → Told → V → Type 0) (s : LabValue × V) (first begin : ℕ) (course : Course) (s' : LabValue × V) : Type 0 where
  pub network : s'.0.network ≡ s.0.network
  pub steps : List Step
  pub tells : TellsSteps takes s.0.network (s.0.world, s.1) steps (s'.0.world, s'.1)
  pub in_minute : AllByRecursion (IsInMinute begin) (events_of steps)
  pub in_order : IsRising first (events_of steps) course.next
  pub ends : course.end ≡ begin + 60_000
  pub not_before : begin ≤ course.moment
  pub in_time : course.moment < begin + 60_000
  pub updates : (router : ℕ) (u : Update) → slice_get course.told.items router ≡ Some (Some u) → IsUpdateTold s.0.network s.0.world steps router u course.next × (u.end ≤ course.until)
  pub begun : length s.0.world.sent ≤ course.until
  pub sent : course.until ≤ length s'.0.world.sent
  pub next_in : course.next ≤ length s'.0.world.sent

-- what happened until a phase stopped
pub record IsCutShort {V F : Type 0} (takes fails : V → Told → V → Type 0) (s : LabValue × V) (first begin : ℕ) (why : Stopped PhaseRefused F) (s' : LabValue × V) : Type 0 where
  pub network : s'.0.network ≡ s.0.network
  pub steps : List Step
  pub before : World × V
  pub tells : TellsSteps takes s.0.network (s.0.world, s.1) steps before
  pub in_minute : AllByRecursion (IsInMinute begin) (events_of steps)
  pub high : ℕ
  pub in_order : IsRising first (events_of steps) high
  pub ends : IsLast takes fails s.0.network before why (s'.0.world, s'.1)
  pub too_late : IsTooLate why begin s'.0.world

-- from whatever beginning, a phase that is under way still is; or it stops
abbrev pub GoesOn : {X V F : Type 0} → (V → Told → V → Type 0) → (V → Told → V → Type 0) → Result X (Stopped PhaseRefused F) → LabValue × V → Course → LabValue × V → Course → Type 0
GoesOn {V = V} takes fails (Ok x) old course new course' =
    (s : LabValue × V) (first begin : ℕ) → IsUnderway takes s first begin course old → IsUnderway takes s first begin course' new
GoesOn {V = V} takes fails (Err why) old course new course' =
    (s : LabValue × V) (first begin : ℕ) → IsUnderway takes s first begin course old → IsCutShort takes fails s first begin why new

-- a whole phase, from a datagram and a moment on, which leaves the datagrams from a number on
pub record IsMadePhase {V : Type 0} (takes : V → Told → V → Type 0) (s : LabValue × V) (first begin next : ℕ) (s' : LabValue × V) : Type 0 where
  pub network : s'.0.network ≡ s.0.network
  pub steps : List Step
  pub tells : TellsSteps takes s.0.network (s.0.world, s.1) steps (s'.0.world, s'.1)
  pub in_minute : AllByRecursion (IsInMinute begin) (events_of steps)
  pub in_order : IsRising first (events_of steps) next
  pub told : (router : ℕ) → router < length s.0.network → IsHeardUpdate s.0.network s.0.world steps router
  pub handed_on : length s.0.world.sent ≤ next
  pub next_in : next ≤ length s'.0.world.sent

-- ---- small things

-- the datagram is of a regular update that was sent
pub record IsKept (told : List (Option Update)) (datagram : ℕ) : Type 0 where
  pub router : ℕ
  pub update : Update
  pub update_is : slice_get told router ≡ Some (Some update)
  pub since : update.first ≤ datagram
  pub before : datagram < update.end

-- the regular update of one router is added
pub record IsAdded (told : List (Option Update)) (router : ℕ) (update : Update) (told' : List (Option Update)) : Type 0 where
  pub as_many : length told' ≡ length told
  pub here : router < length told → slice_get told' router ≡ Some (Some update)
  pub others : (other : ℕ) (u : Update) → slice_get told' other ≡ Some (Some u) → ((other ≡ router) × (u ≡ update)) ⊎ (slice_get told other ≡ Some (Some u))
  pub kept : (other : ℕ) (u : Update) → slice_get told other ≡ Some (Some u) → (v : Update) × (slice_get told' other ≡ Some (Some v))

-- a delivery of the datagram at the moment
abbrev pub IsDeliveryAt : ℕ → ℕ → Event → Type 0
IsDeliveryAt datagram moment (Deliver number router iface now) = (number ≡ datagram) × (now ≡ moment)
IsDeliveryAt datagram moment _ = ⊥

-- a datagram is delivered at a moment, to each of these interfaces where it is kept
pub record IsHanded {V : Type 0} (takes : V → Told → V → Type 0) (net : Network) (s : World × V) (datagram moment : ℕ) (keeps : Bool) (receivers : List (ℕ × ℕ)) (s' : World × V) : Type 0 where
  pub steps : List Step
  pub tells : TellsSteps takes net s steps s'
  pub only_this : AllByRecursion (IsDeliveryAt datagram moment) (events_of steps)
  pub each : IsTrue keeps → (r : ℕ × ℕ) → Contains receivers r → Contains (events_of steps) (Deliver datagram r.0 r.1 moment)

-- so it is until the call stops
pub record IsHandedInPart {V F : Type 0} (takes fails : V → Told → V → Type 0) (net : Network) (s : World × V) (datagram moment : ℕ) (why : Stopped PhaseRefused F) (s' : World × V) : Type 0 where
  pub steps : List Step
  pub before : World × V
  pub tells : TellsSteps takes net s steps before
  pub only_this : AllByRecursion (IsDeliveryAt datagram moment) (events_of steps)
  pub ends : IsLast takes fails net before why s'
  pub memory : IfRefused why (λ refusal. refusal ≡ OutOfMemory)
