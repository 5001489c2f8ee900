-- What an observer is notified of in a network that runs, event by event.
use Rattle.std.specs.Prelude.{◌≡◌, ◌≢◌, ℕ, ◌≤◌, ⊤, ◌⊎◌, List, [], ◌∷◌, ◌++◌, take, length, All, Option, Some, None, Result, Ok, Err, slice_get}
use Rattle.ripng_world.specs.Below.{Answer, NoMemory, Stopped, Refused, Failed}
use Rattle.ripng_world.specs.Asked.{Asked}
use Rattle.ripng_world.specs.AskedRounds.{AreMade, round_of, ticks_of}
use Rattle.ripng_world.specs.Delivering.{WantsMemory}
use Rattle.ripng_world.specs.Labs.{LabValue}
use Rattle.ripng_world.specs.Network.{Network}
use Rattle.ripng_world.specs.Rounds.{Round, AllTick, IsDueTick, events_of_rounds}
use Rattle.ripng_world.specs.World.{World, Event, Happens}

-- the notice of an event that was done
pub record Told : Type 0 where
  pub lab : LabValue  -- as the event left it
  pub event : Event
  pub answer : Answer  -- of the router that moved, but for its sends
  pub first : ℕ  -- the number of the first datagram that it sent

-- the notice of an event that led from one world to another
abbrev pub telling : Network → World → Event → Answer → World → Told
telling net w e answer w' = record { lab = record { network = net; world = w' }; event = e; answer = record answer { sends = [] }; first = length w.sent }

-- the events happen one after another, each with an answer that fits. After each the observer is notified. World and observer are
-- a pair; `takes` says what one notice makes of the observer
abbrev pub WatchedRun : {V : Type 0} → (V → Told → V → Type 0) → (World → Event → Answer → Type 0) → Network → World × V → List Event → World × V → Type 0
WatchedRun takes fits net s [] s' = s' ≡ s
WatchedRun {V} takes fits net s (e ∷ events) s' =
    (mid : World × V) × (answer : Answer) × fits s.0 e answer × Happens net s.0 e answer mid.0 × takes s.1 (telling net s.0 e answer mid.0) mid.1
    × WatchedRun takes fits net mid events s'

-- each answer will do
abbrev pub any : World → Event → Answer → Type 0
any w e answer = ⊤

-- a tick at which the router's regular update is due
abbrev pub due : World → Event → Answer → Type 0
due w e answer = IsDueTick w e

-- memory suffices for every new route
abbrev pub heard : World → Event → Answer → Type 0
heard w e answer = All (λ n. n.kind ≢ NoMemory) answer.notes

-- memory ran out for some new route
abbrev pub wanting : World → Event → Answer → Type 0
wanting w e answer = WantsMemory answer

-- the events happen, with notices; the last ones, that many, are those at which the observer failed
pub record WatchedUntil {V : Type 0} (takes fails : V → Told → V → Type 0) (failures : ℕ) (net : Network) (s : World × V) (events : List Event) (s' : World × V) : Type 0 where
  pub done : List Event
  pub last : List Event
  pub events_are : events ≡ done ++ last
  pub as_many : length last ≡ failures
  pub before : World × V
  pub run : WatchedRun takes any net s done before
  pub failed : WatchedRun fails any net before last s'

-- some of the events happen so, from the first on, and no others
pub record WatchedInPart {V : Type 0} (takes fails : V → Told → V → Type 0) (failures : ℕ) (net : Network) (s : World × V) (events : List Event) (s' : World × V) : Type 0 where
  pub part : List Event
  pub left : List Event
  pub events_are : events ≡ part ++ left
  pub run : WatchedUntil takes fails failures net s part s'

-- how many notices failed: one, where the observer ended the call
abbrev pub failures : {R F : Type 0} → Stopped R F → ℕ
failures (Refused why) = 0
failures (Failed fault) = 1

-- the same of an outcome
abbrev pub failures_in : {X R F : Type 0} → Result X (Stopped R F) → ℕ
failures_in (Ok x) = 0
failures_in (Err why) = failures why

-- the refusal, if it is one
abbrev pub refusal : {R F : Type 0} → Stopped R F → Option R
refusal (Refused why) = Some why
refusal (Failed fault) = None

-- the same of an outcome
abbrev pub refusal_in : {X R F : Type 0} → Result X (Stopped R F) → Option R
refusal_in (Ok x) = None
refusal_in (Err why) = refusal why

-- a fact of the refusal, if it is one
abbrev pub IfRefused : {R F : Type 0} → Stopped R F → (R → Type 0) → Type 0
IfRefused (Refused why) P = P why
IfRefused (Failed fault) P = ⊤

-- the stop with another refusal in place of its own, if it is one
abbrev pub refused_as : {R Q F : Type 0} → Stopped R F → Q → Stopped Q F
refused_as (Refused why) other = Refused other
refused_as (Failed fault) other = Failed fault

-- ---- deliveries

-- the last delivery, if there is one. Where the call is refused, memory ran out at it for a new route; where the observer failed,
-- there is one, and it failed there
abbrev pub EndsAt : {V R F : Type 0} → (V → Told → V → Type 0) → (V → Told → V → Type 0) → Network → World × V → List Event → Stopped R F → World × V → Type 0
EndsAt takes fails net s last (Refused why) s' = (length last ≤ 1) × WatchedRun takes wanting net s last s'
EndsAt takes fails net s last (Failed fault) s' = (length last ≡ 1) × WatchedRun fails any net s last s'

-- the first few of the deliveries happen, with notices, and no others. Only at the last of them can memory run out for a new
-- route, or the observer fail
pub record HeardInPart {V R F : Type 0} (takes fails : V → Told → V → Type 0) (why : Stopped R F) (net : Network) (s : World × V) (events : List Event) (s' : World × V) : Type 0 where
  pub part : List Event
  pub last : List Event
  pub left : List Event
  pub events_are : events ≡ part ++ (last ++ left)
  pub before : World × V
  pub run : WatchedRun takes heard net s part before
  pub ends : EndsAt takes fails net before last why s'

-- ---- rounds

-- a round is made as it was asked for, with notices
abbrev pub IsMadeTold : {V : Type 0} → (V → Told → V → Type 0) → Network → World × V → Asked → World × V → Type 0
IsMadeTold {V} takes net s asked s' =
    (after : World × V) × WatchedRun takes due net s (round_of net asked s.0 after.0).ticks after × WatchedRun takes heard net after (round_of net asked s.0 after.0).deliveries s'

-- the same of several rounds; the notices are exactly of their events
abbrev pub AreMadeTold : {V : Type 0} → (V → Told → V → Type 0) → Network → World × V → List Asked → World × V → Type 0
AreMadeTold takes net s asked s' = (rounds : List Round) × AreMade net s.0 asked rounds s'.0 × WatchedRun takes any net s (events_of_rounds rounds) s'

-- these events are the beginning of a round: some of its ticks, or all of them and some of the deliveries that they lead to
abbrev pub AreFirstOf : Network → World → Asked → List Event → Type 0
AreFirstOf net w asked events =
    ((done : ℕ) × (events ≡ take done (ticks_of asked.ticks)))
    ⊎ ((after_ticks : World) × AllTick net w (ticks_of asked.ticks) after_ticks
    × (done : ℕ) × (events ≡ ticks_of asked.ticks ++ take done (round_of net asked w after_ticks).deliveries))

-- some of a round happens, with notices
pub record RoundToldInPart {V : Type 0} (takes fails : V → Told → V → Type 0) (failures : ℕ) (net : Network) (s : World × V) (asked : Asked) (s' : World × V) : Type 0 where
  pub events : List Event
  pub first : AreFirstOf net s.0 asked events
  pub run : WatchedUntil takes fails failures net s events s'

-- some rounds are made, with notices, and then some of the next one
pub record RoundsToldInPart {V : Type 0} (takes fails : V → Told → V → Type 0) (failures : ℕ) (net : Network) (s : World × V) (asked : List Asked) (s' : World × V) : Type 0 where
  pub made : ℕ
  pub begin : World × V
  pub told : AreMadeTold takes net s (take made asked) begin
  pub stopped : Asked
  pub stopped_is : slice_get asked made ≡ Some stopped
  pub in_part : RoundToldInPart takes fails failures net begin stopped s'
