-- Phases: stretches of a network's history in which all that matters gets through once, with no rounds and no common clock.
use Rattle.std.specs.Prelude.{◌≡◌, ◌≢◌, ℕ, ◌+◌, ◌<◌, ◌≤◌, ◌⊎◌, List, [], ◌∷◌, ◌++◌, map, length, flat_map, All, Contains, Some, slice_get}
use Rattle.ripng_phases.specs.Below.{garbage_time, Answer, NoMemory, Network, AreLinked, World, Event, Deliver, Tick, Restart, Shutdown, LinkDown, Reconfigure, Happens, Round, IsDueTick, IsMomentOf, moment_of, router_of, Sent}

-- ---- what happens in a phase

-- an event, what its router answered, and the world after it
pub record Step : Type 0 where
  pub event : Event
  pub answer : Answer
  pub after : World

-- it starts no router anew and shuts none down, takes no link down, and changes no configuration. A router may ask its neighbors for
-- their tables, as when a link comes up: that changes no table (RFC 2080, 2.4.1)
abbrev pub IsOrdinary : Event → Type 0
IsOrdinary (Restart router now) = ⊥
IsOrdinary (Shutdown router now) = ⊥
IsOrdinary (LinkDown router now on) = ⊥
IsOrdinary (Reconfigure router now c) = ⊥
IsOrdinary _ = Unit {0}

-- the steps happen one after another, each an ordinary event, and memory suffices for every new route
abbrev pub Takes : Network → World → List Step → World → Type 0
Takes net w [] w' = w' ≡ w
Takes net w (s ∷ steps) w' =
    IsOrdinary s.event × Happens net w s.event s.answer s.after × All (λ n. n.kind ≢ NoMemory) s.answer.notes × Takes net s.after steps w'

-- the world after steps
abbrev pub reached : World → List Step → World
reached w [] = w
reached w (s ∷ steps) = reached s.after steps

-- their events
abbrev pub events_of : List Step → List Event
events_of steps = map (λ s. s.event) steps

-- ---- what gets through

-- a regular update of the router, of which each datagram comes afterwards to every other interface of its link
pub record IsHeardUpdate (net : Network) (w : World) (steps : List Step) (router : ℕ) : Type 0 where
  pub before : List Step
  pub tick : Step
  pub after : List Step
  pub parts : steps ≡ before ++ tick ∷ after
  pub now : ℕ
  pub word : ℕ
  pub ticks : tick.event ≡ Tick router now word
  pub due : IsDueTick (reached w before) (Tick router now word)
  pub heard : (datagram other iface : ℕ) (d : Sent)
      → length (reached w before).sent ≤ datagram → slice_get tick.after.sent datagram ≡ Some d → AreLinked net d.router d.iface other iface
      → (other ≢ d.router) ⊎ (iface ≢ d.iface)
      → (moment : ℕ) × Contains (events_of after) (Deliver datagram other iface moment)

-- `count` datagrams had been sent at some moment of the steps
pub record IsCount (w : World) (steps : List Step) (count : ℕ) : Type 0 where
  pub before : List Step
  pub after : List Step
  pub parts : steps ≡ before ++ after
  pub count_is : count ≡ length (reached w before).sent

-- a datagram is delivered to an interface after one that was sent later from the same interface to it
pub record IsOvertaken (counts : ℕ → Type 0) (w : World) (steps : List Step) : Type 0 where
  pub before : List Step
  pub later : Step
  pub between : List Step
  pub earlier : Step
  pub after : List Step
  pub parts : steps ≡ before ++ later ∷ between ++ earlier ∷ after
  pub new : ℕ
  pub old : ℕ
  pub router : ℕ
  pub iface : ℕ
  pub now : ℕ
  pub moment : ℕ
  pub first : later.event ≡ Deliver new router iface now
  pub second : earlier.event ≡ Deliver old router iface moment
  pub new_sent : Sent
  pub old_sent : Sent
  pub new_is : slice_get (reached w steps).sent new ≡ Some new_sent
  pub old_is : slice_get (reached w steps).sent old ≡ Some old_sent
  pub same_router : new_sent.router ≡ old_sent.router
  pub same_iface : new_sent.iface ≡ old_sent.iface
  pub count : ℕ
  pub counted : counts count
  pub old_before : old < count
  pub new_after : count ≤ new

-- a router moves at that moment in the steps
pub record IsMomentIn (steps : List Step) (router moment : ℕ) : Type 0 where
  pub event : Event
  pub happens : Contains (events_of steps) event
  pub router_is : router_of event ≡ router
  pub moment_is : moment_of event ≡ moment

-- ---- phases

-- what is known of the phase before: from which number on it sent, how many had been sent at its moments, and when its routers moved
pub record Before : Type 1 where
  pub first : ℕ
  pub counts : ℕ → Type 0
  pub moments : ℕ → ℕ → Type 0

-- two moments of a router in the steps, or in them and before, are less than the garbage time apart
abbrev pub AreNear : Before → List Step → Type 0
AreNear past steps = (router x y : ℕ) → past.moments router x ⊎ IsMomentIn steps router x → IsMomentIn steps router y
    → (x < y + garbage_time) × (y < x + garbage_time)

-- one phase, by its four rules
pub record IsPhase (net : Network) (past : Before) (w : World) (steps : List Step) (w' : World) : Type 0 where
  pub takes : Takes net w steps w'
  pub told : (router : ℕ) → router < length net → IsHeardUpdate net w steps router
  pub recent : (datagram router iface now : ℕ) → Contains (events_of steps) (Deliver datagram router iface now) → past.first ≤ datagram
  pub in_order : IsOvertaken (λ count. past.counts count ⊎ IsCount w steps count) w steps → ⊥
  pub close : AreNear past steps

-- what the next phase has before it
abbrev pub before_next : World → List Step → Before
before_next w steps = record { first = length w.sent; counts = IsCount w steps; moments = IsMomentIn steps }

-- phases one after another
abbrev pub PhasesAfter : Network → Before → World → List (List Step) → World → Type 0
PhasesAfter net past w [] w' = w' ≡ w
PhasesAfter net past w (steps ∷ phases) w' = (mid : World) × IsPhase net past w steps mid × PhasesAfter net (before_next w steps) mid phases w'

-- the same from the first phase on, in which any datagram may still come that was ever sent
abbrev pub Phases : Network → World → List (List Step) → World → Type 0
Phases net w phases w' = PhasesAfter net (record { first = 0; counts = λ _. ⊥; moments = λ _ _. ⊥ }) w phases w'

-- what has happened since the last phase was over: no update needs to come yet, and nothing needs to come in order
pub record IsBegun (net : Network) (past : Before) (w : World) (steps : List Step) (w' : World) : Type 0 where
  pub takes : Takes net w steps w'
  pub recent : (datagram router iface now : ℕ) → Contains (events_of steps) (Deliver datagram router iface now) → past.first ≤ datagram
  pub close : AreNear past steps

-- phases one after another, and what has happened since
abbrev pub BegunAfter : Network → Before → World → List (List Step) → List Step → World → Type 0
BegunAfter net past w [] since w' = IsBegun net past w since w'
BegunAfter net past w (steps ∷ phases) since w' = (mid : World) × IsPhase net past w steps mid × BegunAfter net (before_next w steps) mid phases since w'

-- the same from the first phase on, at any moment
abbrev pub Begun : Network → World → List (List Step) → List Step → World → Type 0
Begun net w phases since w' = BegunAfter net (record { first = 0; counts = λ _. ⊥; moments = λ _ _. ⊥ }) w phases since w'

-- all steps of phases, in order
abbrev pub steps_of : List (List Step) → List Step
steps_of phases = flat_map (λ steps. steps) phases

-- ---- rounds, as phases

-- two moments of a router in one round, or in it and the round before, are less than a garbage time apart
abbrev pub AreCloseAfter : (ℕ → ℕ → Type 0) → List Round → Type 0
AreCloseAfter before [] = Unit {0}
AreCloseAfter before (round ∷ rounds) =
    ((router x y : ℕ) → before router x ⊎ IsMomentOf round router x → IsMomentOf round router y → (x < y + garbage_time) × (y < x + garbage_time))
    × AreCloseAfter (IsMomentOf round) rounds

-- the same from the first round on
abbrev pub AreClose : List Round → Type 0
AreClose rounds = AreCloseAfter (λ _ _. ⊥) rounds

-- all that happens in rounds, in order
abbrev pub events_in : List Round → List Event
events_in rounds = flat_map (λ r. r.ticks ++ r.deliveries) rounds

-- phases that are exactly these rounds
pub record ArePhases (net : Network) (w : World) (rounds : List Round) (w' : World) : Type 0 where
  pub phases : List (List Step)
  pub are : Phases net w phases w'
  pub as_many : length phases ≡ length rounds
  pub same_events : events_of (steps_of phases) ≡ events_in rounds
