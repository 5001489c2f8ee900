-- Rounds in which every router advertises its whole table, and every datagram arrives.
use Rattle.std.specs.Prelude.{◌≡◌, ◌≢◌, ℕ, ◌+◌, ◌<◌, ◌≤◌, max, ◌⊎◌, List, [], ◌∷◌, ◌++◌, map, length, All, Contains, Some, slice_get, nat_eq, flat_map}
use Rattle.ripng_world.specs.Below.{IsDistinct, timeout, State, Answer, NoMemory, Sent}
use Rattle.ripng_world.specs.Network.{Network, AreLinked}
use Rattle.ripng_world.specs.World.{World, Event, Deliver, Stranger, Tick, Restart, Shutdown, LinkDown, LinkUp, Reconfigure, Happens}

-- the ticks of a round, and then its deliveries
pub record Round : Type 0 where
  pub ticks : List Event
  pub deliveries : List Event

-- the router that an event happens to
abbrev pub router_of : Event → ℕ
router_of (Deliver datagram router iface now) = router
router_of (Stranger router x) = router
router_of (Tick router now word) = router
router_of (Restart router now) = router
router_of (Shutdown router now) = router
router_of (LinkDown router now on) = router
router_of (LinkUp router now on) = router
router_of (Reconfigure router now c) = router

-- the moment at which it happens there
abbrev pub moment_of : Event → ℕ
moment_of (Deliver datagram router iface now) = now
moment_of (Stranger router x) = x.now
moment_of (Tick router now word) = now
moment_of (Restart router now) = now
moment_of (Shutdown router now) = now
moment_of (LinkDown router now on) = now
moment_of (LinkUp router now on) = now
moment_of (Reconfigure router now c) = now

-- a tick at which the router's regular update is due
abbrev pub IsDueTick : World → Event → Type 0
IsDueTick w (Tick router now word) = (state : State) × (slice_get w.states router ≡ Some state) × (state.regular ≤ max state.last now)
IsDueTick w _ = ⊥

-- ticks of due updates happen one after another
abbrev pub AllTick : Network → World → List Event → World → Type 0
AllTick net w [] w' = w' ≡ w
AllTick net w (e ∷ events) w' = (mid : World) × (answer : Answer) × IsDueTick w e × Happens net w e answer mid × AllTick net mid events w'

-- a delivery of a datagram that is numbered from one number up to another
abbrev pub IsDeliveryOf : ℕ → ℕ → Event → Type 0
IsDeliveryOf first end (Deliver datagram router iface now) = (first ≤ datagram) × (datagram < end)
IsDeliveryOf first end _ = ⊥

-- the events happen one after another, and memory suffices for every new route
abbrev pub AllHeard : Network → World → List Event → World → Type 0
AllHeard net w [] w' = w' ≡ w
AllHeard net w (e ∷ events) w' =
    (mid : World) × (answer : Answer) × Happens net w e answer mid × All (λ n. n.kind ≢ NoMemory) answer.notes × AllHeard net mid events w'

-- each router ticks once, and then each datagram of these ticks comes at least once to each other interface of its link
pub record IsSynchronousRound (net : Network) (w : World) (round : Round) (w' : World) : Type 0 where
  pub after_ticks : World
  pub each_ticks : (router : ℕ) → router < length net → Contains (map router_of round.ticks) router
  pub once : IsDistinct nat_eq (map router_of round.ticks)
  pub all_tick : AllTick net w round.ticks after_ticks
  pub only_these : All (IsDeliveryOf (length w.sent) (length after_ticks.sent)) round.deliveries
  pub each_delivered : (datagram router iface : ℕ) (d : Sent)
      → length w.sent ≤ datagram → slice_get after_ticks.sent datagram ≡ Some d → AreLinked net d.router d.iface router iface
      → (router ≢ d.router) ⊎ (iface ≢ d.iface)
      → (now : ℕ) × Contains round.deliveries (Deliver datagram router iface now)
  pub elsewhere : (datagram router iface now : ℕ) (d : Sent)
      → Contains round.deliveries (Deliver datagram router iface now) → slice_get after_ticks.sent datagram ≡ Some d
      → (router ≢ d.router) ⊎ (iface ≢ d.iface)
  pub all_heard : AllHeard net after_ticks round.deliveries w'

-- rounds one after another
abbrev pub SynchronousRounds : Network → World → List Round → World → Type 0
SynchronousRounds net w [] w' = w' ≡ w
SynchronousRounds net w (round ∷ rounds) w' = (mid : World) × IsSynchronousRound net w round mid × SynchronousRounds net mid rounds w'

-- all events of the rounds, in order
abbrev pub events_of_rounds : List Round → List Event
events_of_rounds rounds = flat_map (λ round. round.ticks ++ round.deliveries) rounds

-- the router moves at that moment in the round
pub record IsMomentOf (round : Round) (router moment : ℕ) : Type 0 where
  pub event : Event
  pub happens : Contains (round.ticks ++ round.deliveries) event
  pub router_is : router_of event ≡ router
  pub moment_is : moment_of event ≡ moment

-- moments of a router in one round, or in it and the round before, are less than a timeout apart
abbrev pub AreWithinTimeoutAfter : (ℕ → ℕ → Type 0) → List Round → Type 0
AreWithinTimeoutAfter before [] = Unit {0}
AreWithinTimeoutAfter before (round ∷ rounds) =
    ((router x y : ℕ) → before router x ⊎ IsMomentOf round router x → IsMomentOf round router y → (x < y + timeout) × (y < x + timeout))
    × AreWithinTimeoutAfter (IsMomentOf round) rounds

-- the same from the first round on
abbrev pub AreWithinTimeout : List Round → Type 0
AreWithinTimeout rounds = AreWithinTimeoutAfter (λ _ _. ⊥) rounds
