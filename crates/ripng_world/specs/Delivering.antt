-- Deliveries one after another: what is delivered, and where they stop.
use Rattle.std.specs.Prelude.{◌≡◌, ◌≤◌, ◌⊎◌, ℕ, List, length, map, take, Some, slice_get, Any}
use Rattle.ripng_world.specs.Below.{Answer, NoMemory, Sent, Stopped, Refused, Failed}
use Rattle.ripng_world.specs.AskedRounds.{delivery, pairs_since}
use Rattle.ripng_world.specs.Network.{Network}
use Rattle.ripng_world.specs.Rounds.{AllHeard}
use Rattle.ripng_world.specs.World.{World, Event, Happens}

-- each datagram from a number on comes once to each other interface of its link, in order
abbrev pub deliveries_since : Network → ℕ → List Sent → ℕ → List Event
deliveries_since net first sent now = map (λ p. delivery p now) (pairs_since net first sent)

-- memory ran out for some new route
abbrev pub WantsMemory : Answer → Type 0
WantsMemory answer = Any (λ n. n.kind ≡ NoMemory) answer.notes

-- the event at a place happens, with this answer
pub record HappensAt (net : Network) (w : World) (events : List Event) (place : ℕ) (answer : Answer) (w' : World) : Type 0 where
  pub event : Event
  pub event_is : slice_get events place ≡ Some event
  pub happens : Happens net w event answer w'

-- deliveries stop out of memory. Before a place memory sufficed for all new routes; at that place it ran out for one, or the
-- delivery did not happen
pub record StopForMemory (net : Network) (w : World) (events : List Event) (w' : World) : Type 0 where
  pub done : ℕ
  pub within : done ≤ length events
  pub before : World
  pub heard : AllHeard net w (take done events) before
  pub last : (w' ≡ before) ⊎ ((answer : Answer) × HappensAt net before events done answer w' × WantsMemory answer)

-- deliveries stop after one at which the observer failed; before that one memory sufficed for all new routes
pub record StopForWatcher (net : Network) (w : World) (events : List Event) (w' : World) : Type 0 where
  pub done : ℕ
  pub before : World
  pub heard : AllHeard net w (take done events) before
  pub answer : Answer
  pub last : HappensAt net before events done answer w'

-- deliveries stop out of memory, or where the observer fails, as the call answers
abbrev pub StopAt : {R F : Type 0} → Network → World → List Event → Stopped R F → World → Type 0
StopAt net w events (Refused why) w' = StopForMemory net w events w'
StopAt net w events (Failed fault) w' = StopForWatcher net w events w'
