-- Where rounds that are asked for stop, and for what.
use Rattle.std.specs.Prelude.{◌≡◌, ◌⊎◌, ℕ, ◌+◌, ◌<◌, max, List, take, Some, slice_get, codes}
use Rattle.ripng_world.specs.Below.{State, RoundsRefused, NoRegularUpdate, Stopped, Refused, Failed}
use Rattle.ripng_world.specs.Asked.{Asked}
use Rattle.ripng_world.specs.AskedRounds.{AreMade, round_of, ticks_of}
use Rattle.ripng_world.specs.Delivering.{StopForMemory, StopForWatcher}
use Rattle.ripng_world.specs.Network.{Network}
use Rattle.ripng_world.specs.Rounds.{Round, AllTick, IsDueTick}
use Rattle.ripng_world.specs.World.{World, Event}
use Rattle.ripng_world.specs.declared.lab.making.RoundsRefused.TheVariants.{OutOfMemory}

-- ---- in the ticks of a round

-- the ticks before a router's are done, and its regular update is not due at its own
pub record StopsBefore (net : Network) (w : World) (ticks : List (ℕ × ℕ)) (router : ℕ) (w' : World) : Type 0 where
  pub before : AllTick net w (take router (ticks_of ticks)) w'
  pub tick : ℕ × ℕ
  pub tick_is : slice_get ticks router ≡ Some tick
  pub state : State
  pub state_is : slice_get w'.states router ≡ Some state
  pub undue : max state.last tick.0 < state.regular

-- the ticks before one are done, and that one is due
pub record StopsAtDue (net : Network) (w : World) (ticks : List Event) (w' : World) : Type 0 where
  pub done : ℕ
  pub before : AllTick net w (take done ticks) w'
  pub tick : Event
  pub tick_is : slice_get ticks done ≡ Some tick
  pub due : IsDueTick w' tick

-- the ticks up to one are done, and that one too
pub record StopsBehind (net : Network) (w : World) (ticks : List Event) (w' : World) : Type 0 where
  pub before : ℕ
  pub tick : Event
  pub tick_is : slice_get ticks before ≡ Some tick
  pub done : AllTick net w (take (before + 1) ticks) w'

-- ---- in its deliveries

-- all ticks are done, and from there the deliveries stop so
abbrev pub InDeliveries : (Network → World → List Event → World → Type 0) → Network → World → Asked → World → Type 0
InDeliveries how net w asked w' =
    (after_ticks : World) × AllTick net w (ticks_of asked.ticks) after_ticks × how net after_ticks (round_of net asked w after_ticks).deliveries w'

-- ---- one round

-- a round is refused before a tick that is not due; or out of memory, at a tick that is due or in its deliveries
abbrev pub StopsFor : Network → World → Asked → RoundsRefused → World → Type 0
StopsFor net w asked (NoRegularUpdate round router) w' = StopsBefore net w asked.ticks router w'
StopsFor net w asked (OutOfMemory round) w' =
    StopsAtDue net w (ticks_of asked.ticks) w' ⊎ InDeliveries (λ n v events v'. StopForMemory n v events v') net w asked w'

-- the observer fails at a tick, which is done and was due, or at a delivery
abbrev pub StopsForWatcher : Network → World → Asked → World → Type 0
StopsForWatcher net w asked w' = StopsBehind net w (ticks_of asked.ticks) w' ⊎ InDeliveries (λ n v events v'. StopForWatcher n v events v') net w asked w'

-- a round stops as is answered
abbrev pub RoundStops : {F : Type 0} → Network → World → Asked → Stopped RoundsRefused F → World → Type 0
RoundStops net w asked (Refused why) w' = StopsFor net w asked why w'
RoundStops net w asked (Failed fault) w' = StopsForWatcher net w asked w'

-- ---- one of several

-- the round that is refused, from 0
abbrev pub round_in : RoundsRefused → ℕ
round_in (NoRegularUpdate round router) = round
round_in (OutOfMemory round) = round

-- the rounds before one are made, and that one stops so
pub record StopIn (net : Network) (w : World) (asked : List Asked) (round : ℕ) (how : World → Asked → Type 0) : Type 0 where
  pub rounds : List Round
  pub begin : World
  pub made : AreMade net w (take round asked) rounds begin
  pub stopped : Asked
  pub stopped_is : slice_get asked round ≡ Some stopped
  pub stops : how begin stopped

-- the rounds before the one that is named are made, and that one is refused
abbrev pub HaveStopped : Network → World → List Asked → RoundsRefused → World → Type 0
HaveStopped net w asked why w' = StopIn net w asked (round_in why) (λ begin stopped. StopsFor net begin stopped why w')

-- some rounds are made, and in the next one the observer fails
abbrev pub HaveFailed : Network → World → List Asked → World → Type 0
HaveFailed net w asked w' = (round : ℕ) × StopIn net w asked round (λ begin stopped. StopsForWatcher net begin stopped w')

-- rounds stop as is answered
abbrev pub RoundsStop : {F : Type 0} → Network → World → List Asked → Stopped RoundsRefused F → World → Type 0
RoundsStop net w asked (Refused why) w' = HaveStopped net w asked why w'
RoundsStop net w asked (Failed fault) w' = HaveFailed net w asked w'

-- ---- names

-- the name of a refusal, and its number
abbrev pub stop_name : RoundsRefused → List ℕ × ℕ
stop_name (NoRegularUpdate round router) = (codes "NoRegularUpdate", 41)
stop_name (OutOfMemory round) = (codes "OutOfMemory", 42)
