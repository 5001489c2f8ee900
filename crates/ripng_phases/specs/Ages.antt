-- How old news may be. Histories by one true clock, in milliseconds, in which anything may happen: whatever is lost, comes twice or out
-- of order, and whichever routers start anew, are reconfigured or shut down.
use Rattle.std.specs.Prelude.{◌≡◌, ℕ, ◌+◌, ◌-◌, ◌≤◌, List, [], ◌∷◌, ◌++◌, length, All, Contains, Some, slice_get}
use Rattle.ripng_phases.specs.Below.{State, Network, World, Past, Event, Deliver, Tick, Restart, Happens, moment_of, network_now, past_of, reconfigurations_in, router_of}
use Rattle.ripng_phases.specs.Phases.{Step, events_of, reached}
use Rattle.ripng_phases.specs.Minutes.{Timed, AreFrom, untimed}

-- the steps lead from one world to another, whatever they are
abbrev pub Lead : Network → World → List Step → World → Type 0
Lead net w [] w' = w' ≡ w
Lead net w (s ∷ steps) w' = Happens net w s.event s.answer s.after × Lead net s.after steps w'

-- the router looks at the timers of its routes, or starts anew
abbrev pub IsLooking : Event → Type 0
IsLooking (Tick router now word) = Unit {0}
IsLooking (Restart router now) = Unit {0}
IsLooking _ = ⊥

-- the router has done so at most a second before that moment
pub record IsAwake (history : List Timed) (router now : ℕ) : Type 0 where
  pub look : Timed
  pub stands : Contains history look
  pub router_is : router_of look.step.event ≡ router
  pub looks : IsLooking look.step.event
  pub late : now ≤ look.at + 1_000

-- the router starts anew
abbrev pub StartsAnew : ℕ → Event → Type 0
StartsAnew router (Restart other now) = other ≡ router
StartsAnew router _ = ⊥

-- the router does not, in all this
abbrev pub StaysUp : ℕ → List Timed → Type 0
StaysUp router history = All (λ t. StartsAnew router t.step.event → ⊥) history

-- all that is asked of a history from one moment on
pub record IsRecent (net : Network) (w : World) (history : List Timed) (start : ℕ) (w' : World) : Type 0 where
  pub steps : Lead net w (untimed history) w'
  pub in_time : AreFrom start history
  -- what is delivered was sent less than 15 seconds before; in the first of them it may be anything that was ever sent
  pub recent : (before : List Timed) (t : Timed) (after : List Timed) → history ≡ before ++ t ∷ after → start + 15_000 ≤ t.at
      → (datagram router iface now : ℕ) → t.step.event ≡ Deliver datagram router iface now
      → (old new : List Timed) → before ≡ old ++ new → All (λ s. s.at + 15_000 ≤ t.at) old → length (reached w (untimed old)).sent ≤ datagram
  -- a router that does anything is awake
  pub awake : (before : List Timed) (t : Timed) (after : List Timed) → history ≡ before ++ t ∷ after → start + 1_000 ≤ t.at
      → IsAwake (before ++ t ∷ []) (router_of t.step.event) t.at
  -- until a router starts anew, its own clock goes on with the true one: it loses at most a second
  pub clocks : (a : List Timed) (s : Timed) (b : List Timed) (t : Timed) (c : List Timed) → history ≡ a ++ s ∷ (b ++ t ∷ c)
      → router_of s.step.event ≡ router_of t.step.event → StaysUp (router_of t.step.event) (b ++ t ∷ [])
      → moment_of s.step.event + (t.at - s.at) ≤ moment_of t.step.event + 1_000
  -- and at most as much since the last moment that it had seen before
  pub since : (b : List Timed) (t : Timed) (c : List Timed) → history ≡ b ++ t ∷ c → StaysUp (router_of t.step.event) (b ++ t ∷ [])
      → (s : State) → slice_get w.states (router_of t.step.event) ≡ Some s → s.last + (t.at - start) ≤ moment_of t.step.event + 1_000

-- all that was in force from a world on: the costs and owners that were in force in it, and what these steps have set
abbrev pub past_from : Network → World → List Timed → Past
past_from net w history = record { net = network_now (past_of net w); reconfigurations = reconfigurations_in (events_of (untimed history)) }
