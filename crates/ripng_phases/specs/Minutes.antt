-- Histories by one true clock, in milliseconds, which no router sees: links keep order, lose no regular update, and take less than 15
-- seconds. Cut at each full minute they are phases.
use Rattle.std.specs.Prelude.{◌≡◌, ◌≢◌, ℕ, ◌+◌, ◌-◌, ◌<◌, ◌≤◌, ◌⊎◌, List, [], ◌∷◌, ◌++◌, map, length, All, Contains, Some, slice_get}
use Rattle.ripng_phases.specs.Below.{Network, AreLinked, IsDueTick, moment_of, router_of, World, Deliver, Tick, Sent}
use Rattle.ripng_phases.specs.Phases.{Step, Takes, IsCount, IsOvertaken, reached}

-- a step, and when it happens
pub record Timed : Type 0 where
  pub at : ℕ
  pub step : Step

-- the steps alone
abbrev pub untimed : List Timed → List Step
untimed history = map (λ t. t.step) history

-- they happen from that moment on, one after another
abbrev pub AreFrom : ℕ → List Timed → Type 0
AreFrom start [] = Unit {0}
AreFrom start (t ∷ history) = (start ≤ t.at) × AreFrom t.at history

-- the datagram comes to the interface before that moment
pub record IsPromptDelivery (history : List Timed) (until datagram router iface : ℕ) : Type 0 where
  pub before : List Timed
  pub delivery : Timed
  pub after : List Timed
  pub parts : history ≡ before ++ delivery ∷ after
  pub moment : ℕ
  pub event : delivery.step.event ≡ Deliver datagram router iface moment
  pub prompt : delivery.at < until

-- a regular update of the router between these moments, of which each datagram comes to every other interface of its link, in less
-- than 15 seconds
pub record IsPromptUpdate (net : Network) (w : World) (history : List Timed) (router from until : ℕ) : Type 0 where
  pub before : List Timed
  pub tick : Timed
  pub after : List Timed
  pub parts : history ≡ before ++ tick ∷ after
  pub not_before : from ≤ tick.at
  pub in_time : tick.at < until
  pub now : ℕ
  pub word : ℕ
  pub ticks : tick.step.event ≡ Tick router now word
  pub due : IsDueTick (reached w (untimed before)) (Tick router now word)
  pub heard : (datagram other iface : ℕ) (d : Sent)
      → length (reached w (untimed before)).sent ≤ datagram → slice_get tick.step.after.sent datagram ≡ Some d → AreLinked net d.router d.iface other iface
      → (other ≢ d.router) ⊎ (iface ≢ d.iface)
      → IsPromptDelivery after (tick.at + 15_000) datagram other iface

-- a network of such links, from one moment until another
pub record IsTimely (net : Network) (w : World) (history : List Timed) (start end : ℕ) (w' : World) : Type 0 where
  pub takes : Takes net w (untimed history) w'
  pub in_time : AreFrom start history
  pub ended : All (λ t. t.at < end) history
  -- the regular updates of a router are at most 45 seconds apart, and none is lost
  pub updates : (router from : ℕ) → router < length net → start ≤ from → from + 60_000 ≤ end → IsPromptUpdate net w history router from (from + 45_000)
  -- what is delivered was sent less than 15 seconds before; in the first of them it may be anything that was ever sent
  pub recent : (before : List Timed) (t : Timed) (after : List Timed) → history ≡ before ++ t ∷ after → start + 15_000 ≤ t.at
      → (datagram router iface now : ℕ) → t.step.event ≡ Deliver datagram router iface now
      → (old new : List Timed) → before ≡ old ++ new → All (λ s. s.at + 15_000 ≤ t.at) old → length (reached w (untimed old)).sent ≤ datagram
  -- nothing is delivered after what was sent later from there
  pub in_order : IsOvertaken (IsCount w (untimed history)) w (untimed history) → ⊥
  -- a router's own clock goes no faster than the true one, and by no more back
  pub clocks : (s t : Timed) → Contains history s → Contains history t → router_of s.step.event ≡ router_of t.step.event → s.at ≤ t.at
      → (moment_of s.step.event ≤ moment_of t.step.event + (t.at - s.at)) × (moment_of t.step.event ≤ moment_of s.step.event + (t.at - s.at))
