-- How old the news of daemons may be: networks of daemons by one true clock, in milliseconds, in which anything may happen.
--
-- The law is `daemons_forget_old_news`. Links may lose, repeat and overtake as they like, but what they give was handed over less than
-- 15 seconds before. A daemon that does anything has ticked, or started, in the last second, and its ticks are not lost for memory.
-- Until it starts anew its clock loses at most a second. Then no daemon believes what has been untrue for 46 minutes.
use Rattle.std.specs.Prelude.{◌≡◌, ℕ, ◌+◌, ◌-◌, ◌^◌, ◌<◌, ◌≤◌, ⊤, List, [], ◌∷◌, ◌++◌, length, Contains, Option, Some, slice_get}
use Rattle.ripngd_theorems.specs.Below.{AllByRecursion, Config, Network, Node, Past, config_of, network_now, Machine}
use Rattle.ripngd_theorems.specs.Daemons.{Act, Start, Tick, Deed, Does, Happened, own_deeds, reconfigurations_by}
use Rattle.ripngd_theorems.specs.Links.{all_handed, past_of_daemons}
use Rattle.ripngd_theorems.specs.OnTime.{AreNumbered, Dated, HappenFrom, undated}

-- it starts the daemon
abbrev pub IsStart : Act → Type 0
IsStart Start = ⊤
IsStart _ = ⊥

-- the daemon looks at the timers of its routes, or starts
abbrev pub IsLook : Act → Type 0
IsLook Tick = ⊤
IsLook Start = ⊤
IsLook _ = ⊥

-- the daemon has done so at most a second before that moment
pub record IsAwake (history : List Dated) (router now : ℕ) : Type 0 where
  pub look : Dated
  pub stands : Contains history look
  pub router_is : look.happened.router ≡ router
  pub looks : IsLook look.happened.deed.act
  pub late : now ≤ look.at + 1_000

-- the daemon does not start in all this
abbrev pub StaysUp : ℕ → List Dated → Type 0
StaysUp router history = AllByRecursion (λ t. t.happened.router ≡ router → IsStart t.happened.deed.act → ⊥) history

-- a tick is not lost for memory: the daemon counts no more such steps, and could
abbrev pub KeepsTick : Option Machine → Act → Machine → Type 0
KeepsTick (Some m) Tick n = (n.lost_memory ≡ m.lost_memory) × (m.lost_memory < 2 ^ 64 - 1)
KeepsTick _ _ n = ⊤

-- a daemon's life in which none is
abbrev pub LivesTicking : Config → Option Machine → List Deed → Option Machine → Type 0
LivesTicking config before [] after = after ≡ before
LivesTicking config before (d ∷ deeds) after =
    (n : Machine) × Does config before d.act d.trace n × KeepsTick before d.act n × LivesTicking config (Some n) deeds after

-- so all daemons of a network go on from a moment, which had done this before, over such links
pub record GoOnAnyhow (net : Network) (before : List Happened) (daemons : ℕ → Option Machine) (history : List Dated) (start : ℕ) (daemons' : ℕ → Option Machine) : Type 0 where
  pub known : AllByRecursion (λ t. t.happened.router < length net) history
  pub lives : (router : ℕ) (node : Node) → slice_get net router ≡ Some node → LivesTicking (config_of node) (daemons router) (own_deeds router (undated history)) (daemons' router)
  pub given : AreNumbered net (all_handed before) history
  pub in_time : HappenFrom start history
  -- nothing comes 15 seconds after it was handed over; in the first of them anything may that ever was
  pub recent : (old new : List Dated) (t : Dated) (b : List Dated) → history ≡ (old ++ new) ++ t ∷ b → start + 15_000 ≤ t.at → AllByRecursion (λ s. s.at + 15_000 ≤ t.at) old
      → (number : ℕ) → t.number ≡ Some number → length (all_handed (before ++ undated old)) ≤ number
  -- a daemon that does anything is awake
  pub awake : (a : List Dated) (t : Dated) (b : List Dated) → history ≡ a ++ t ∷ b → start + 1_000 ≤ t.at → IsAwake (a ++ t ∷ []) t.happened.router t.at
  -- until a daemon starts anew, its own clock goes on with the true one: it loses at most a second
  pub clocks : (a : List Dated) (s : Dated) (b : List Dated) (t : Dated) (c : List Dated) → history ≡ a ++ s ∷ (b ++ t ∷ c)
      → s.happened.router ≡ t.happened.router → StaysUp t.happened.router (b ++ t ∷ [])
      → (x y : ℕ) → Contains s.happened.deed.trace.moments x → Contains t.happened.deed.trace.moments y → x + (t.at - s.at) ≤ y + 1_000
  -- and at most as much since the last moment that it had seen before
  pub since : (b : List Dated) (t : Dated) (c : List Dated) → history ≡ b ++ t ∷ c → StaysUp t.happened.router (b ++ t ∷ [])
      → (m : Machine) → daemons t.happened.router ≡ Some m → (y : ℕ) → Contains t.happened.deed.trace.moments y → m.router.last + (t.at - start) ≤ y + 1_000

-- all that was in force from then on: the costs and owners that were in force before, and what was set since
abbrev pub past_since : Network → List Happened → List Dated → Past
past_since net before history = record { net = network_now (past_of_daemons net before); reconfigurations = reconfigurations_by (undated history) }
