-- A paced history, cut each 59 seconds, is phases, and so it heals the network in 28 minutes.
use Rattle.std.proofs.Common.{◌≡◌, ℕ, zero, suc, ◌+◌, ◌-◌, ◌*◌, ◌/◌, ◌%◌, ◌<◌, ◌≤◌, List, [], Contains, refl, sym, subst, arith}
use Rattle.router_core.specs.Timers.{garbage_time}
use Rattle.ripng_world.specs.Convergence.{IsNeverQuiet}
use Rattle.ripng_world.specs.Healing.{AreHealed, FitsTablesSince, network_now}
use Rattle.ripng_world.specs.Network.{Network, IsNetwork}
use Rattle.ripng_world.specs.Rounds.{router_of, moment_of}
use Rattle.ripng_world.specs.World.{World, Event, IsCold, WorldRun, past_of}
use Rattle.ripng_phases.specs.Minutes.{Timed}
use Rattle.ripng_phases.proofs.Healing.{heals_in_phases}
use Rattle.ripng_phases.proofs.Stretches.{IsInPhases, IsRegular, spans, stretched}
use Rattle.ripngd_theorems.proofs.Paced.{IsPaced, punctual}

stretches : (n : ℕ) → spans 59_000 n ≡ 59_000 * n
stretches zero = refl
stretches (suc n) = let rest = stretches n in omega (arith, rest)

module _ (net : Network) (w : World) (all : List Timed) (start end : ℕ) (w' : World) (paced : IsPaced net w all start end w') where
  -- two moments of a router that are less than two stretches apart
  near : (low high router x y : ℕ) → high < low + (59_000 + 59_000) → (a b : Timed) → Contains all a → Contains all b → router_of a.step.event ≡ router → router_of b.step.event ≡ router
      → moment_of a.step.event ≡ x → moment_of b.step.event ≡ y → low ≤ a.at → a.at ≤ high → low ≤ b.at → b.at ≤ high → (x < y + garbage_time) × (y < x + garbage_time)
  near low high router x y short a b a_in b_in a_router b_router x_is y_is a_low a_high b_low b_high =
      let p = kept a a_in a_router x x_is in
      let q = kept b b_in b_router y y_is in
      (less (paced.behind router) low high a.at b.at x y short p.0 q.1 a_high b_low, less (paced.behind router) low high b.at a.at y x short q.0 p.1 b_high a_low)
    where
      kept : (t : Timed) → Contains all t → router_of t.step.event ≡ router → (z : ℕ) → moment_of t.step.event ≡ z → (paced.behind router + z ≤ t.at) × (t.at < paced.behind router + z + 500)
      kept t t_in t_router z z_is =
          subst (λ n. (paced.behind router + n ≤ t.at) × (t.at < paced.behind router + n + 500)) z_is
          (subst (λ r. (paced.behind r + moment_of t.step.event ≤ t.at) × (t.at < paced.behind r + moment_of t.step.event + 500)) t_router (paced.moments t t_in))

      less : (c l h m n x y : ℕ) → h < l + (59_000 + 59_000) → c + x ≤ m → n < c + y + 500 → m ≤ h → l ≤ n → x < y + 120_000
      less c l h m n x y e f g i j = omega arith

  regular : IsRegular net w all start end w' 59_000 46_000 13_000
  regular =
      record {
        takes = paced.takes;
        in_time = paced.in_time;
        ended = paced.ended;
        updates = λ router s here begun room. punctual net w all start end w' paced router s here begun room;
        recent = paced.recent;
        in_order = paced.in_order;
        near = near;
      }

  -- the history is stretches and what has happened since, whatever came before
  paced_phases : (n over : ℕ) → start + 59_000 * n + over ≡ end → over ≤ 59_000 → IsInPhases net w w' [] (record { first = 0; counts = λ _. ⊥; moments = λ _ _. ⊥ }) n
  paced_phases n over ends little =
      stretched net w all start end w' 59_000 46_000 13_000 (omega arith) (omega arith) regular n over (subst (λ k. start + k + over ≡ end) (sym (stretches n)) ends) little

-- 28 minutes hold 28 of them
pub heals_when_paced : (net : Network) (moments : List ℕ) (events : List Event) (history : List Timed) (start stop : ℕ) (cold w end : World)
    → IsNetwork net → IsNeverQuiet net → IsCold net moments cold → WorldRun net cold events w → FitsTablesSince (past_of net w)
    → IsPaced net w history start stop end → start + 28 * 60_000 ≤ stop → AreHealed (network_now (past_of net end)) end
heals_when_paced net moments events history start stop cold w end is_net noisy is run fits paced late =
    let x = paced_phases net w history start stop end paced ((stop - start) / 59_000) ((stop - start) % 59_000) (whole start stop late) (little (stop - start)) in
    heals_in_phases net moments events x.phases x.since cold w end is_net noisy is run fits x.are (subst (λ n. 28 ≤ n) (sym x.many) (many start stop late))
  where
    whole : (s e : ℕ) → s + 28 * 60_000 ≤ e → s + 59_000 * ((e - s) / 59_000) + (e - s) % 59_000 ≡ e
    whole s e f = omega arith

    little : (n : ℕ) → n % 59_000 ≤ 59_000
    little n = omega arith

    many : (s e : ℕ) → s + 28 * 60_000 ≤ e → 28 ≤ (e - s) / 59_000
    many s e f = omega arith
