-- A timely history, cut at each full minute, is phases.
use Rattle.std.proofs.Common.{◌≡◌, ◌⊎◌, inl, inr, ℕ, zero, suc, ◌+◌, ◌-◌, ◌*◌, ◌<◌, ◌≤◌, List, [], ◌++◌, Contains, refl, sym, subst, ◌∙◌, arith}
use Rattle.std.proofs.lemmas.List.Elements.{recursion_from_All, All-from_recursion}
use Rattle.router_core.specs.Timers.{garbage_time}
use Rattle.ripng_world.specs.Network.{Network}
use Rattle.ripng_world.specs.Rounds.{router_of, moment_of}
use Rattle.ripng_world.specs.World.{World}
use Rattle.ripng_phases.specs.Minutes.{Timed, IsPromptUpdate, IsTimely}
use Rattle.ripng_phases.proofs.Stretches.{IsInPhases, IsRegular, IsUpdateBetween, spans, stretched}

pub minutes : (n : ℕ) → spans 60_000 n ≡ 60_000 * n
minutes zero = refl
minutes (suc n) = let rest = minutes n in omega (arith, rest)

module _ (net : Network) (w : World) (all : List Timed) (start end : ℕ) (w' : World) (timely : IsTimely net w all start end w') where
  -- two moments of a router that are less than two minutes apart
  near : (low high router x y : ℕ) → high < low + (60_000 + 60_000) → (a b : Timed) → Contains all a → Contains all b → router_of a.step.event ≡ router → router_of b.step.event ≡ router
      → moment_of a.step.event ≡ x → moment_of b.step.event ≡ y → low ≤ a.at → a.at ≤ high → low ≤ b.at → b.at ≤ high → (x < y + garbage_time) × (y < x + garbage_time)
  near low high router x y short a b a_in b_in a_router b_router x_is y_is a_low a_high b_low b_high = by (split b.at a.at)
    where
      split : (m n : ℕ) → (n ≤ m) ⊎ (m < n)
      split m n = grind arith

      less : (l h m n x y p q : ℕ) → h < l + (60_000 + 60_000) → p ≡ x → q ≡ y → l ≤ m → n ≤ h → m ≤ n → p ≤ q + (n - m) → x < y + 120_000
      less l h m n x y p q e f g i j k o = omega arith

      before : (m n : ℕ) → n < m → n ≤ m
      before m n e = omega arith

      by : (a.at ≤ b.at) ⊎ (b.at < a.at) → (x < y + garbage_time) × (y < x + garbage_time)
      by (inl le) =
          let c = timely.clocks a b a_in b_in (a_router ∙ sym b_router) le in (
            less low high a.at b.at x y (moment_of a.step.event) (moment_of b.step.event) short x_is y_is a_low b_high le c.0,
            less low high a.at b.at y x (moment_of b.step.event) (moment_of a.step.event) short y_is x_is a_low b_high le c.1,
          )
      by (inr lt) =
          let le = before a.at b.at lt in
          let c = timely.clocks b a b_in a_in (b_router ∙ sym a_router) le in (
            less low high b.at a.at x y (moment_of a.step.event) (moment_of b.step.event) short x_is y_is b_low a_high le c.1,
            less low high b.at a.at y x (moment_of b.step.event) (moment_of a.step.event) short y_is x_is b_low a_high le c.0,
          )

  update : (router from : ℕ) → IsPromptUpdate net w all router from (from + 45_000) → IsUpdateBetween net w all router from (from + 45_000) 15_000
  update router from p =
      record {
        before = p.before;
        tick = p.tick;
        after = p.after;
        parts = p.parts;
        not_before = p.not_before;
        in_time = p.in_time;
        now = p.now;
        word = p.word;
        ticks = p.ticks;
        due = p.due;
        heard = p.heard;
      }

  regular : IsRegular net w all start end w' 60_000 45_000 15_000
  regular =
      record {
        takes = timely.takes;
        in_time = timely.in_time;
        ended = recursion_from_All (λ q. q.at < end) all timely.ended;
        updates = λ router s here begun room. update router s (timely.updates router s here begun room);
        recent = λ old new t after is late far datagram router iface now event.
            timely.recent (old ++ new) t after is late datagram router iface now event old new refl (All-from_recursion (λ q. q.at + 15_000 ≤ t.at) old far);
        in_order = timely.in_order;
        near = near;
      }

  -- the history is minutes and what has happened since, whatever came before
  pub timely_minutes : (n over : ℕ) → start + 60_000 * n + over ≡ end → over ≤ 60_000 → IsInPhases net w w' [] (record { first = 0; counts = λ _. ⊥; moments = λ _ _. ⊥ }) n
  timely_minutes n over ends little =
      stretched net w all start end w' 60_000 45_000 15_000 (omega arith) (omega arith) regular n over (subst (λ k. start + k + over ≡ end) (sym (minutes n)) ends) little
