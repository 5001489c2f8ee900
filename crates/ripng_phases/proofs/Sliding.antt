-- A history in which nothing is old is one until each moment, and from each moment on.
use Rattle.std.proofs.Common.{◌≡◌, ◌⊎◌, inl, inr, ℕ, ◌+◌, ◌-◌, ◌<◌, ◌≤◌, List, [], ◌∷◌, ◌++◌, length, All, refl, ap, sym, subst, ◌∙◌, arith, append_assoc}
use Rattle.std.specs.List.{AllByRecursion}
use Rattle.std.proofs.lemmas.List.Elements.{All-from_recursion, recursion_from_All}
use Rattle.ripng_world.specs.Network.{Network, IsNetwork}
use Rattle.ripng_world.specs.Rounds.{router_of, moment_of}
use Rattle.ripng_world.specs.World.{World, Event, IsCold, WorldRun}
use Rattle.ripng_world.proofs.Each.{each_append, each_at_place, each_weaker}
use Rattle.ripng_world.proofs.Members.{At, at_from_contains, at_right, split_at}
use Rattle.ripng_phases.specs.Ages.{IsAwake, IsRecent, StartsAnew}
use Rattle.ripng_phases.specs.Minutes.{Timed, AreFrom, untimed}
use Rattle.ripng_phases.specs.Phases.{reached}
use Rattle.ripng_phases.proofs.Along.{contains_from}
use Rattle.ripng_phases.proofs.Births.{aged_at, from_at, lead_here, lead_on}
use Rattle.ripng_phases.proofs.Cutting.{untimed_on}
use Rattle.ripng_phases.proofs.Runs.{reached_on}

from_first : (start : ℕ) (a b : List Timed) → AreFrom start (a ++ b) → AreFrom start a
from_first start [] b is = tt
from_first start (t ∷ a) b is = (is.0, from_first t.at a b is.1)

module _ (net : Network) (is_net : IsNetwork net) (moments : List ℕ) (events : List Event) (cold w : World) (is_cold : IsCold net moments cold) (run : WorldRun net cold events w)
    (early late : List Timed) (start : ℕ) (w' : World) (recent : IsRecent net w (early ++ late) start w') where
  -- until a moment
  pub recent_until : IsRecent net w early start (reached w (untimed early))
  recent_until =
      record {
        steps = lead_here net is_net moments events cold w is_cold run (early ++ late) start w' recent early late refl;
        in_time = from_first start early late recent.in_time;
        recent = λ b t a is far. recent.recent b t (a ++ late) (ap (λ xs. xs ++ late) is ∙ append_assoc b (t ∷ a) late) far;
        awake = λ b t a is far. recent.awake b t (a ++ late) (ap (λ xs. xs ++ late) is ∙ append_assoc b (t ∷ a) late) far;
        clocks = λ a s b t c is. recent.clocks a s b t (c ++ late) (ap (λ xs. xs ++ late) is ∙ append_assoc a (s ∷ (b ++ t ∷ c)) late ∙ ap (λ xs. a ++ s ∷ xs) (append_assoc b (t ∷ c) late));
        since = λ b t c is. recent.since b t (c ++ late) (ap (λ xs. xs ++ late) is ∙ append_assoc b (t ∷ c) late);
      }

  -- and from a moment on
  module _ (from : ℕ) (begun : start ≤ from) (before : All (λ t. t.at < from) early) (after : AreFrom from late) where
    -- a router that is awake so long after it has looked since
    pub awake_from : (history : List Timed) (router now : ℕ) → from + 1_000 ≤ now → IsAwake (early ++ history) router now → IsAwake history router now
    awake_from history router now far k = let a = at_from_contains (early ++ history) k.look k.stands in by (split_at early history a.0 k.look a.1)
      where
        never : (a f t : ℕ) → a < f → f + 1_000 ≤ t → t ≤ a + 1_000 → ⊥
        never a f t e g h = omega arith

        by : At early k.look ⊎ At history k.look → IsAwake history router now
        by (inl x) =
            absurd (never k.look.at from now (each_at_place (λ (q : Timed). q.at < from) early (recursion_from_All (λ (t : Timed). t.at < from) early before) x.0 k.look x.1) far k.late)
        by (inr x) = record { look = k.look; stands = contains_from history k.look x; router_is = k.router_is; looks = k.looks; late = k.late }

    all_before : AllByRecursion (λ (t : Timed). t.at < from) early
    all_before = recursion_from_All (λ (t : Timed). t.at < from) early before

    pub recent_from : IsRecent net (reached w (untimed early)) late from w'
    recent_from =
        record {
          steps = lead_on net is_net moments events cold w is_cold run (early ++ late) start w' recent early late refl;
          in_time = after;
          recent = λ b t a is far datagram router iface now event old new split all.
              subst (λ (v : World). length v.sent ≤ datagram) (ap (reached w) (untimed_on early old) ∙ reached_on (untimed early) (untimed old) w)
              (recent.recent (early ++ b) t a (longer b (t ∷ a) is) (later start from 15_000 t.at begun far) datagram router iface now event (early ++ old) new
              (ap (λ xs. early ++ xs) split ∙ sym (append_assoc early old new)) (All-from_recursion (λ (s : Timed). s.at + 15_000 ≤ t.at) (early ++ old)
              (each_append (λ (s : Timed). s.at + 15_000 ≤ t.at) early old (each_weaker (λ (s : Timed). s.at + 15_000 ≤ t.at) (λ (s : Timed). s.at < from) (λ s e. old_enough s.at from t.at e far) early all_before)
              (recursion_from_All (λ (s : Timed). s.at + 15_000 ≤ t.at) old all))));
          awake = λ b t a is far.
              awake_from (b ++ t ∷ []) (router_of t.step.event) t.at far (subst (λ xs. IsAwake xs (router_of t.step.event) t.at) (append_assoc early b (t ∷ []))
              (recent.awake (early ++ b) t a (longer b (t ∷ a) is) (later start from 1_000 t.at begun far)));
          clocks = λ a s b t c is. recent.clocks (early ++ a) s b t c (longer a (s ∷ (b ++ t ∷ c)) is);
          since = λ b t c is up s at.
              let x = aged_at net is_net moments events cold w is_cold run (early ++ late) start w' recent early late refl in
              less s.last t.at from x.0 (moment_of t.step.event) (from_at from late after t (subst (λ xs. At xs t) (sym is) (at_right b (t ∷ c) t (0, refl))))
              (x.1.no_later from begun (λ k a. up_to k.at from (each_at_place (λ (q : Timed). q.at < from) early all_before a.0 k a.1)))
              (x.1.time (router_of t.step.event) s at t (record {
                before = b;
                after = c;
                parts = is;
                router_is = refl;
                up = recursion_from_All (λ (q : Timed). StartsAnew (router_of t.step.event) q.step.event → ⊥) (b ++ t ∷ []) up;
              }));
        }
      where
        longer : (a b : List Timed) → late ≡ a ++ b → early ++ late ≡ (early ++ a) ++ b
        longer a b e = ap (λ xs. early ++ xs) e ∙ sym (append_assoc early a b)

        later : (s f d t : ℕ) → s ≤ f → f + d ≤ t → s + d ≤ t
        later s f d t e g = omega arith

        old_enough : (s f t : ℕ) → s < f → f + 15_000 ≤ t → s + 15_000 ≤ t
        old_enough s f t e g = omega arith

        up_to : (a b : ℕ) → a < b → a ≤ b
        up_to a b e = omega arith

        less : (l t f n m : ℕ) → f ≤ t → n ≤ f → l + t ≤ m + 1_000 + n → l + (t - f) ≤ m + 1_000
        less l t f n m h e g = omega arith
