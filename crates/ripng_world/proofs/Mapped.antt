-- Where `find_map` over numbers stops, by a closure that calls leave as it was.
use Rattle.std.proofs.Common.{◌≡◌, ℕ, ◌+◌, ◌-◌, ◌<◌, ◌≤◌, true, Option, Some, None, IsTrue, MatchOption, IsSomeAnd, IsNone, option_map, ap, sym, subst, ◌∙◌, arith}
use Rattle.std.proofs.iter.Yields.{nat_range_steps}
use Rattle.std.proofs.iter.runs.Sources.{nat_range_steps_back, range_runs, range_runs_back}
use Rattle.std.specs.declared.ops.Range.{Range}
use Rattle.std.specs.Fn.{Called}
use Rattle.std.specs.Iterator.Adapters.{RevKeepsRuns, rev_steps}
use Rattle.std.specs.declared.iter.Rev.{Rev}
use Rattle.std.specs.Iterator.Runs.{SomeRun, EachRunFrom, AllItemsGive, IsFirstToGive}
use Rattle.route_table.proofs.TableLaws.{Some-same, None-Some}
use denote.Param.Members.{Mut}

-- what is at a place
at_place : (o : Option ℕ) (x : ℕ) (P : ℕ → Type 0) → option_map (λ y. y) o ≡ Some x → MatchOption o (Unit {0}) P → P x
at_place None x P e h = absurd (None-Some x e)
at_place (Some y) x P e h = subst P (Some-same y x e) h

is_at : (o : Option ℕ) (x : ℕ) (P : ℕ → Type 0) → option_map (λ y. y) o ≡ Some x → IsSomeAnd o P → P x
is_at None x P e h = absurd h
is_at (Some y) x P e h = subst P (Some-same y x e) h

pub of_none : {B : Type 0} (o : Option B) (P : Type 0) (Q : B → Type 0) → IsNone o → MatchOption o P Q → P
of_none None P Q none h = h
of_none (Some y) P Q none h = absurd (cc)

-- the items are n, and v of their places
abbrev pub Counts : {S : Type 0} → (S → Option ℕ → S → Type 0) → S → (ℕ → ℕ) → ℕ → Type 0
Counts steps s v n = EachRunFrom steps s (λ p. (p.len ≤ n) × (p.whole ≡ true → p.len ≡ n) × ((k : ℕ) → k < p.len → option_map (λ y. y) (p.at k) ≡ Some (v k)))

-- the numbers from 0 on
pub counts_up : (n : ℕ) → Counts nat_range_steps (record { start = 0; end = n }) (λ k. k) n
counts_up n p seen from =
    let h = range_runs p seen in
    let lo = ap (λ (s : Range ℕ). s.start) from in
    let hi = ap (λ (s : Range ℕ). s.end) from in
    (omega (arith, h.0, lo, hi), (λ whole. omega (arith, h.1 whole, lo, hi)), λ k below. let same : p.from.start + k ≡ k = omega (arith, lo) in h.3 k below ∙ ap Some same)

-- and those below n, the greatest first
pub counts_down : (n : ℕ) {r : Rev (Range ℕ)} → RevKeepsRuns nat_range_steps_back (record { start = 0; end = n }) r → Counts (rev_steps nat_range_steps_back) r (λ k. n - 1 - k) n
counts_down n kept p seen from =
    let q = kept p seen from in
    let h = range_runs_back q.0 q.0.seen in
    let lo = ap (λ (s : Range ℕ). s.start) q.1 in
    let hi = ap (λ (s : Range ℕ). s.end) q.1 in (
      omega (arith, h.0, lo, hi, q.2.0.0),
      (λ whole. omega (arith, h.1 (q.2.1 ∙ whole), lo, hi, q.2.0.0)),
      λ k below. let same : q.0.from.end - 1 - k ≡ n - 1 - k = omega (arith, hi) in
          ap (option_map (λ (y : ℕ). y)) (sym (q.2.0.2 k)) ∙ h.3 k (omega (arith, below, q.2.0.0)) ∙ ap Some same,
    )

-- the first number at which it answers, or none
pub first_mapped : {S F B : Type 0} {steps : S → Option ℕ → S → Type 0} {s : S} {g : Mut F (ℕ × Unit {0}) (Option B)} {f : F} (v : ℕ → ℕ) (n : ℕ) (Gives : ℕ → Option B → Type 0) (r : Option B)
    → SomeRun steps s (λ p. MatchOption r (IsTrue p.whole × AllItemsGive p g f None) (λ y. (i : ℕ) × (i < p.len) × (p.len ≡ i + 1) × IsFirstToGive p g f (Some y) None i))
    → Counts steps s v n → ((x : ℕ) (o : Option B) (q : F) → Called g f (x, tt) o q → (q ≡ f) × Gives x o)
    → MatchOption r ((k : ℕ) → k < n → Gives (v k) None) (λ y. (i : ℕ) × (i < n) × Gives (v i) (Some y) × ((k : ℕ) → k < i → Gives (v k) None))
first_mapped {g = g} {f = f} v n Gives None m counts keeps = λ k below.
    let c = counts m.0 m.0.seen m.1 in
    (keeps (v k) None f (at_place (m.0.at k) (v k) _ (c.2 k (omega (arith, below, c.1 m.2.0))) (m.2.1 (λ a o q called. (keeps a.0 o q called).0) k))).1
first_mapped {g = g} {f = f} v n Gives (Some y) m counts keeps =
    let c = counts m.0 m.0.seen m.1 in
    let i = m.2.0 in
    let first = m.2.3 (λ a o q called. (keeps a.0 o q called).0) in (
      i,
      omega (arith, m.2.1, c.0),
      (keeps (v i) (Some y) f (is_at (m.0.at i) (v i) _ (c.2 i m.2.1) first.0)).1,
      λ k below. (keeps (v k) None f (is_at (m.0.at k) (v k) _ (c.2 k (omega (arith, below, m.2.1))) (first.1 k below))).1,
    )
