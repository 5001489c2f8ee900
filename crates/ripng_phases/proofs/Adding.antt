-- The regular update of a router, put among those of all.
use Rattle.std.proofs.Common.{◌≡◌, ◌⊎◌, inl, inr, ℕ, zero, suc, ◌<◌, List, [], ◌∷◌, length, Option, Some, slice_get, set, refl, ap, sym, arith}
use Rattle.std.proofs.lemmas.List.{length-set}
use Rattle.route_table.proofs.TableLaws.{Some-same}
use Rattle.ripng_phases.specs.Making.{IsAdded}
use Rattle.ripng_phases.specs.declared.acting.Update.{Update}

set_here : {X : Type 0} (xs : List X) (i : ℕ) (y : X) → i < length xs → slice_get (set xs i y) i ≡ Some y
set_here [] i y lt = absurd (no i lt)
  where
    no : (n : ℕ) → n < 0 → ⊥
    no n e = omega arith
set_here (x ∷ xs) zero y lt = refl
set_here (x ∷ xs) (suc i) y lt = set_here xs i y (less i (length xs) lt)
  where
    less : (a b : ℕ) → suc a < suc b → a < b
    less a b e = omega arith

set_other : {X : Type 0} (xs : List X) (i : ℕ) (y : X) (j : ℕ) (z : X) → slice_get (set xs i y) j ≡ Some z → ((j ≡ i) × (z ≡ y)) ⊎ (slice_get xs j ≡ Some z)
set_other [] i y j z e = inr e
set_other (x ∷ xs) zero y zero z e = inl (refl, sym (Some-same y z e))
set_other (x ∷ xs) zero y (suc j) z e = inr e
set_other (x ∷ xs) (suc i) y zero z e = inr e
set_other (x ∷ xs) (suc i) y (suc j) z e = elim (set_other xs i y j z e) [ inl a ↦ inl (ap suc a.0, a.1) | inr b ↦ inr b ]

set_kept : {X : Type 0} (xs : List X) (i : ℕ) (y : X) (j : ℕ) (z : X) → slice_get xs j ≡ Some z → (slice_get (set xs i y) j ≡ Some y) ⊎ (slice_get (set xs i y) j ≡ Some z)
set_kept [] i y j z e = inr e
set_kept (x ∷ xs) zero y zero z e = inl refl
set_kept (x ∷ xs) zero y (suc j) z e = inr e
set_kept (x ∷ xs) (suc i) y zero z e = inr e
set_kept (x ∷ xs) (suc i) y (suc j) z e = set_kept xs i y j z e

pub added_in : (xs : List (Option Update)) (i : ℕ) (u : Update) → i < length xs → IsAdded xs i u (set xs i (Some u))
added_in xs i u lt =
    record {
      as_many = length-set xs i (Some u);
      here = λ _. set_here xs i (Some u) lt;
      others = λ other v e. elim (set_other xs i (Some u) other (Some v) e) [ inl a ↦ inl (a.0, Some-same v u a.1) | inr b ↦ inr b ];
      kept = λ other v e. elim (set_kept xs i (Some u) other (Some v) e) [ inl a ↦ (u, a) | inr b ↦ (v, b) ];
    }
