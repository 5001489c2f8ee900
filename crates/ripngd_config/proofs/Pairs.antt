-- Lists of which no two members clash, one member after the other.
use Rattle.std.proofs.Common.{◌≡◌, ◌∙◌, ◌<◌, ◌≤◌, ◌+◌, ◌++◌, ℕ, Bool, true, false, List, [], ◌∷◌, length, get_or, take, ap, sym, subst, refl}
use Rattle.std.specs.List.{AllPairs, list_any}
use Rattle.std.proofs.lemmas.List.{take_all, take_more}
use Rattle.std.proofs.lemmas.List.Folds.{list_any_at}
use Rattle.std.proofs.lemmas.List.Quantifiers.{all_pairs_push}

not_true : (b : Bool) → (b ≡ true → ⊥) → b ≡ false
not_true true h = absurd (h refl)
not_true false h = refl

none_passes : {X : Type 0} (p : X → Bool) (xs : List X) → list_any p xs ≡ false → (k : ℕ) (d : X) → k < length xs → p (get_or xs k d) ≡ false
none_passes p xs none k d lt = not_true (p (get_or xs k d)) (λ passes. cc (none, list_any_at p xs k d lt passes))

-- no member before y clashes with it, so there is no clash up to it
pub pairs_more : {X : Type 0} (R : X → X → Type 0) (e : X → X → Bool) → ((x y : X) → e x y ≡ false → R x y) → (xs : List X) (i : ℕ) (y : X) → i < length xs → y ≡ get_or xs i y
    → list_any (λ x. e x y) (take i xs) ≡ false → AllPairs R (take i xs) → AllPairs R (take (i + 1) xs)
pairs_more {X} R e apart xs i y lt is none pairs =
    let front : take (i + 1) xs ≡ take i xs ++ y ∷ [] = take_more xs i y lt ∙ ap (λ (z : X). take i xs ++ z ∷ []) (sym is) in
    subst (λ (zs : List X). AllPairs R zs) (sym front)
    (all_pairs_push R (take i xs) y pairs (λ k d below. apart (get_or (take i xs) k d) y (none_passes (λ x. e x y) (take i xs) none k d below)))

-- there is no clash up to the end
pub pairs_all : {X : Type 0} (R : X → X → Type 0) (xs : List X) (i : ℕ) → length xs ≤ i → AllPairs R (take i xs) → AllPairs R xs
pairs_all {X} R xs i end pairs = subst (λ (zs : List X). AllPairs R zs) (take_all i xs end) pairs
