-- A list with one more at its end: where its parts stand.
use Rattle.std.proofs.Common.{◌≡◌, ◌⊎◌, inl, inr, List, [], ◌∷◌, ◌++◌, refl, ap, sym, ◌∙◌}
use Rattle.std.specs.Prelude.{drop, get_or}

heads : {X : Type 0} (x y : X) (xs ys : List X) → x ∷ xs ≡ y ∷ ys → x ≡ y
heads x y xs ys e = ap (λ l. get_or l 0 x) e

tails : {X : Type 0} (x y : X) (xs ys : List X) → x ∷ xs ≡ y ∷ ys → xs ≡ ys
tails x y xs ys e = ap (λ l. drop 1 l) e

no_end : {X Y : Type 0} (before : List X) (x : X) (after : List X) → [] ≡ before ++ x ∷ after → Y
no_end [] x after e = cc
no_end (b ∷ before) x after e = cc

-- one of the elements is the last, or stands before it
pub one_of : {X : Type 0} (xs : List X) (y : X) (before : List X) (x : X) (after : List X) → xs ++ y ∷ [] ≡ before ++ x ∷ after
    → ((after ≡ []) × (x ≡ y) × (before ≡ xs)) ⊎ ((rest : List X) × (after ≡ rest ++ y ∷ []) × (xs ≡ before ++ x ∷ rest))
one_of [] y [] x after e = inl (sym (tails y x [] after e), sym (heads y x [] after e), refl)
one_of [] y (b ∷ before) x after e = no_end before x after (tails y b [] (before ++ x ∷ after) e)
one_of (z ∷ xs) y [] x after e = inr (xs, sym (tails z x (xs ++ y ∷ []) after e), ap (λ h. h ∷ xs) (heads z x (xs ++ y ∷ []) after e))
one_of (z ∷ xs) y (b ∷ before) x after e =
    let first : z ≡ b = heads z b (xs ++ y ∷ []) (before ++ x ∷ after) e in
    elim (one_of xs y before x after (tails z b (xs ++ y ∷ []) (before ++ x ∷ after) e)) [
      | inl last ↦ inl (last.0, last.1, ap (λ l. b ∷ l) last.2 ∙ ap (λ h. h ∷ xs) (sym first))
      | inr there ↦ inr (there.0, there.1, ap (λ l. z ∷ l) there.2 ∙ ap (λ h. h ∷ (before ++ x ∷ there.0)) first)
    ]

-- a first part is all, or one without the last
pub part_of : {X : Type 0} (xs : List X) (y : X) (old new : List X) → xs ++ y ∷ [] ≡ old ++ new
    → (old ≡ xs ++ y ∷ []) ⊎ ((rest : List X) × (new ≡ rest ++ y ∷ []) × (xs ≡ old ++ rest))
part_of xs y [] new e = inr (xs, sym e, refl)
part_of [] y (o ∷ []) new e = inl (ap (λ h. h ∷ []) (sym (heads y o [] new e)))
part_of [] y (o ∷ p ∷ old) new e = no_end [] p (old ++ new) (tails y o [] (p ∷ old ++ new) e)
part_of (z ∷ xs) y (o ∷ old) new e =
    let first : z ≡ o = heads z o (xs ++ y ∷ []) (old ++ new) e in
    elim (part_of xs y old new (tails z o (xs ++ y ∷ []) (old ++ new) e)) [
      | inl all ↦ inl (ap (λ l. o ∷ l) all ∙ ap (λ h. h ∷ (xs ++ y ∷ [])) (sym first))
      | inr there ↦ inr (there.0, there.1, ap (λ l. z ∷ l) there.2 ∙ ap (λ h. h ∷ (old ++ there.0)) first)
    ]
