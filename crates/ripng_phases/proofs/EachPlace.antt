-- What holds at each place of a list, by what stands before it and after it.
use Rattle.std.proofs.Common.{◌≡◌, List, [], ◌∷◌, ◌++◌, length, take, refl, ap₂, subst, subst₂}

pub head_is : {X : Type 0} (x y : X) (xs ys : List X) → x ∷ xs ≡ y ∷ ys → x ≡ y
head_is x y xs ys e = cc

pub tail_is : {X : Type 0} (x y : X) (xs ys : List X) → x ∷ xs ≡ y ∷ ys → xs ≡ ys
tail_is x y xs ys e = cc

-- at each place, from the first on
abbrev pub AtEachPlace : {X : Type 0} → (List X → X → List X → Type 0) → List X → Type 0
AtEachPlace P [] = Unit {0}
AtEachPlace P (x ∷ xs) = P [] x xs × AtEachPlace (λ before y after. P (x ∷ before) y after) xs

pub at_each_place : {X : Type 0} (P : List X → X → List X → Type 0) (xs : List X) → AtEachPlace P xs
    → (before : List X) (y : X) (after : List X) → xs ≡ before ++ y ∷ after → P before y after
at_each_place P [] all [] y after e = absurd cc
at_each_place P [] all (b ∷ before) y after e = absurd cc
at_each_place P (x ∷ xs) all [] y after e = subst₂ (λ u v. P [] u v) (head_is x y xs after e) (tail_is x y xs after e) all.0
at_each_place P (x ∷ xs) all (b ∷ before) y after e =
    subst (λ u. P (u ∷ before) y after) (head_is x b xs (before ++ y ∷ after) e)
    (at_each_place (λ earlier u later. P (x ∷ earlier) u later) xs all.1 before y after (tail_is x b xs (before ++ y ∷ after) e))

-- the front of a list is so many of its first elements
pub front_is : {X : Type 0} (xs front back : List X) → xs ≡ front ++ back → take (length front) xs ≡ front
front_is xs [] back e = refl
front_is [] (y ∷ front) back e = absurd cc
front_is (x ∷ xs) (y ∷ front) back e =
    ap₂ (λ z zs. z ∷ zs) (head_is x y xs (front ++ back) e) (front_is xs front back (tail_is x y xs (front ++ back) e))
