-- Lists of events, one for each number that passes.
use Rattle.std.proofs.Common.{◌≡◌, ◌∷◌, [], List, Bool, true, false, cond, map, filter, refl, ap}

-- what passes is told of the numbers, or of their events
pub filter_of_map : {X Y : Type 0} (f : X → Y) (p : Y → Bool) (xs : List X) → map f (filter (λ x. p (f x)) xs) ≡ filter p (map f xs)
filter_of_map f p [] = refl
filter_of_map {X} {Y} f p (x ∷ xs) = by (p (f x)) (filter_of_map f p xs)
  where
    by : (b : Bool) → map f (filter (λ y. p (f y)) xs) ≡ filter p (map f xs)
        → map f (cond b (x ∷ filter (λ y. p (f y)) xs) (filter (λ y. p (f y)) xs)) ≡ cond b (f x ∷ filter p (map f xs)) (filter p (map f xs))
    by true rest = ap (λ (ys : List Y). f x ∷ ys) rest
    by false rest = rest
