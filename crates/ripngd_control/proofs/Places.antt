-- The place of a sender's row, or how many rows there are.
use Rattle.std.proofs.Common.{◌≡◌, ◌≤◌, ◌+◌, ◌++◌, ◌∷◌, [], ℕ, List, Bool, true, false, Some, None, ap, arith, cond, length, refl}
use Rattle.std.specs.Prelude.{not, position}
use Rattle.std.specs.Option.{unwrap_or}
use Rattle.std.specs.List.{position_or_len}
use Rattle.std.proofs.lemmas.List.Sums.{prefix_len-le-length}
use lib.Dec.{ltb}

place_by : (b : Bool) (i n : ℕ) → i ≤ n → ltb i n ≡ b → unwrap_or (cond b (Some i) None) n ≡ i
place_by true i n le is = refl
place_by false i n le is = grind arith

pub place_is : {X : Type 0} (p : X → Bool) (xs : List X) → unwrap_or (position p xs) (length xs) ≡ position_or_len p xs
place_is p xs = place_by (ltb (position_or_len p xs) (length xs)) (position_or_len p xs) (length xs) (prefix_len-le-length (λ x. not (p x)) xs) refl

-- a row behind the others, where it passes, changes no place
pub place_pushed : {X : Type 0} (p : X → Bool) (xs : List X) (y : X) → p y ≡ true → position_or_len p (xs ++ y ∷ []) ≡ position_or_len p xs
place_pushed p [] y passes = rw passes refl
place_pushed p (x ∷ xs) y passes = ap (λ (n : ℕ). cond (not (p x)) (1 + n) 0) (place_pushed p xs y passes)
