-- What a list has at a place where it was set.
use Rattle.std.proofs.Common.{◌≡◌, ℕ, zero, suc, refl, List, [], ◌∷◌, Some, get_or, slice_get, slice_set}
use Rattle.route_table.proofs.TableLaws.{None-Some, Some-same}

pub get_here : {X : Type 0} (xs : List X) (i : ℕ) (old x : X) → slice_get xs i ≡ Some old → slice_get (slice_set xs i x) i ≡ Some x
get_here [] i old x is = absurd (None-Some old is)
get_here (y ∷ ys) zero old x is = refl
get_here (y ∷ ys) (suc i) old x is = get_here ys i old x is

pub get_some : {X : Type 0} (xs : List X) (i : ℕ) (x other : X) → slice_get xs i ≡ Some x → get_or xs i other ≡ x
get_some [] i x other is = absurd (None-Some x is)
get_some (y ∷ ys) zero x other is = Some-same y x is
get_some (y ∷ ys) (suc i) x other is = get_some ys i x other is
