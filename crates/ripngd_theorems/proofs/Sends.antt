-- What a deed handed over, and lists of which one item is another.
use Rattle.std.proofs.Common.{◌≡◌, ◌≢◌, ℕ, zero, suc, ◌+◌, List, [], ◌∷◌, ◌++◌, filter_map, length, Some, slice_get, slice_set, refl, ap, ◌∙◌, arith}
use Rattle.route_table.proofs.TableLaws.{None-Some}
use Rattle.ripngd_engine.specs.Run.{Sends, handed, datagrams_of}
use Rattle.ripngd_theorems.specs.Links.{handed_in}

-- ---- what a deed handed over

pub handed_back : (sends : Sends) → filter_map handed_in (handed sends) ≡ datagrams_of sends
handed_back [] = refl
handed_back (s ∷ sends) = ap (λ os. s.0 ∷ os) (handed_back sends)

-- ---- lists

pub set_here : {X : Type 0} (xs : List X) (i : ℕ) (old new : X) → slice_get xs i ≡ Some old → slice_get (slice_set xs i new) i ≡ Some new
set_here [] i old new is = absurd (None-Some old is)
set_here (x ∷ xs) zero old new is = refl
set_here (x ∷ xs) (suc i) old new is = set_here xs i old new is

pub set_elsewhere : {X : Type 0} (xs : List X) (i j : ℕ) (new : X) → i ≢ j → slice_get (slice_set xs i new) j ≡ slice_get xs j
set_elsewhere [] i j new other = refl
set_elsewhere (x ∷ xs) zero zero new other = absurd (other refl)
set_elsewhere (x ∷ xs) zero (suc j) new other = refl
set_elsewhere (x ∷ xs) (suc i) zero new other = refl
set_elsewhere (x ∷ xs) (suc i) (suc j) new other = set_elsewhere xs i j new (λ e. other (ap suc e))

-- what stands behind a first part
pub get_behind : {X : Type 0} (xs ys : List X) (i : ℕ) → slice_get (xs ++ ys) (length xs + i) ≡ slice_get ys i
get_behind [] ys i = ap (slice_get ys) (none i)
  where
    none : (i : ℕ) → 0 + i ≡ i
    none i = omega arith
get_behind (x ∷ xs) ys i = ap (slice_get (x ∷ (xs ++ ys))) (past (length xs) i) ∙ get_behind xs ys i
  where
    past : (n i : ℕ) → suc n + i ≡ suc (n + i)
    past n i = omega arith
