-- Lists of records that grow by one record.
use Rattle.std.proofs.Common.{◌≡◌, ℕ, suc, zero, subst, List, [], ◌∷◌, ◌++◌, length, Some, slice_get}
use Rattle.route_table.proofs.TableLaws.{None-Some, Some-same}

-- what holds of each at its place holds with one more
pub each_pushed : {X : Type 0} (P : ℕ → X → Type 0) (xs : List X) (x : X) → ((k : ℕ) (y : X) → slice_get xs k ≡ Some y → P k y) → P (length xs) x
    → (k : ℕ) (y : X) → slice_get (xs ++ x ∷ []) k ≡ Some y → P k y
each_pushed P [] x each last zero y is = subst (P 0) (Some-same x y is) last
each_pushed P [] x each last (suc k) y is = absurd (None-Some y is)
each_pushed P (z ∷ zs) x each last zero y is = each 0 y is
each_pushed P (z ∷ zs) x each last (suc k) y is = each_pushed (λ n. P (suc n)) zs x (λ n. each (suc n)) last k y is
