-- A packed summary can be unpacked again.
use Rattle.std.specs.Prelude.{◌≡◌, ℕ, Bool, true, false, is_some}
use Rattle.std.proofs.Common.{refl, sym}
use Rattle.route_table.specs.Summary.{unpacked, packed_ms, IsPacked}

-- packing an unpacked deadline gives its number back
pub same_ms : (n : ℕ) (b : Bool) → IsPacked n b → packed_ms (unpacked b n) ≡ n
same_ms n true h = refl
same_ms n false h = sym (h refl)

-- an unpacked deadline is there exactly if it counts
pub same_ages : (n : ℕ) (b : Bool) → is_some (unpacked b n) ≡ b
same_ages n true = refl
same_ages n false = refl
