-- The row of the sender that has been silent longest.
use Rattle.std.proofs.Common.{◌≡◌, ℕ, ◌+◌, ◌<◌, Bool, true, false, nat_lt, List, Option, None, Some, refl, sym, ap, subst, ◌∙◌, arith, slice_get}
use Rattle.std.proofs.lemmas.Bool.{false≢true, le-ltb, ltb-false, ltb-true}
use Rattle.ripngd_control.specs.Watching.{is_before}
use Rattle.ripngd_control.specs.declared.neighbors.Neighbor.{Neighbor}

-- where a comes not before b, and c before b, a comes not before c
pub not_before : (a b c : Option ℕ) → is_before a b ≡ false → is_before c b ≡ true → is_before a c ≡ false
not_before a None c later earlier = absurd (false≢true earlier)
not_before a (Some b) None later earlier = refl
not_before None (Some b) (Some c) later earlier = absurd (false≢true (sym later))
not_before (Some a) (Some b) (Some c) later earlier = le-ltb a c (omega (arith, ltb-false a b later, ltb-true c b earlier))

-- none comes before itself
pub not_before_itself : (a : Option ℕ) → is_before a a ≡ false
not_before_itself None = refl
not_before_itself (Some a) = le-ltb a a (omega arith)

-- of the first rows none was silent for longer than this one
abbrev pub IsSilentSoFar : List Neighbor → ℕ → Neighbor → Type 0
IsSilentSoFar rows count row = (i : ℕ) (other : Neighbor) → i < count → slice_get rows i ≡ Some other → is_before other.tally.last row.tally.last ≡ false

-- so it is of one row more
pub silent_more : (rows : List Neighbor) (count : ℕ) (row next : Neighbor) → IsSilentSoFar rows count row → slice_get rows count ≡ Some next
    → is_before next.tally.last row.tally.last ≡ false → IsSilentSoFar rows (count + 1) row
silent_more rows count row next so_far is late i other below at = by (nat_lt i count) refl
  where
    by : (b : Bool) → nat_lt i count ≡ b → is_before other.tally.last row.tally.last ≡ false
    by true low = so_far i other (ltb-true i count low) at
    by false high =
        let same : i ≡ count = omega (arith, ltb-false i count high, below) in
        let one : Some other ≡ Some next = sym at ∙ ap (slice_get rows) same ∙ is in
        let eq : other ≡ next = cc one in
        subst (λ x. is_before x.tally.last row.tally.last ≡ false) (sym eq) late

-- or of that row, where it was silent for longer
pub silent_next : (rows : List Neighbor) (count : ℕ) (row next : Neighbor) → IsSilentSoFar rows count row → slice_get rows count ≡ Some next
    → is_before next.tally.last row.tally.last ≡ true → IsSilentSoFar rows (count + 1) next
silent_next rows count row next so_far is early =
    silent_more rows count next next (λ i other below at. not_before other.tally.last row.tally.last next.tally.last (so_far i other below at) early) is
    (not_before_itself next.tally.last)
