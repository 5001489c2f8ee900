-- Where the routes past a prefix begin, in a sorted list.
use Rattle.std.proofs.Common.{◌≡◌, ℕ, zero, suc, ◌+◌, ◌<◌, Bool, true, false, [], ◌∷◌, length, get_or, Some, slice_get, refl, ap, subst, inl, inr, arith}
use Rattle.std.specs.Prelude.{T}
use Rattle.std.specs.List.{find as first}
use Rattle.std.specs.declared.cmp.Ordering.{Ordering}
use Rattle.std.specs.declared.cmp.Ordering.TheVariants.{Less, Equal, Greater}
use Rattle.std.proofs.lemmas.Bool.Decides.{nat_tests}
use Rattle.std.specs.Ordering.{is_lt, ordering_reverse}
use Rattle.std.specs.FinMap.Entries.{is_sorted}
use Rattle.std.proofs.lemmas.Bool.{cases_lt}
use Rattle.prefix6.specs.Prefix.{Prefix6, prefix_cmp}
use Rattle.prefix6.specs.Places.{prefix_at, IsAt, IsGap}
use Rattle.prefix6.proofs.PrefixLaws.{prefixes_total}
use Rattle.prefix6.proofs.SortedEntries.{sorted_at}
use Rattle.route_table.specs.Route.{RouteValue}
use Rattle.route_table.specs.Place.{Entries, IsStartPast}

-- ---- at the place of a prefix
itself : (k : Prefix6) → prefix_cmp k k ≡ Equal
itself k = grind (arith, nat_tests)

pub first_at : (p : Prefix6 × RouteValue → Bool) (es : Entries) (i : ℕ) → ((j : ℕ) (d : Prefix6 × RouteValue) → j < i → j < length es → p (get_or es j d) ≡ false) → ((d : Prefix6 × RouteValue) → i < length es → p (get_or es i d) ≡ true) → first p es ≡ slice_get es i
first_at p [] i before here = refl
first_at p (e ∷ es) zero before here = rw (here e (omega arith)) refl
first_at p (e ∷ es) (suc i) before here = rw (before 0 e (omega arith) (omega arith)) (first_at p es i (λ j d lt in_range. before (suc j) d (omega arith) (omega arith)) (λ d lt. here d (omega arith)))

-- where the routes past a prefix begin
past_of_less : (r : Ordering) → r ≡ Less → is_lt (ordering_reverse r) ≡ false
past_of_less r h = rw h refl

past_of_greater : (r : Ordering) → r ≡ Greater → is_lt (ordering_reverse r) ≡ true
past_of_greater r h = rw h refl

pub start_after : (es : Entries) (k : Prefix6) (i : ℕ) → T (is_sorted prefix_cmp es) → IsAt es k i → IsStartPast es (Some k) (i + 1)
start_after es k i h a = record {
  in_range = omega (arith, a.in_range);
  before = λ j d lt in_range. elim (cases_lt j i) [
    | inl below ↦ rw (prefixes_total.antisymm k (prefix_at es j d)) (past_of_less _ (subst (λ z. prefix_cmp (prefix_at es j d) z ≡ Less) (a.has_prefix d) (sorted_at es j i d h below a.in_range)))
    | inr above ↦ let j_is : j ≡ i = omega arith in rw (j_is, a.has_prefix d, itself k) refl
  ];
  here = λ d lt. ap is_lt (subst (λ z. prefix_cmp z (prefix_at es (i + 1) d) ≡ Less) (a.has_prefix d) (sorted_at es i (i + 1) d h (omega arith) lt));
}

pub start_at_gap : (es : Entries) (k : Prefix6) (i : ℕ) → IsGap es k i → IsStartPast es (Some k) i
start_at_gap es k i a = record {
  in_range = a.in_range;
  before = λ j d lt in_range. rw (prefixes_total.antisymm k (prefix_at es j d)) (past_of_less _ (a.before j d lt));
  here = λ d lt. rw (prefixes_total.antisymm k (prefix_at es i d)) (past_of_greater _ (a.after i d (omega arith) lt));
}
