-- What a place in a list in the order of its prefixes says of finding, putting and taking out a prefix.
use Rattle.std.proofs.Common.{◌≡◌, ℕ, zero, suc, ◌<◌, ◌≤◌, Bool, true, false, cond, not, ◌&&◌, [], ◌∷◌, length, get_or, set, Some, None, Result, Ok, Err, refl, sym, ap, subst, ◌∙◌, inl, inr, arith, IfOk, IfErr}
use Rattle.std.specs.Prelude.{T}
use Rattle.std.specs.List.{insert, remove}
use Rattle.std.specs.List.Sorted.{IsNonDecreasingBy, IsSearchInRange, IsBinarySearchResult}
use Rattle.std.specs.declared.cmp.Ordering.{Ordering}
use Rattle.std.specs.declared.cmp.Ordering.TheVariants.{Less, Equal, Greater}
use Rattle.std.specs.Ordering.{is_lt, is_eq, eq_by_cmp, ordering_reverse, ordering_index}
use Rattle.std.specs.FinMap.Entries.{find, put, is_sorted, where_key, below_all, by_order}
use Rattle.std.proofs.lemmas.Bool.{cases_lt}
use Rattle.std.proofs.lemmas.Bool.Decides.{nat_tests}
use Rattle.prefix6.specs.Prefix.{Prefix6, prefix_cmp}
use Rattle.prefix6.specs.Places.{Valued, prefix_at, IsAt, IsGap}
use Rattle.prefix6.proofs.PrefixLaws.{prefixes_total, exact_prefixes}

and_left : (a b : Bool) → T (a && b) → T a
and_left true b h = tt
and_left false b h = h

and_right : (a b : Bool) → T (a && b) → T b
and_right true b h = h
and_right false b h = absurd h

is_less : (r : Ordering) → T (is_lt r) → r ≡ Less
is_less Less h = refl
is_less Equal h = absurd h
is_less Greater h = absurd h

turned : (x y : Prefix6) (r : Ordering) → prefix_cmp x y ≡ r → prefix_cmp y x ≡ ordering_reverse r
turned x y r h = prefixes_total.antisymm y x ∙ ap ordering_reverse h

-- a prefix below another compares with k no later than it does
rises : (x y k : Prefix6) → prefix_cmp x y ≡ Less → (r : Ordering) → prefix_cmp y k ≡ r → ordering_index (prefix_cmp x k) ≤ ordering_index r
rises x y k lt Less h = rw (prefixes_total.trans x y k lt h) (omega arith)
rises x y k lt Equal h = rw (subst (λ z. prefix_cmp x z ≡ Less) (exact_prefixes y k h) lt) (omega arith)
rises x y k lt Greater h = at_most (prefix_cmp x k)
  where
    at_most : (r : Ordering) → ordering_index r ≤ 2
    at_most Less = omega arith
    at_most Equal = omega arith
    at_most Greater = omega arith

itself : (k : Prefix6) → prefix_cmp k k ≡ Equal
itself k = grind (arith, nat_tests)

module _ {X : Type 0} where
  pub below_at : (x : Prefix6) (es : Valued X) (i : ℕ) (d : Prefix6 × X) → T (below_all prefix_cmp x es) → i < length es → prefix_cmp x (prefix_at es i d) ≡ Less
  below_at x [] i d h lt = absurd (omega arith)
  below_at x (e ∷ es) zero d h lt = is_less _ (and_left _ _ h)
  below_at x (e ∷ es) (suc i) d h lt = below_at x es i d (and_right _ _ h) (omega arith)

  pub sorted_at : (es : Valued X) (i j : ℕ) (d : Prefix6 × X) → T (is_sorted prefix_cmp es) → i < j → j < length es → prefix_cmp (prefix_at es i d) (prefix_at es j d) ≡ Less
  sorted_at [] i j d h lt in_range = absurd (omega arith)
  sorted_at (e ∷ es) zero zero d h lt in_range = absurd (omega arith)
  sorted_at (e ∷ es) zero (suc j) d h lt in_range = below_at e.0 es j d (and_left _ _ h) (omega arith)
  sorted_at (e ∷ es) (suc i) zero d h lt in_range = absurd (omega arith)
  sorted_at (e ∷ es) (suc i) (suc j) d h lt in_range = sorted_at es i j d (and_right _ _ h) (omega arith) (omega arith)

  -- comparisons with k do not fall along the list
  comparisons_rise : (es : Valued X) (k : Prefix6) → T (is_sorted prefix_cmp es) → IsNonDecreasingBy (λ e. ordering_index (prefix_cmp e.0 k)) es
  comparisons_rise es k h i j d le in_range = elim (cases_lt i j) [
    | inl lt ↦ rises _ _ k (sorted_at es i j d h lt in_range) _ refl
    | inr ge ↦ let e : i ≡ j = omega arith in rw e (omega arith)
  ]

  -- a binary search ends at the prefix, or at the gap for it
  pub searched : (es : Valued X) (k : Prefix6) → T (is_sorted prefix_cmp es) → (r : Result ℕ ℕ) → IsSearchInRange r (length es) → IsBinarySearchResult (λ e. prefix_cmp e.0 k) es r → record { found : IfOk r (IsAt es k); absent : IfErr r (IsGap es k) }
  searched es k h (Ok at_i) in_range equal = record {
    found = record { in_range = in_range; has_prefix = λ d. exact_prefixes _ k (equal d) };
    absent = tt;
  }
  searched es k h (Err at_i) in_range parted = record {
    found = tt;
    absent = record {
      in_range = in_range;
      before = λ j d lt. (parted (comparisons_rise es k h)).0 j d (omega arith) lt;
      after = λ j d le lt. (parted (comparisons_rise es k h)).1 j d le lt;
    };
  }

  -- ---- at the place of a prefix
  at_tail : (e : Prefix6 × X) (es : Valued X) (k : Prefix6) (i : ℕ) → IsAt (e ∷ es) k (suc i) → IsAt es k i
  at_tail e es k i a = record { in_range = omega (arith, a.in_range); has_prefix = a.has_prefix }

  -- the first prefix is above k where k stands later
  first_less : (e : Prefix6 × X) (es : Valued X) (k : Prefix6) (i : ℕ) → T (is_sorted prefix_cmp (e ∷ es)) → IsAt (e ∷ es) k (suc i) → prefix_cmp k e.0 ≡ Greater
  first_less e es k i h a = turned e.0 k Less (subst (λ z. prefix_cmp e.0 z ≡ Less) (a.has_prefix e) (below_at e.0 es i e (and_left _ _ h) (omega (arith, a.in_range))))

  pub find_at : (es : Valued X) (k : Prefix6) (i : ℕ) (d : Prefix6 × X) → T (is_sorted prefix_cmp es) → IsAt es k i → find prefix_cmp k es ≡ Some (get_or es i d).1
  find_at [] k i d h a = absurd (omega (arith, a.in_range))
  find_at (e ∷ es) k zero d h a = rw (a.has_prefix d, itself k) refl
  find_at (e ∷ es) k (suc i) d h a = rw (first_less e es k i h a) (find_at es k i d (and_right _ _ h) (at_tail e es k i a))

  put_here : (e : Prefix6 × X) (es : Valued X) (k : Prefix6) (v : X) → e.0 ≡ k → put prefix_cmp k v (e ∷ es) ≡ (k, v) ∷ es
  put_here e es k v is = subst (λ r. by_order r ((k, v) ∷ e ∷ es) ((e.0, v) ∷ es) (e ∷ put prefix_cmp k v es) ≡ (k, v) ∷ es) (sym (ap (prefix_cmp k) is ∙ itself k)) (ap (λ z. (z, v) ∷ es) is)

  pub put_at : (es : Valued X) (k : Prefix6) (v : X) (i : ℕ) → T (is_sorted prefix_cmp es) → IsAt es k i → put prefix_cmp k v es ≡ set es i (k, v)
  put_at [] k v i h a = absurd (omega (arith, a.in_range))
  put_at (e ∷ es) k v zero h a = put_here e es k v (a.has_prefix e)
  put_at (e ∷ es) k v (suc i) h a = subst (λ r. by_order r ((k, v) ∷ e ∷ es) ((e.0, v) ∷ es) (e ∷ put prefix_cmp k v es) ≡ e ∷ set es i (k, v)) (sym (first_less e es k i h a)) (ap (λ l. e ∷ l) (put_at es k v i (and_right _ _ h) (at_tail e es k i a)))

  -- nothing goes where the prefix is not
  where_other : (k : Prefix6) (es : Valued X) → T (below_all prefix_cmp k es) → where_key prefix_cmp (λ x. not (eq_by_cmp prefix_cmp k x)) es ≡ es
  where_other k [] h = refl
  where_other k (e ∷ es) h =
      let less : prefix_cmp k e.0 ≡ Less = is_less _ (and_left _ _ h) in
      let rest : where_key prefix_cmp (λ x. not (eq_by_cmp prefix_cmp k x)) es ≡ es = where_other k es (and_right _ _ h) in
      subst (λ r. cond (not (is_eq r)) (e ∷ where_key prefix_cmp (λ x. not (eq_by_cmp prefix_cmp k x)) es) (where_key prefix_cmp (λ x. not (eq_by_cmp prefix_cmp k x)) es) ≡ e ∷ es) (sym less) (ap (λ l. e ∷ l) rest)

  pub where_at : (es : Valued X) (k : Prefix6) (i : ℕ) → T (is_sorted prefix_cmp es) → IsAt es k i → where_key prefix_cmp (λ x. not (eq_by_cmp prefix_cmp k x)) es ≡ remove es i
  where_at [] k i h a = absurd (omega (arith, a.in_range))
  where_at (e ∷ es) k zero h a = rw (a.has_prefix e, itself k) (where_other k es (subst (λ z. T (below_all prefix_cmp z es)) (a.has_prefix e) (and_left _ _ h)))
  where_at (e ∷ es) k (suc i) h a =
      let rest = where_key prefix_cmp (λ x. not (eq_by_cmp prefix_cmp k x)) es in
      subst (λ r. cond (not (is_eq r)) (e ∷ rest) rest ≡ e ∷ remove es i) (sym (first_less e es k i h a)) (ap (λ l. e ∷ l) (where_at es k i (and_right _ _ h) (at_tail e es k i a)))

  -- ---- at the gap for a prefix
  gap_tail : (e : Prefix6 × X) (es : Valued X) (k : Prefix6) (i : ℕ) → IsGap (e ∷ es) k (suc i) → IsGap es k i
  gap_tail e es k i a = record {
    in_range = omega (arith, a.in_range);
    before = λ j d lt. a.before (suc j) d (omega arith);
    after = λ j d le lt. a.after (suc j) d (omega arith) (omega arith);
  }

  gap_first : (e : Prefix6 × X) (es : Valued X) (k : Prefix6) → IsGap (e ∷ es) k 0 → IsGap es k 0
  gap_first e es k a = record {
    in_range = omega arith;
    before = λ j d lt. absurd (omega arith);
    after = λ j d le lt. a.after (suc j) d (omega arith) (omega arith);
  }

  pub find_gap : (es : Valued X) (k : Prefix6) (i : ℕ) → IsGap es k i → find prefix_cmp k es ≡ None
  find_gap [] k i a = refl
  find_gap (e ∷ es) k zero a = rw (turned e.0 k Greater (a.after 0 e (omega arith) (omega arith))) (find_gap es k zero (gap_first e es k a))
  find_gap (e ∷ es) k (suc i) a = rw (turned e.0 k Less (a.before 0 e (omega arith))) (find_gap es k i (gap_tail e es k i a))

  pub put_gap : (es : Valued X) (k : Prefix6) (v : X) (i : ℕ) → IsGap es k i → put prefix_cmp k v es ≡ insert es i (k, v)
  put_gap [] k v zero a = refl
  put_gap [] k v (suc i) a = refl
  put_gap (e ∷ es) k v zero a = rw (turned e.0 k Greater (a.after 0 e (omega arith) (omega arith))) refl
  put_gap (e ∷ es) k v (suc i) a = rw (turned e.0 k Less (a.before 0 e (omega arith)), put_gap es k v i (gap_tail e es k i a)) refl
