-- What comes due first: the least prefix of those whose routes have the least deadline.
use Rattle.std.proofs.Common.{◌≡◌, ◌≢◌, ℕ, Bool, true, false, cond, ◌&&◌, T, [], ◌∷◌, Option, Some, None, refl, sym, ap, subst, ◌∙◌, arith}
use mathlib.Core.Bool.{false≢true}
use Rattle.std.specs.Prelude.{is_some, option_map, option_and_then}
use Rattle.std.specs.Ordering.{is_eq, eq_by_cmp}
use Rattle.std.specs.declared.cmp.Ordering.TheVariants.{Less, Greater}
use Rattle.std.specs.FinMap as map
use Rattle.std.specs.FinMap.{entries, find, is_sorted}
use Rattle.std.proofs.lemmas.Bool.Decides.{nat_tests}
use Rattle.prefix6.specs.Prefix.{Prefix6, prefix_cmp}
use Rattle.prefix6.proofs.SortedEntries.{below_at}
use Rattle.route_table.specs.Route.{RouteValue, deadline}
use Rattle.route_table.specs.Place.{Entries}
use Rattle.route_table.specs.Table.{Table}
use Rattle.route_table.specs.Due.{is_due, is_reached, earlier, least_deadline, first_where, next_due, deadline_at, IsFirstDue}
use Rattle.route_table.proofs.TableLaws.{and_left, and_right, Some-same, None-Some}
use Rattle.route_table.proofs.TrieLists.{Entry, itself, turned, found}
use Rattle.route_table.proofs.NextDue.{NoEarlier, head_bound, tail_bound, due_at_least, least_of_next}

-- what a list has at a prefix is due no earlier than the least
no_earlier_there : (es : Entries) (q : Prefix6) (r : RouteValue) → find prefix_cmp q es ≡ Some r → NoEarlier (least_deadline es) (deadline r)
no_earlier_there [] q r is = absurd (None-Some r is)
no_earlier_there (e ∷ es) q r is = by_tie (eq_by_cmp prefix_cmp q e.0) is (no_earlier_there es q r)
  where
    by_tie : (b : Bool) → cond b (Some e.1) (find prefix_cmp q es) ≡ Some r → (find prefix_cmp q es ≡ Some r → NoEarlier (least_deadline es) (deadline r)) → NoEarlier (earlier (deadline e.1) (least_deadline es)) (deadline r)
    by_tie true here deeper = subst (λ x. NoEarlier (earlier (deadline e.1) (least_deadline es)) (deadline x)) (Some-same e.1 r here) (head_bound (deadline e.1) (least_deadline es))
    by_tie false here deeper = tail_bound (deadline e.1) (least_deadline es) (deadline r) (deeper here)

-- what a sorted list has behind its first entry comes after it
after_first : (e : Entry) (es : Entries) (q : Prefix6) (r : RouteValue) → T (is_sorted prefix_cmp (e ∷ es)) → find prefix_cmp q es ≡ Some r → prefix_cmp q e.0 ≡ Greater
after_first e es q r sorted is = turned e.0 q Less (found (λ p. prefix_cmp e.0 p ≡ Less) q es (λ i d lt. below_at e.0 es i d (and_left _ _ sorted) lt) (ap is_some is))

not_both : (p q : Prefix6) → prefix_cmp p q ≡ Less → prefix_cmp p q ≡ Greater → ⊥
not_both p q less greater = cc

-- what a search finds stands at its prefix, and what else passes does not come before
record IsFirstOf (t : RouteValue → Bool) (es : Entries) (e : Entry) : Type 0 where
  pub there : find prefix_cmp e.0 es ≡ Some e.1
  pub not_before : (q : Prefix6) (r : RouteValue) → find prefix_cmp q es ≡ Some r → t r ≡ true → prefix_cmp q e.0 ≢ Less

module _ (t : RouteValue → Bool) (x : Entry) (es : Entries) (sorted : T (is_sorted prefix_cmp (x ∷ es))) where
  at_first : IsFirstOf t (x ∷ es) x
  at_first = record {
    there = ap (λ b. cond b (Some x.1) (find prefix_cmp x.0 es)) (itself x.0);
    not_before = λ q r is passes less. by_tie q r less (eq_by_cmp prefix_cmp q x.0) refl is;
  }
    where
      by_tie : (q : Prefix6) (r : RouteValue) → prefix_cmp q x.0 ≡ Less → (b : Bool) → eq_by_cmp prefix_cmp q x.0 ≡ b → cond b (Some x.1) (find prefix_cmp q es) ≡ Some r → ⊥
      by_tie q r less true tie is = false≢true (sym (ap is_eq less) ∙ tie)
      by_tie q r less false tie is = not_both q x.0 less (after_first x es q r sorted is)

  behind_first : (e : Entry) → t x.1 ≡ false → IsFirstOf t es e → IsFirstOf t (x ∷ es) e
  behind_first e fails f = record {
    there = ap (λ b. cond b (Some x.1) (find prefix_cmp e.0 es)) (ap is_eq (after_first x es e.0 e.1 sorted f.there)) ∙ f.there;
    not_before = λ q r is passes. by_tie q r passes (eq_by_cmp prefix_cmp q x.0) is;
  }
    where
      by_tie : (q : Prefix6) (r : RouteValue) → t r ≡ true → (b : Bool) → cond b (Some x.1) (find prefix_cmp q es) ≡ Some r → prefix_cmp q e.0 ≢ Less
      by_tie q r passes true is = absurd (false≢true (sym fails ∙ ap t (Some-same x.1 r is) ∙ passes))
      by_tie q r passes false is = f.not_before q r is passes

first_of : (t : RouteValue → Bool) (es : Entries) (e : Entry) → T (is_sorted prefix_cmp es) → first_where t None es ≡ Some e → IsFirstOf t es e
first_of t [] e sorted is = absurd (None-Some e is)
first_of t (x ∷ es) e sorted is = by (t x.1) refl is (first_of t es e (and_right _ _ sorted))
  where
    by : (b : Bool) → t x.1 ≡ b → cond (b && true) (Some x) (first_where t None es) ≡ Some e → (first_where t None es ≡ Some e → IsFirstOf t es e) → IsFirstOf t (x ∷ es) e
    by true passes here deeper = subst (IsFirstOf t (x ∷ es)) (Some-same x e here) (at_first t x es sorted)
    by false fails here deeper = behind_first t x es sorted e fails (deeper here)

-- ---- over the table
module _ (t : Table) where
  -- no deadline is earlier than the least
  no_earlier : (q : Prefix6) → NoEarlier (least_deadline (entries t)) (deadline_at t q)
  no_earlier q = by (map.get t q) refl
    where
      by : (o : Option RouteValue) → map.get t q ≡ o → NoEarlier (least_deadline (entries t)) (option_and_then deadline o)
      by None is = tt
      by (Some r) is = no_earlier_there (entries t) q r (sym (map.get-entries t q) ∙ is)

  module _ (n : ℕ) (l : least_deadline (entries t) ≡ Some n) (e : Entry) (is : first_where (is_due n) None (entries t) ≡ Some e) where
    its_place : IsFirstOf (is_due n) (entries t) e
    its_place = first_of (is_due n) (entries t) e (map.entries_sorted t) is

    not_before_it : (q : Prefix6) → deadline_at t q ≡ Some n → prefix_cmp q e.0 ≢ Less
    not_before_it q = by (map.get t q) refl
      where
        by : (o : Option RouteValue) → map.get t q ≡ o → option_and_then deadline o ≡ Some n → prefix_cmp q e.0 ≢ Less
        by None there d = absurd (None-Some n d)
        by (Some r) there d = its_place.not_before q r (sym (map.get-entries t q) ∙ there) (ap (is_reached n) d ∙ grind (arith, nat_tests))

    is_first : IsFirstDue t n e.0
    is_first = record {
      its_deadline = ap (option_and_then deadline) (map.get-entries t e.0 ∙ its_place.there) ∙ due_at_least t n l e is;
      earliest = λ q other d. subst (NoEarlier (Some n)) d (subst (λ o. NoEarlier o (deadline_at t q)) l (no_earlier q));
      not_before = not_before_it;
    }

  -- the route that `next_due` names
  pub next_is_first : (until : ℕ) (p : Prefix6) → next_due t ≡ Some (until, p) → IsFirstDue t until p
  next_is_first until p is = by (least_deadline (entries t)) refl is
    where
      with_entry : (n : ℕ) → least_deadline (entries t) ≡ Some n → (o : Option Entry) → first_where (is_due n) None (entries t) ≡ o → option_map {U = ℕ × Prefix6} (λ (x : Entry). (n, x.0)) o ≡ Some (until, p) → IsFirstDue t until p
      with_entry n l None found_none named = absurd (None-Some (until, p) named)
      with_entry n l (Some e) here named = subst (λ (x : ℕ × Prefix6). IsFirstDue t x.0 x.1) (Some-same (n, e.0) (until, p) named) (is_first n l e here)

      by : (o : Option ℕ) → least_deadline (entries t) ≡ o → option_and_then (λ n. option_map {U = ℕ × Prefix6} (λ (x : Entry). (n, x.0)) (first_where (is_due n) None (entries t))) o ≡ Some (until, p) → IsFirstDue t until p
      by None l named = absurd (None-Some (until, p) named)
      by (Some n) l named = with_entry n l (first_where (is_due n) None (entries t)) refl named

  -- where it names none, no route ages
  pub none_ages : next_due t ≡ None → (q : Prefix6) → deadline_at t q ≡ None
  none_ages none q = by (deadline_at t q) refl (subst (λ o. NoEarlier o (deadline_at t q)) (sym (least_of_next t) ∙ ap (option_map (λ (x : ℕ × Prefix6). x.0)) none) (no_earlier q))
    where
      by : (o : Option ℕ) → deadline_at t q ≡ o → NoEarlier None o → o ≡ None
      by None is h = refl
      by (Some d) is h = absurd h
