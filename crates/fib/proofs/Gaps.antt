-- Places and gaps in lists of entries that are joined, and after an entry is taken out.
use Rattle.std.proofs.Common.{◌≡◌, ◌≢◌, ℕ, suc, Bool, true, false, cond, [], ◌∷◌, ◌++◌, Some, None, ◌&&◌, refl, sym, ap, ◌∙◌, arith}
use Rattle.std.specs.Prelude.{T}
use Rattle.std.specs.declared.cmp.Ordering.{Ordering}
use Rattle.std.specs.Ordering.{eq_by_cmp, ordering_reverse}
use Rattle.std.specs.FinMap.Entries.{find, is_sorted, below_all}
use Rattle.std.proofs.lemmas.Map.Views.{tells_apart}
use Rattle.prefix6.specs.Prefix.{Prefix6, prefix_cmp}
use Rattle.prefix6.specs.Places.{Valued, IsAt}
use Rattle.prefix6.proofs.PrefixLaws.{prefixes_total, exact_prefixes}

pub and_left : (a b : Bool) → T (a && b) → T a
and_left true b h = tt
and_left false b h = h

pub and_right : (a b : Bool) → T (a && b) → T b
and_right true b h = h
and_right false b h = absurd h

pub and_both : (a b : Bool) → T a → T b → T (a && b)
and_both true b h k = k
and_both false b h k = absurd h

pub turned : (x y : Prefix6) (r : Ordering) → prefix_cmp x y ≡ r → prefix_cmp y x ≡ ordering_reverse r
turned x y r h = prefixes_total.antisymm y x ∙ ap ordering_reverse h

module _ {X : Type 0} where
  -- ---- one entry in front
  at_suc : (e : Prefix6 × X) (es : Valued X) (p : Prefix6) (i : ℕ) → IsAt es p i → IsAt (e ∷ es) p (suc i)
  at_suc e es p i a = record { in_range = omega (arith, a.in_range); has_prefix = a.has_prefix }

  -- ---- two lists, one after the other
  below_front : (x : Prefix6) (xs ys : Valued X) → T (below_all prefix_cmp x (xs ++ ys)) → T (below_all prefix_cmp x xs)
  below_front x [] ys h = tt
  below_front x (e ∷ es) ys h = and_both _ _ (and_left _ _ h) (below_front x es ys (and_right _ _ h))

  pub sorted_front : (xs ys : Valued X) → T (is_sorted prefix_cmp (xs ++ ys)) → T (is_sorted prefix_cmp xs)
  sorted_front [] ys h = tt
  sorted_front (e ∷ es) ys h = and_both _ _ (below_front e.0 es ys (and_left _ _ h)) (sorted_front es ys (and_right _ _ h))

  pub sorted_back : (xs ys : Valued X) → T (is_sorted prefix_cmp (xs ++ ys)) → T (is_sorted prefix_cmp ys)
  sorted_back [] ys h = h
  sorted_back (e ∷ es) ys h = sorted_back es ys (and_right _ _ h)

  -- ---- where a prefix is
  pub found_at : (es : Valued X) (p : Prefix6) → find prefix_cmp p es ≢ None → (i : ℕ) × IsAt es p i
  found_at [] p h = absurd (h refl)
  found_at (e ∷ es) p h = by_tie (λ some. found_at es p some) (eq_by_cmp prefix_cmp p e.0) refl
    where
      by_tie : (find prefix_cmp p es ≢ None → (i : ℕ) × IsAt es p i) → (b : Bool) → eq_by_cmp prefix_cmp p e.0 ≡ b → (i : ℕ) × IsAt (e ∷ es) p i
      by_tie rest true tie = (0, record { in_range = omega arith; has_prefix = λ d. sym (tells_apart exact_prefixes p e.0 tie) })
      by_tie rest false tie =
          let later = rest (λ none. h (ap (λ b. cond b (Some e.1) (find prefix_cmp p es)) tie ∙ none)) in
          (suc later.0, at_suc e es p later.0 later.1)
