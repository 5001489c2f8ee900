-- A block after one entry was replaced, inserted or removed, and the parts of one.
use Rattle.std.proofs.Common.{◌≡◌, ℕ, zero, suc, List, [], ◌∷◌, ◌++◌, map as each, get_or, take, drop, set, Some, sym, ap, ap₂, subst, ◌∙◌}
use Rattle.std.specs.Prelude.{T}
use Rattle.std.specs.List.{insert, remove}
use Rattle.std.specs.FinMap.{is_sorted}
use Rattle.std.specs.FinMap.Entries.{find, put, is_sorted-put, is_sorted-where_key}
use Rattle.std.proofs.lemmas.List.{take-append-drop, map-append, map-set, take-map, drop-map}
use Rattle.std.proofs.Math.ListN.{get_or-map}
use Rattle.prefix6.specs.Prefix.{Prefix6, prefix_cmp}
use Rattle.prefix6.specs.Places.{IsAt, IsGap}
use Rattle.prefix6.proofs.PrefixLaws.{prefixes_total}
use Rattle.prefix6.proofs.SortedEntries.{find_at, put_at, put_gap, where_at}
use Rattle.fib.specs.Forwarding.{Forward}
use Rattle.fib.specs.Entries.{Entry, at_prefix}
use Rattle.fib.specs.Blocks.{Pairs, forward_of_entry, without, StartsAt, IsBlock}
use Rattle.fib.proofs.Gaps.{sorted_front, sorted_back}

-- ---- what a block begins by
starts_take : (f : Prefix6) (n : ℕ) (es : Pairs) → StartsAt f es → StartsAt f (take n es)
starts_take f zero es h = tt
starts_take f (suc n) [] h = tt
starts_take f (suc n) (e ∷ es) h = h

starts_set : (f : Prefix6) (es : Pairs) (k : Prefix6) (v : Forward) (i : ℕ) → IsAt es k i → StartsAt f es → StartsAt f (set es i (k, v))
starts_set f [] k v i a h = tt
starts_set f (e ∷ es) k v zero a h = sym (a.has_prefix e) ∙ h
starts_set f (e ∷ es) k v (suc i) a h = h

module _ (first : Prefix6) (es : List Entry) (h : IsBlock first (each at_prefix es)) where
  -- what stands at a place
  pub found_is : (p : Prefix6) (i : ℕ) (e : Entry) → IsAt (each at_prefix es) p i → e ≡ get_or es i e → find prefix_cmp p (each at_prefix es) ≡ Some (forward_of_entry e)
  found_is p i e a is = find_at (each at_prefix es) p i (at_prefix e) h.sorted a ∙ ap (λ (x : Prefix6 × Forward). Some x.1) (get_or-map at_prefix es i e) ∙ ap (λ x. Some (forward_of_entry x)) (sym is)

  -- with an entry replaced
  module _ (e : Entry) (i : ℕ) (a : IsAt (each at_prefix es) e.0 i) (fs : List Entry) (is : fs ≡ set es i e) where
    set_is : each at_prefix fs ≡ set (each at_prefix es) i (at_prefix e)
    set_is = ap (each at_prefix) is ∙ map-set at_prefix es i e

    pub replaced_is : each at_prefix fs ≡ put prefix_cmp e.0 (forward_of_entry e) (each at_prefix es)
    replaced_is = set_is ∙ sym (put_at (each at_prefix es) e.0 (forward_of_entry e) i h.sorted a)

    pub replaced_block : IsBlock first (each at_prefix fs)
    replaced_block = record {
      sorted = subst (λ l. T (is_sorted prefix_cmp l)) (sym replaced_is) (is_sorted-put prefix_cmp prefixes_total e.0 (forward_of_entry e) (each at_prefix es) h.sorted);
      starts = subst (StartsAt first) (sym set_is) (starts_set first (each at_prefix es) e.0 (forward_of_entry e) i a h.starts);
    }

  -- with an entry inserted
  module _ (e : Entry) (i : ℕ) (gap : IsGap (each at_prefix es) e.0 i) (fs : List Entry) (is : fs ≡ insert es i e) where
    pub inserted_is : each at_prefix fs ≡ put prefix_cmp e.0 (forward_of_entry e) (each at_prefix es)
    inserted_is =
        ap (each at_prefix) is
        ∙ map-append at_prefix (take i es) (e ∷ drop i es)
        ∙ ap₂ (λ (a b : Pairs). a ++ at_prefix e ∷ b) (sym (take-map at_prefix i es)) (sym (drop-map at_prefix i es))
        ∙ sym (put_gap (each at_prefix es) e.0 (forward_of_entry e) i gap)

    pub inserted_block : (other : Prefix6) → StartsAt other (each at_prefix fs) → IsBlock other (each at_prefix fs)
    inserted_block other starts = record {
      sorted = subst (λ l. T (is_sorted prefix_cmp l)) (sym inserted_is) (is_sorted-put prefix_cmp prefixes_total e.0 (forward_of_entry e) (each at_prefix es) h.sorted);
      starts = starts;
    }

  -- with an entry removed
  module _ (p : Prefix6) (i : ℕ) (a : IsAt (each at_prefix es) p i) (fs : List Entry) (is : fs ≡ remove es i) where
    pub removed_is : each at_prefix fs ≡ without p (each at_prefix es)
    removed_is =
        ap (each at_prefix) is
        ∙ map-append at_prefix (take i es) (drop (suc i) es)
        ∙ ap₂ (λ (b c : Pairs). b ++ c) (sym (take-map at_prefix i es)) (sym (drop-map at_prefix (suc i) es))
        ∙ sym (where_at (each at_prefix es) p i h.sorted a)

    pub removed_block : (other : Prefix6) → StartsAt other (each at_prefix fs) → IsBlock other (each at_prefix fs)
    removed_block other starts = record {
      sorted = subst (λ l. T (is_sorted prefix_cmp l)) (sym removed_is) (is_sorted-where_key {X = Forward} prefix_cmp _ (each at_prefix es) h.sorted);
      starts = starts;
    }

  -- its two parts
  in_parts : (n : ℕ) → T (is_sorted prefix_cmp (take n (each at_prefix es) ++ drop n (each at_prefix es)))
  in_parts n = subst (λ l. T (is_sorted prefix_cmp l)) (sym (take-append-drop n (each at_prefix es))) h.sorted

  pub lower_is : (n : ℕ) (fs : List Entry) → fs ≡ take n es → each at_prefix fs ≡ take n (each at_prefix es)
  lower_is n fs is = ap (each at_prefix) is ∙ sym (take-map at_prefix n es)

  pub lower_block : (n : ℕ) (fs : List Entry) → fs ≡ take n es → IsBlock first (each at_prefix fs)
  lower_block n fs is = subst (IsBlock first) (sym (lower_is n fs is)) (record {
    sorted = sorted_front (take n (each at_prefix es)) (drop n (each at_prefix es)) (in_parts n);
    starts = starts_take first n (each at_prefix es) h.starts;
  })

  pub upper_is : (n : ℕ) (fs : List Entry) → fs ≡ drop n es → each at_prefix fs ≡ drop n (each at_prefix es)
  upper_is n fs is = ap (each at_prefix) is ∙ sym (drop-map at_prefix n es)

  pub upper_block : (n : ℕ) (fs : List Entry) (other : Prefix6) → fs ≡ drop n es → StartsAt other (each at_prefix fs) → IsBlock other (each at_prefix fs)
  upper_block n fs other is starts = record {
    sorted = subst (λ l. T (is_sorted prefix_cmp l)) (sym (upper_is n fs is)) (sorted_back (take n (each at_prefix es)) (drop n (each at_prefix es)) (in_parts n));
    starts = starts;
  }
