-- A block after one route was put, changed or taken out, and the parts of one.
use Rattle.std.proofs.Common.{◌≡◌, ℕ, zero, suc, ◌+◌, ◌-◌, ◌<◌, ◌≤◌, Bool, true, false, [], ◌∷◌, ◌++◌, length, get_or, take, drop, set, if◌then◌else◌, sym, ap, subst, ◌∙◌, inl, inr, arith, length-append, length-take, length-drop}
use mathlib.Core.Bool.{false≢true}
use Rattle.std.specs.Prelude.{T, All, None, is_some}
use Rattle.std.specs.List.{insert, remove}
use Rattle.std.specs.declared.cmp.Ordering.TheVariants.{Less}
use Rattle.std.specs.FinMap.{is_sorted}
use Rattle.std.specs.FinMap.Entries.{find, put, below_all, is_sorted-put, is_sorted-where_key}
use Rattle.std.proofs.lemmas.Bool.{cases_lt}
use Rattle.std.proofs.lemmas.List.{take-append-drop, get_or_default, length-set}
use Rattle.std.proofs.lemmas.List.Edits.{length-insert, length-remove}
use Rattle.prefix6.specs.Prefix.{Prefix6, prefix_cmp}
use Rattle.prefix6.specs.Places.{prefix_at, IsAt, IsGap}
use Rattle.prefix6.proofs.PrefixLaws.{prefixes_total}
use Rattle.prefix6.proofs.SortedEntries.{find_at, put_at, put_gap, where_at, sorted_at}
use Rattle.route_table.specs.Route.{RouteValue}
use Rattle.route_table.specs.Place.{Entries}
use Rattle.route_table.specs.Table.{map_entries}
use Rattle.route_table.specs.Trie.{without}
use Rattle.route_table.specs.Due.{without_mark}
use Rattle.route_table.specs.Summary.{SummaryValue, both, summary_of, summary_of_route}
use Rattle.route_table.specs.Blocks.{block_limit, StartsAt, Covers, IsBlock}
use Rattle.route_table.proofs.TableLaws.{and_left, and_right, and_both, is_sorted-map_entries}
use Rattle.route_table.proofs.TrieLists.{Entry}
use Rattle.route_table.proofs.TrieMarks.{plain_length}
use Rattle.route_table.proofs.BlockLists.{sorted_right}
use Rattle.route_table.proofs.BlockBounds.{covers_set, covers_insert, covers_summed, covers_join, covers_plain}

-- ---- parts of a sorted list
below_left : (x : Prefix6) (xs ys : Entries) → T (below_all prefix_cmp x (xs ++ ys)) → T (below_all prefix_cmp x xs)
below_left x [] ys h = tt
below_left x (e ∷ xs) ys h = and_both _ _ (and_left _ _ h) (below_left x xs ys (and_right _ _ h))

pub sorted_left : (xs ys : Entries) → T (is_sorted prefix_cmp (xs ++ ys)) → T (is_sorted prefix_cmp xs)
sorted_left [] ys h = tt
sorted_left (e ∷ xs) ys h = and_both _ _ (below_left e.0 xs ys (and_left _ _ h)) (sorted_left xs ys (and_right _ _ h))

in_parts : (es : Entries) (n : ℕ) → T (is_sorted prefix_cmp es) → T (is_sorted prefix_cmp (take n es ++ drop n es))
in_parts es n h = subst (λ l. T (is_sorted prefix_cmp l)) (sym (take-append-drop n es)) h

-- where the last comes before a prefix, all do
pub all_before : (es : Entries) (n : ℕ) (e : Entry) (p : Prefix6) → T (is_sorted prefix_cmp es) → n + 1 ≡ length es → e ≡ get_or es n e → prefix_cmp e.0 p ≡ Less → All (λ x. prefix_cmp x.0 p ≡ Less) es
all_before es n e p sorted last is less k d lt =
    let at_n : prefix_at es n d ≡ e.0 = ap (λ (x : Entry). x.0) (get_or_default es n d e (omega arith) ∙ sym is) in
    elim (cases_lt k n) [
      | inl before ↦ prefixes_total.trans (prefix_at es k d) e.0 p (subst (λ q. prefix_cmp (prefix_at es k d) q ≡ Less) at_n (sorted_at es k n d sorted before (omega arith))) less
      | inr ge ↦ let same : n ≡ k = omega arith in subst (λ i. prefix_cmp (prefix_at es i d) p ≡ Less) same (subst (λ q. prefix_cmp q p ≡ Less) (sym at_n) less)
    ]

-- ---- what a block begins by
starts_take : (f : Prefix6) (n : ℕ) (es : Entries) → StartsAt f es → StartsAt f (take n es)
starts_take f zero es h = tt
starts_take f (suc n) [] h = tt
starts_take f (suc n) (e ∷ es) h = h

starts_set : (f : Prefix6) (es : Entries) (k : Prefix6) (v : RouteValue) (i : ℕ) → IsAt es k i → StartsAt f es → StartsAt f (set es i (k, v))
starts_set f [] k v i a h = tt
starts_set f (e ∷ es) k v zero a h = sym (a.has_prefix e) ∙ h
starts_set f (e ∷ es) k v (suc i) a h = h

starts_append : (f : Prefix6) (es us : Entries) → 0 < length es → StartsAt f es → StartsAt f (es ++ us)
starts_append f [] us some h = absurd (omega arith)
starts_append f (e ∷ es) us some h = h

starts_plain : (f : Prefix6) (es : Entries) → StartsAt f es → StartsAt f (map_entries without_mark es)
starts_plain f [] h = tt
starts_plain f (e ∷ es) h = h

pub taken : (b : Bool) (fs xs ys : Entries) → fs ≡ (if b then xs else ys) → b ≡ true → fs ≡ xs
taken true fs xs ys is h = is
taken false fs xs ys is h = absurd (false≢true h)

pub covers_changed : (bound t s : SummaryValue) (es ls : Entries) (i : ℕ) (p : Prefix6) (r : RouteValue) → Covers bound es → t ≡ summary_of_route r → s ≡ both bound t → ls ≡ set es i (p, r) → Covers s ls
covers_changed bound t s es ls i p r h of is set_is =
    subst (Covers s) (sym set_is) (subst (λ x. Covers x (set es i (p, r))) (sym (is ∙ ap (both bound) of)) (covers_set bound es i p r h))

module _ (first : Prefix6) (bound : SummaryValue) (es : Entries) (h : IsBlock first bound es) where
  -- with a route put into a gap
  pub put_is : (k : Prefix6) (v : RouteValue) (i : ℕ) (fs : Entries) → IsGap es k i → fs ≡ insert es i (k, v) → fs ≡ put prefix_cmp k v es
  put_is k v i fs gap is = is ∙ sym (put_gap es k v i gap)

  pub put_block : (k : Prefix6) (v : RouteValue) (i : ℕ) (fs : Entries) (first' : Prefix6) (t s : SummaryValue) → length es < block_limit → IsGap es k i → fs ≡ insert es i (k, v) → StartsAt first' fs → t ≡ summary_of_route v → s ≡ both bound t → IsBlock first' s fs
  put_block k v i fs first' t s room gap is starts of more = record {
    sorted = subst (λ l. T (is_sorted prefix_cmp l)) (sym (put_is k v i fs gap is)) (is_sorted-put prefix_cmp prefixes_total k v es h.sorted);
    few = omega (arith, ap length is, length-insert es i (k, v) gap.in_range);
    starts = starts;
    covered = subst (Covers s) (sym is) (subst (λ x. Covers x (insert es i (k, v))) (sym (more ∙ ap (both bound) of)) (covers_insert bound es i k v h.covered));
  }

  -- with another route at a place
  pub set_block : (k : Prefix6) (v : RouteValue) (i : ℕ) (s : SummaryValue) → IsAt es k i → Covers s (set es i (k, v)) → IsBlock first s (set es i (k, v))
  set_block k v i s a covered = record {
    sorted = subst (λ l. T (is_sorted prefix_cmp l)) (put_at es k v i h.sorted a) (is_sorted-put prefix_cmp prefixes_total k v es h.sorted);
    few = omega (arith, length-set es i (k, v), h.few);
    starts = starts_set first es k v i a h.starts;
    covered = covered;
  }

  -- without the route at a place
  pub removed_is : (k : Prefix6) (i : ℕ) (fs : Entries) → IsAt es k i → fs ≡ remove es i → fs ≡ without k es
  removed_is k i fs a is = is ∙ sym (where_at es k i h.sorted a)

  pub removed_block : (k : Prefix6) (i : ℕ) (fs : Entries) (first' : Prefix6) (s : SummaryValue) → IsAt es k i → fs ≡ remove es i → StartsAt first' fs → Covers s fs → IsBlock first' s fs
  removed_block k i fs first' s a is starts covered = record {
    sorted = subst (λ l. T (is_sorted prefix_cmp l)) (sym (removed_is k i fs a is)) (is_sorted-where_key {X = RouteValue} prefix_cmp _ es h.sorted);
    few = omega (arith, ap length is, length-remove es i a.in_range, h.few);
    starts = starts;
    covered = covered;
  }

  -- its two parts, with bounds of their own
  pub lower_block : (n : ℕ) (fs : Entries) (s : SummaryValue) → fs ≡ take n es → s ≡ summary_of fs → IsBlock first s fs
  lower_block n fs s is exact = record {
    sorted = subst (λ l. T (is_sorted prefix_cmp l)) (sym is) (sorted_left (take n es) (drop n es) (in_parts es n h.sorted));
    few = omega (arith, ap length is, length-take n es, h.few);
    starts = subst (StartsAt first) (sym is) (starts_take first n es h.starts);
    covered = covers_summed s fs exact;
  }

  pub upper_block : (n : ℕ) (fs : Entries) (first' : Prefix6) (s : SummaryValue) → fs ≡ drop n es → StartsAt first' fs → s ≡ summary_of fs → IsBlock first' s fs
  upper_block n fs first' s is starts exact = record {
    sorted = subst (λ l. T (is_sorted prefix_cmp l)) (sym is) (sorted_right (take n es) (drop n es) (in_parts es n h.sorted));
    few = omega (arith, ap length is, length-drop n es, h.few);
    starts = starts;
    covered = covers_summed s fs exact;
  }

  -- with the routes of the block behind it
  pub absorbed_block : (first' : Prefix6) (bound' : SummaryValue) (us : Entries) → IsBlock first' bound' us → (s : SummaryValue) (fs : Entries) → 0 < length es → T (is_sorted prefix_cmp (es ++ us)) → fs ≡ es ++ us → s ≡ both bound bound' → length es + length us ≤ block_limit → IsBlock first s fs
  absorbed_block first' bound' us upper s fs some sorted is more few = subst (λ l. IsBlock first s l) (sym is) (subst (λ x. IsBlock first x (es ++ us)) (sym more) (record {
    sorted = sorted;
    few = omega (arith, length-append es us);
    starts = starts_append first es us some h.starts;
    covered = covers_join bound bound' es us h.covered upper.covered;
  }))

  -- without its marks
  pub plain_block : (fs : Entries) (s : SummaryValue) → fs ≡ map_entries without_mark es → s ≡ record bound { changed = false } → IsBlock first s fs
  plain_block fs s is off = subst (λ l. IsBlock first s l) (sym is) (subst (λ x. IsBlock first x (map_entries without_mark es)) (sym off) (record {
    sorted = is_sorted-map_entries without_mark es h.sorted;
    few = omega (arith, plain_length es, h.few);
    starts = starts_plain first es h.starts;
    covered = covers_plain bound es h.covered;
  }))

-- what has a place is found
pub found_absent : (es : Entries) (k : Prefix6) (i : ℕ) → T (is_sorted prefix_cmp es) → IsAt es k i → find prefix_cmp k es ≡ None → ⊥
found_absent [] k i h a none = omega (arith, a.in_range)
found_absent (e ∷ es) k i h a none = false≢true (ap is_some (sym none ∙ find_at (e ∷ es) k i e h a))

-- where the last comes before a prefix, the prefix goes to the end
pub gap_at_end : (es : Entries) (d : Entry) (p : Prefix6) → T (is_sorted prefix_cmp es) → (length es ≡ 0 → ⊥) → prefix_cmp (prefix_at es (length es - 1) d) p ≡ Less → IsGap es p (length es)
gap_at_end es d p sorted some less =
    let n = length es - 1 in
    let e : Entry = get_or es n d in
    record {
      in_range = omega arith;
      before = λ j f lt. all_before es n e p sorted (omega (arith, some)) (get_or_default es n d e (omega (arith, some))) less j f lt;
      after = λ j f le lt. absurd (omega arith);
    }
