-- A list of entries in order, and the table that it stands for.
use Rattle.std.proofs.Common.{◌≡◌, ◌≢◌, ℕ, ◌<◌, ◌≤◌, List, [], ◌∷◌, map as each, length, get_or, Option, Some, None, is_some, IsTrue, Result, Ok, Err, IfOk, IfErr, refl, sym, ap, subst, ◌∙◌, arith}
use Rattle.std.specs.Prelude.{T}
use Rattle.std.specs.List.Sorted.{IsSearchInRange, IsBinarySearchResult}
use Rattle.std.specs.declared.cmp.Ordering.TheVariants.{Less, Equal, Greater}
use Rattle.std.specs.Ordering.{ordering_index}
use Rattle.std.specs.FinMap as map
use Rattle.std.specs.FinMap.{entries, entries_sorted, entries-from_sorted, get-from_sorted, same_entries_map}
use Rattle.std.specs.FinMap.Entries.{find, is_sorted}
use Rattle.std.proofs.lemmas.List.{length-map}
use Rattle.std.proofs.Math.ListN.{get_or-map}
use Rattle.prefix6.specs.Prefix.{Prefix6, prefix_cmp}
use Rattle.prefix6.specs.Places.{IsAt, IsGap}
use Rattle.prefix6.proofs.SortedEntries.{searched}
use Rattle.fib.specs.Forwarding.{Forward, Forwarding}
use Rattle.fib.specs.Entries.{Entry, at_prefix, fib_entry, listed, table_of, AreInOrder}

-- ---- entries and what stands at their prefixes
pub listed_again : (es : List Entry) → each fib_entry (each at_prefix es) ≡ es
listed_again [] = refl
listed_again (e ∷ es) = ap (λ l. e ∷ l) (listed_again es)

pub none_left : (es : List Entry) → length es ≡ 0 → es ≡ []
none_left [] none = refl
none_left (e ∷ es) none = absurd (omega (arith, none))

-- the prefix at a place
pub same_at : (es : List Entry) (i : ℕ) (d : Prefix6 × Forward) → (get_or (each at_prefix es) i d).0 ≡ (get_or es i (fib_entry d)).0
same_at es i d = ap (λ (e : Prefix6 × Forward). e.0) (get_or-map at_prefix es i (fib_entry d))

-- ---- a binary search
-- by the prefixes of entries is one by the prefixes at which they stand
by_prefix : (es : List Entry) (p : Prefix6) (r : Result ℕ ℕ) → IsBinarySearchResult (λ e. prefix_cmp e.0 p) es r → IsBinarySearchResult (λ e. prefix_cmp e.0 p) (each at_prefix es) r
by_prefix es p (Ok i) is = λ d. subst (λ q. prefix_cmp q p ≡ Equal) (sym (same_at es i d)) (is (fib_entry d))
by_prefix es p (Err i) is = λ rises.
    let parts = is (λ j k d le lt.
    subst (λ q. ordering_index (prefix_cmp q p) ≤ ordering_index (prefix_cmp (get_or es k d).0 p)) (same_at es j (at_prefix d))
    (subst (λ q. ordering_index (prefix_cmp (get_or (each at_prefix es) j (at_prefix d)).0 p) ≤ ordering_index (prefix_cmp q p)) (same_at es k (at_prefix d))
    (rises j k (at_prefix d) le (subst (λ n. k < n) (sym (length-map es at_prefix)) lt)))) in (
      λ j d low lt. subst (λ q. prefix_cmp q p ≡ Less) (sym (same_at es j d)) (parts.0 j (fib_entry d) low lt),
      λ j d low lt. subst (λ q. prefix_cmp q p ≡ Greater) (sym (same_at es j d)) (parts.1 j (fib_entry d) low (subst (λ n. j < n) (length-map es at_prefix) lt)),
    )

-- ends at the entry of the prefix, or at the gap for it
pub found_in : (es : List Entry) (p : Prefix6) → AreInOrder es → (r : Result ℕ ℕ) → IsSearchInRange r (length es) → IsBinarySearchResult (λ e. prefix_cmp e.0 p) es r → record { found : IfOk r (IsAt (each at_prefix es) p); absent : IfErr r (IsGap (each at_prefix es) p) }
found_in es p h r in_range is = searched (each at_prefix es) p h.rising r (subst (IsSearchInRange r) (sym (length-map es at_prefix)) in_range) (by_prefix es p r is)

-- ---- the entries of a table
pairs_again : (l : List (Prefix6 × Forward)) → each at_prefix (each fib_entry l) ≡ l
pairs_again [] = refl
pairs_again (e ∷ l) = ap (λ x. e ∷ x) (pairs_again l)

pub listed_order : (table : Forwarding) → AreInOrder (listed table)
listed_order table = record { rising = subst (λ l. T (is_sorted prefix_cmp l)) (sym (pairs_again (entries table))) (entries_sorted table) }

pub listed_table : (table : Forwarding) → table_of (listed table) ≡ table
listed_table table = ap map.from_sorted (pairs_again (entries table)) ∙ same_entries_map _ table (entries-from_sorted prefix_cmp (entries table) (entries_sorted table))

pub get_is : (es : List Entry) → AreInOrder es → (table : Forwarding) → table_of es ≡ table → (p : Prefix6) → map.get table p ≡ find prefix_cmp p (each at_prefix es)
get_is es h table is p = ap (λ m. map.get m p) (sym is) ∙ get-from_sorted prefix_cmp (each at_prefix es) p h.rising

-- what is there is not absent
pub some_found : (o : Option Forward) → IsTrue (is_some o) → o ≢ None
some_found None there = λ e. absurd (cc)
some_found (Some f) there = λ e. absurd (cc)
