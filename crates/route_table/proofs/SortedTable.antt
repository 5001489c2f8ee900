-- A sorted list of routes and the table that it stands for.
use Rattle.std.proofs.Common.{◌≡◌, ℕ, Bool, true, false, cond, not, [], ◌∷◌, length, get_or, Bor, if◌then◌else◌, Option, Some, None, slice_get, refl, sym, ap, subst, ◌∙◌, arith}
use mathlib.Core.Bool.{false≢true}
use Rattle.std.specs.Prelude.{T, IsSome, is_some}
use Rattle.std.specs.List.{find as first, insert as insert_at}
use Rattle.std.specs.Ordering.{eq_by_cmp}
use Rattle.std.specs.Cmp.{eq_by_cmp_equiv}
use Rattle.std.specs.FinMap as map
use Rattle.std.specs.FinMap.{from_sorted, entries, entries_sorted, entries-from_sorted, entries-insert, get-from_sorted, get-remove, len-entries, same_entries_map, same_map}
use Rattle.std.specs.FinMap.Entries.{find, put, is_sorted, is_sorted-where_key, find-where_key, where_key}
use Rattle.std.specs.Slice.{IsItemAt}
use Rattle.std.specs.Option.{option_copied}
use Rattle.std.proofs.lemmas.Option.{slice_get_past, slice_get_read}
use Rattle.prefix6.specs.Prefix.{Prefix6, prefix_cmp}
use Rattle.prefix6.proofs.PrefixLaws.{prefixes_total, exact_prefixes}
use Rattle.route_table.specs.Route.{RouteValue}
use Rattle.route_table.specs.Table.{Table, map_entries, first_past, is_past}
use Rattle.route_table.specs.Due.{without_mark, unmarked}
use Rattle.prefix6.specs.Places.{IsAt, IsGap}
use Rattle.route_table.specs.Place.{Entries, IsStartPast}
use Rattle.route_table.proofs.TableLaws.{entries-empty, is_sorted-map_entries, entries-map_values}
use Rattle.prefix6.proofs.SortedEntries.{find_at, find_gap, put_gap}
use Rattle.route_table.proofs.SortedEntries.{first_at}

-- what `get` and `copied` answer
pub copied_at : (es : Entries) (i : ℕ) (o : Option (Bor (Prefix6 × RouteValue))) → IsItemAt es i o → option_copied o ≡ slice_get es i
copied_at es i None is = sym (slice_get_past es i is.3)
copied_at es i (Some x) is = sym (slice_get_read es (length es) i x.now refl is.3.0 is.1)

pub start_all : (es : Entries) → IsStartPast es None 0
start_all es = record { in_range = omega arith; before = λ j d lt. absurd (omega arith); here = λ d lt. refl }

-- the empty list
pub table_none : (es : Entries) → es ≡ [] → from_sorted {R = prefix_cmp} es ≡ map.empty
table_none es none = rw none (same_entries_map _ _ (entries-from_sorted prefix_cmp [] tt ∙ sym entries-empty))

module _ (es : Entries) (h : T (is_sorted prefix_cmp es)) (t : Table) (is : from_sorted es ≡ t) where
  pub entries_are : entries t ≡ es
  entries_are = ap entries (sym is) ∙ entries-from_sorted prefix_cmp es h

  pub len_is : map.len t ≡ length es
  len_is = len-entries t ∙ ap length entries_are

  pub get_is : (k : Prefix6) → map.get t k ≡ find prefix_cmp k es
  get_is k = ap (λ m. map.get m k) (sym is) ∙ get-from_sorted prefix_cmp es k h

  pub get_at : (k : Prefix6) (i : ℕ) (d : Prefix6 × RouteValue) → IsAt es k i → Some (get_or es i d).1 ≡ map.get t k
  get_at k i d a = sym (get_is k ∙ find_at es k i d h a)

  pub get_gap : (k : Prefix6) (i : ℕ) → IsGap es k i → map.get t k ≡ None
  get_gap k i a = get_is k ∙ find_gap es k i a

  -- what is present has no gap, and what is absent has no place
  pub present_gap : (k : Prefix6) (i : ℕ) → IsSome (map.get t k) → IsGap es k i → ⊥
  present_gap k i some a = false≢true (subst IsSome (get_gap k i a) some)

  pub absent_at : (k : Prefix6) (i : ℕ) → map.get t k ≡ None → IsAt es k i → ⊥
  absent_at k i none a = elim es as (λ l. T (is_sorted prefix_cmp l) → IsAt l k i → find prefix_cmp k l ≡ None → ⊥) [ [] ↦ λ _ b _. omega (arith, b.in_range) | e ∷ l ↦ λ s b n. false≢true (ap is_some (sym n ∙ find_at (e ∷ l) k i e s b)) ] h a (sym (get_is k) ∙ none)

  pub first_past_is : (after : Option Prefix6) (i : ℕ) → IsStartPast es after i → slice_get es i ≡ first_past after t
  first_past_is after i a = sym (first_at _ es i a.before a.here) ∙ ap (λ l. first (λ (e : Prefix6 × RouteValue). is_past after e.0) l) (sym entries_are)

  -- a list that has a new entry in its place
  module _ (k : Prefix6) (v : RouteValue) (fs : Entries) (p : put prefix_cmp k v es ≡ fs) where
    put_entries : entries (map.insert t k v) ≡ fs
    put_entries = entries-insert prefixes_total t k v ∙ ap (put prefix_cmp k v) entries_are ∙ p

    pub sorted_put : T (is_sorted prefix_cmp fs)
    sorted_put = subst (λ l. T (is_sorted prefix_cmp l)) put_entries (entries_sorted (map.insert t k v))

    pub table_put : from_sorted fs ≡ map.insert t k v
    table_put = same_entries_map _ _ (entries-from_sorted prefix_cmp fs sorted_put ∙ sym put_entries)

  -- a list whose marks are taken
  module _ (fs : Entries) (p : map_entries without_mark es ≡ fs) where
    pub sorted_unmarked : T (is_sorted prefix_cmp fs)
    sorted_unmarked = subst (λ l. T (is_sorted prefix_cmp l)) p (is_sorted-map_entries without_mark es h)

    pub table_unmarked : from_sorted fs ≡ unmarked t
    table_unmarked = same_entries_map _ _ (entries-from_sorted prefix_cmp fs sorted_unmarked ∙ sym p ∙ ap (map_entries without_mark) (sym entries_are) ∙ sym (entries-map_values without_mark t))

  -- a list without the entry of a prefix
  module _ (k : Prefix6) (fs : Entries) (p : where_key prefix_cmp (λ x. not (eq_by_cmp prefix_cmp k x)) es ≡ fs) where
    pub sorted_without : T (is_sorted prefix_cmp fs)
    sorted_without = subst (λ l. T (is_sorted prefix_cmp l)) p (is_sorted-where_key prefix_cmp _ es h)

    turned_cond : (b : Bool) (x y : Option RouteValue) → cond (not b) x y ≡ cond b y x
    turned_cond true x y = refl
    turned_cond false x y = refl

    pub table_without : from_sorted fs ≡ map.remove t k
    table_without = same_map prefixes_total exact_prefixes _ _ (λ q.
        get-from_sorted prefix_cmp fs q sorted_without
        ∙ ap (find prefix_cmp q) (sym p)
        ∙ find-where_key prefix_cmp (λ x. not (eq_by_cmp prefix_cmp k x)) q (λ x tie. ap (λ z. not (eq_by_cmp prefix_cmp k z)) (sym (exact_prefixes q x tie))) es
        ∙ turned_cond (eq_by_cmp prefix_cmp k q) _ _
        ∙ ap (λ b. cond b None (find prefix_cmp q es)) ((eq_by_cmp_equiv prefixes_total).symm k q)
        ∙ ap (cond (eq_by_cmp prefix_cmp q k) None) (sym (get_is q))
        ∙ sym (get-remove prefixes_total t k q))

  -- a list that may have a new entry in its gap
  module _ (k : Prefix6) (v : RouteValue) (i : ℕ) (a : IsGap es k i) (fs : Entries) where
    pub sorted_if : (b : Bool) → fs ≡ (if b then insert_at es i (k, v) else es) → T (is_sorted prefix_cmp fs)
    sorted_if true p = sorted_put k v fs (put_gap es k v i a ∙ sym p)
    sorted_if false p = subst (λ l. T (is_sorted prefix_cmp l)) (sym p) h

    pub table_if : (b : Bool) → fs ≡ (if b then insert_at es i (k, v) else es) → b ≡ true → from_sorted fs ≡ map.insert t k v
    table_if true p _ = table_put k v fs (put_gap es k v i a ∙ sym p)
    table_if false p e = absurd (false≢true e)
