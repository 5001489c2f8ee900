-- Entries in order and the table that they stand for.
use Rattle.std.proofs.Common.{◌≡◌, ◌==◌, ◌↔◌, ℕ, ◌+◌, ◌-◌, ◌≤◌, Bool, true, false, cond, not, [], length, List, Option, Some, None, IsTrue, eq-eqb, refl, sym, ap, subst, ◌∙◌, arith}
use Rattle.std.specs.Prelude.{T, is_some}
use Rattle.std.specs.Ordering.{eq_by_cmp}
use Rattle.std.specs.Cmp.{eq_by_cmp_equiv}
use Rattle.std.specs.FinMap as map
use Rattle.std.specs.FinMap.{from_sorted, entries, entries_sorted, entries-from_sorted, entries-insert, get-from_sorted, get-remove, len-entries, same_entries_map, same_map}
use Rattle.std.proofs.lemmas.Bool.{eqb-true}
use Rattle.std.proofs.lemmas.Map.Views.{tells_apart}
use Rattle.std.specs.FinMap.Entries.{find, put, is_sorted, is_sorted-where_key, find-where_key, where_key, length-put, length_without}
use Rattle.prefix6.specs.Prefix.{Prefix6, prefix_cmp}
use Rattle.prefix6.proofs.PrefixLaws.{prefixes_total, exact_prefixes}
use Rattle.fib.specs.Forwarding.{Forward, Forwarding}
use Rattle.fib.specs.Blocks.{Pairs, joined, without, AreFilled, IsFib}
use Rattle.fib.proofs.BlockChanges.{blocks_put, blocks_same}

turned_cond : (b : Bool) (x y : Option Forward) → cond (not b) x y ≡ cond b y x
turned_cond true x y = refl
turned_cond false x y = refl

pub table_none : (es : Pairs) → es ≡ [] → from_sorted {R = prefix_cmp} es ≡ map.empty
table_none es none = ap from_sorted none ∙ map.empty_of_len (from_sorted []) (len-entries (from_sorted []) ∙ ap length (entries-from_sorted prefix_cmp [] tt))

-- to take out what is not there changes nothing
pub not_there : (t : Forwarding) (p : Prefix6) → map.get t p ≡ None → t ≡ map.remove t p
not_there t p none = same_map prefixes_total exact_prefixes _ _ (λ q. by_tie q (eq_by_cmp prefix_cmp q p) refl ∙ sym (get-remove prefixes_total t p q))
  where
    by_tie : (q : Prefix6) (b : Bool) → eq_by_cmp prefix_cmp q p ≡ b → map.get t q ≡ cond b None (map.get t q)
    by_tie q true tie = ap (map.get t) (tells_apart exact_prefixes q p tie) ∙ none
    by_tie q false tie = refl

module _ (es : Pairs) (h : T (is_sorted prefix_cmp es)) (t : Forwarding) (is : from_sorted es ≡ t) where
  pub entries_are : entries t ≡ es
  entries_are = ap entries (sym is) ∙ entries-from_sorted prefix_cmp es h

  pub len_is : map.len t ≡ length es
  len_is = len-entries t ∙ ap length entries_are

  pub empty_is : (b : Bool) → b ≡ (length es == 0) → (IsTrue b ↔ (t ≡ map.empty))
  empty_is b by_len = (
    λ yes. map.empty_of_len t (len_is ∙ eqb-true (length es) 0 (sym by_len ∙ yes)),
    λ none. by_len ∙ eq-eqb (length es) 0 (sym len_is ∙ ap map.len none ∙ map.len-empty prefix_cmp Forward),
  )

  pub get_is : (k : Prefix6) → map.get t k ≡ find prefix_cmp k es
  get_is k = ap (λ m. map.get m k) (sym is) ∙ get-from_sorted prefix_cmp es k h

  -- a list that has a new entry in its place
  module _ (k : Prefix6) (v : Forward) (fs : Pairs) (p : put prefix_cmp k v es ≡ fs) where
    put_entries : entries (map.insert t k v) ≡ fs
    put_entries = entries-insert prefixes_total t k v ∙ ap (put prefix_cmp k v) entries_are ∙ p

    pub sorted_put : T (is_sorted prefix_cmp fs)
    sorted_put = subst (λ l. T (is_sorted prefix_cmp l)) put_entries (entries_sorted (map.insert t k v))

    pub table_put : from_sorted fs ≡ map.insert t k v
    table_put = same_entries_map _ _ (entries-from_sorted prefix_cmp fs sorted_put ∙ sym put_entries)

  -- a list without the entry of a prefix
  module _ (k : Prefix6) (fs : Pairs) (p : where_key prefix_cmp (λ x. not (eq_by_cmp prefix_cmp k x)) es ≡ fs) where
    pub sorted_without : T (is_sorted prefix_cmp fs)
    sorted_without = subst (λ l. T (is_sorted prefix_cmp l)) p (is_sorted-where_key prefix_cmp _ es h)

    pub table_without : from_sorted fs ≡ map.remove t k
    table_without = same_map prefixes_total exact_prefixes _ _ (λ q.
        get-from_sorted prefix_cmp fs q sorted_without
        ∙ ap (find prefix_cmp q) (sym p)
        ∙ find-where_key prefix_cmp (λ x. not (eq_by_cmp prefix_cmp k x)) q (λ x tie. ap (λ z. not (eq_by_cmp prefix_cmp k z)) (sym (exact_prefixes q x tie))) es
        ∙ turned_cond (eq_by_cmp prefix_cmp k q) _ _
        ∙ ap (λ b. cond b None (find prefix_cmp q es)) ((eq_by_cmp_equiv prefixes_total).symm k q)
        ∙ ap (cond (eq_by_cmp prefix_cmp q k) None) (sym (get_is q))
        ∙ sym (get-remove prefixes_total t k q))

-- ---- the count of all blocks
module _ (count : ℕ) (bs : List Pairs) (n : IsFib count bs) (cs : List Pairs) (filled : AreFilled cs) (p : Prefix6) where
  pub same_fib : joined cs ≡ joined bs → IsFib count cs
  same_fib e = record { blocks = blocks_same bs cs n.blocks filled e; counted = n.counted ∙ ap length (sym e) }

  longer : (v : Forward) (o : Option Forward) → find prefix_cmp p (joined bs) ≡ o → joined cs ≡ put prefix_cmp p v (joined bs) → length (joined cs) ≡ cond (is_some o) (length (joined bs)) (length (joined bs) + 1)
  longer v o found e = ap length e ∙ length-put prefix_cmp prefixes_total p v (joined bs) n.blocks.sorted ∙ ap (λ x. cond (is_some x) (length (joined bs)) (length (joined bs) + 1)) found

  pub added : (v : Forward) → find prefix_cmp p (joined bs) ≡ None → joined cs ≡ put prefix_cmp p v (joined bs) → IsFib (count + 1) cs
  added v none e = record { blocks = blocks_put bs cs p v n.blocks filled e; counted = omega (arith, longer v None none e, n.counted) }

  pub replaced : (v w : Forward) → find prefix_cmp p (joined bs) ≡ Some w → joined cs ≡ put prefix_cmp p v (joined bs) → IsFib count cs
  replaced v w some e = record { blocks = blocks_put bs cs p v n.blocks filled e; counted = omega (arith, longer v (Some w) some e, n.counted) }

  fewer : (w : Forward) → find prefix_cmp p (joined bs) ≡ Some w → 1 + length (without p (joined bs)) ≡ length (joined bs)
  fewer w some = ap (λ o. cond (is_some o) 1 0 + length (without p (joined bs))) (sym some) ∙ length_without prefix_cmp prefixes_total p (joined bs) n.blocks.sorted

  pub some_left : (w : Forward) → find prefix_cmp p (joined bs) ≡ Some w → 1 ≤ count
  some_left w some = omega (arith, fewer w some, n.counted)

  pub removed : (w : Forward) → find prefix_cmp p (joined bs) ≡ Some w → joined cs ≡ without p (joined bs) → IsFib (count - 1) cs
  removed w some e = record {
    blocks = record { sorted = subst (λ l. T (is_sorted prefix_cmp l)) (sym e) (is_sorted-where_key {X = Forward} prefix_cmp _ (joined bs) n.blocks.sorted); filled = filled };
    counted = omega (arith, fewer w some, n.counted, ap length e);
  }
