-- All blocks of a store and the table that they stand for.
use Rattle.std.proofs.Common.{◌≡◌, ℕ, ◌+◌, ◌-◌, ◌<◌, ◌≤◌, cond, List, length, Option, Some, None, refl, sym, ap, subst, ◌∙◌, arith}
use Rattle.std.specs.Prelude.{T, IsSome, is_some}
use Rattle.std.specs.FinMap as map
use Rattle.std.specs.FinMap.{from_sorted}
use Rattle.std.specs.FinMap.Entries.{find, put, is_sorted, is_sorted-put, is_sorted-where_key, length-put, length_without}
use Rattle.prefix6.specs.Prefix.{Prefix6, prefix_cmp}
use Rattle.prefix6.proofs.PrefixLaws.{prefixes_total}
use Rattle.route_table.specs.Route.{RouteValue}
use Rattle.route_table.specs.Place.{Entries}
use Rattle.route_table.specs.Table.{Table, table_limit, map_entries}
use Rattle.route_table.specs.Due.{without_mark}
use Rattle.route_table.specs.Trie.{without}
use Rattle.route_table.specs.Updating.{Updates, UpdatesEntries}
use Rattle.route_table.specs.Blocks.{joined, AreFilled, Covers, IsStore}
use Rattle.route_table.specs.Summary.{SummaryValue}
use Rattle.route_table.proofs.SortedTable.{get_is, table_put, sorted_unmarked}
use Rattle.route_table.proofs.TrieMarks.{plain_length}

module _ (count : ℕ) (bound : SummaryValue) (bs : List Entries) (n : IsStore count bound bs) (t : Table) (is : from_sorted (joined bs) ≡ t) (cs : List Entries) (filled : AreFilled cs) (s : SummaryValue) where
  pub unmarked_store : joined cs ≡ map_entries without_mark (joined bs) → Covers s (joined cs) → IsStore count s cs
  unmarked_store e covered = record {
    blocks = record { sorted = sorted_unmarked (joined bs) n.blocks.sorted t is (joined cs) (sym e); filled = filled };
    covered = covered;
    counted = n.counted ∙ sym (ap length e ∙ plain_length (joined bs));
    few = n.few;
  }

  pub same_store : joined cs ≡ joined bs → Covers s (joined cs) → IsStore count s cs
  same_store e covered = record {
    blocks = record { sorted = subst (λ l. T (is_sorted prefix_cmp l)) (sym e) n.blocks.sorted; filled = filled };
    covered = covered;
    counted = n.counted ∙ ap length (sym e);
    few = n.few;
  }

  module _ (k : Prefix6) where
    -- a prefix of the table is found in its block
    present : IsSome (map.get t k) → IsSome (find prefix_cmp k (joined bs))
    present some = subst IsSome (get_is (joined bs) n.blocks.sorted t is k) some

    pub added : (v : RouteValue) → map.get t k ≡ None → count < table_limit → joined cs ≡ put prefix_cmp k v (joined bs) → Covers s (joined cs) → IsStore (count + 1) s cs
    added v none room e covered =
        let absent : find prefix_cmp k (joined bs) ≡ None = sym (get_is (joined bs) n.blocks.sorted t is k) ∙ none in
        let more : length (joined cs) ≡ length (joined bs) + 1 = ap length e ∙ length-put prefix_cmp prefixes_total k v (joined bs) n.blocks.sorted ∙ ap (λ o. cond (is_some o) (length (joined bs)) (length (joined bs) + 1)) absent in
        record {
          blocks = record { sorted = subst (λ l. T (is_sorted prefix_cmp l)) (sym e) (is_sorted-put prefix_cmp prefixes_total k v (joined bs) n.blocks.sorted); filled = filled };
          covered = covered;
          counted = omega (arith, more, n.counted);
          few = omega arith;
        }

    replaced : (v : RouteValue) → IsSome (map.get t k) → joined cs ≡ put prefix_cmp k v (joined bs) → Covers s (joined cs) → IsStore count s cs
    replaced v found e covered =
        let same : length (joined cs) ≡ length (joined bs) = ap length e ∙ length-put prefix_cmp prefixes_total k v (joined bs) n.blocks.sorted ∙ ap (λ b. cond b (length (joined bs)) (length (joined bs) + 1)) (present found) in
        record {
          blocks = record { sorted = subst (λ l. T (is_sorted prefix_cmp l)) (sym e) (is_sorted-put prefix_cmp prefixes_total k v (joined bs) n.blocks.sorted); filled = filled };
          covered = covered;
          counted = n.counted ∙ sym same;
          few = n.few;
        }

    is_present : (before : RouteValue) → find prefix_cmp k (joined bs) ≡ Some before → IsSome (map.get t k)
    is_present before held = subst IsSome (sym (get_is (joined bs) n.blocks.sorted t is k ∙ held)) refl

    -- the route to the prefix was changed, if there is one
    pub updated : {X : Type 0} (by : RouteValue → X → RouteValue → Type 0) (answer : Option X) → UpdatesEntries by k (joined bs) answer (joined cs) → Covers s (joined cs) → IsStore count s cs
    updated by None it covered = same_store it.1 covered
    updated by (Some x) it covered = replaced it.after (is_present it.before it.held) it.placed covered

    pub table_updated : {X : Type 0} (by : RouteValue → X → RouteValue → Type 0) (answer : Option X) → UpdatesEntries by k (joined bs) answer (joined cs) → Updates by k t answer (from_sorted (joined cs))
    table_updated by None it = (get_is (joined bs) n.blocks.sorted t is k ∙ it.0, ap from_sorted it.1 ∙ is)
    table_updated by (Some x) it = record {
      before = it.before;
      after = it.after;
      held = get_is (joined bs) n.blocks.sorted t is k ∙ it.held;
      made = it.made;
      placed = table_put (joined bs) n.blocks.sorted t is k it.after (joined cs) (sym it.placed);
    }

    fewer : IsSome (map.get t k) → 1 + length (without k (joined bs)) ≡ length (joined bs)
    fewer found = ap (λ b. cond b 1 0 + length (without k (joined bs))) (sym (present found)) ∙ length_without prefix_cmp prefixes_total k (joined bs) n.blocks.sorted

    pub some_left : IsSome (map.get t k) → 1 ≤ count
    some_left found = omega (arith, fewer found, n.counted)

    pub removed : IsSome (map.get t k) → joined cs ≡ without k (joined bs) → Covers s (joined cs) → IsStore (count - 1) s cs
    removed found e covered = record {
      blocks = record { sorted = subst (λ l. T (is_sorted prefix_cmp l)) (sym e) (is_sorted-where_key {X = RouteValue} prefix_cmp _ (joined bs) n.blocks.sorted); filled = filled };
      covered = covered;
      counted = omega (arith, fewer found, n.counted, ap length e);
      few = omega (arith, n.few);
    }
