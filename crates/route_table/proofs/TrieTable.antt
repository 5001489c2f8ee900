-- A whole trie and the table that it stands for.
use Rattle.std.proofs.Common.{◌≡◌, ℕ, ◌+◌, ◌-◌, ◌<◌, ◌≤◌, cond, length, Option, Some, None, refl, sym, ap, subst, ◌∙◌, arith}
use Rattle.std.specs.Prelude.{T, IsSome, is_some, option_map}
use Rattle.std.specs.FinMap as map
use Rattle.std.specs.FinMap.{from_sorted}
use Rattle.std.specs.FinMap.Entries.{find, put, is_sorted, is_sorted-put, is_sorted-where_key, length-put, length_without}
use Rattle.prefix6.specs.Prefix.{Prefix6, prefix_cmp}
use Rattle.prefix6.proofs.PrefixLaws.{prefixes_total}
use Rattle.route_table.specs.Route.{RouteValue}
use Rattle.route_table.specs.Table.{Table, table_limit, table_with, map_entries}
use Rattle.route_table.specs.Due.{without_mark}
use Rattle.route_table.specs.declared.trie.Node.{Node}
use Rattle.route_table.specs.Trie.{linked, without, entries_with, HasEntries, IsTrie}
use Rattle.route_table.proofs.SortedTable.{get_is, table_put, sorted_unmarked}
use Rattle.route_table.proofs.TrieMarks.{plain_length}

-- a trie whose marks are taken
pub unmarked_trie : (count : ℕ) (root : Node) (n : IsTrie count root) (t : Table) → from_sorted (linked root) ≡ t → (root' : Node) → HasEntries root' → linked root' ≡ map_entries without_mark (linked root) → IsTrie count root'
unmarked_trie count root n t is root' some e = record {
  sorted = sorted_unmarked (linked root) n.sorted t is (linked root') (sym e);
  some = some;
  counted = n.counted ∙ sym (ap length e ∙ plain_length (linked root));
  few = n.few;
}

module _ (count : ℕ) (root : Node) (n : IsTrie count root) (t : Table) (is : from_sorted (linked root) ≡ t) (k : Prefix6) where
  -- a prefix of the table is found in the trie
  pub present : IsSome (map.get t k) → IsSome (find prefix_cmp k (linked root))
  present some = subst IsSome (get_is (linked root) n.sorted t is k) some

  pub added : (v : RouteValue) (root' : Node) → map.get t k ≡ None → count < table_limit → HasEntries root' → linked root' ≡ put prefix_cmp k v (linked root) → IsTrie (count + 1) root'
  added v root' none room some e =
      let absent : find prefix_cmp k (linked root) ≡ None = sym (get_is (linked root) n.sorted t is k) ∙ none in
      let more : length (linked root') ≡ length (linked root) + 1 = ap length e ∙ length-put prefix_cmp prefixes_total k v (linked root) n.sorted ∙ ap (λ o. cond (is_some o) (length (linked root)) (length (linked root) + 1)) absent in
      record {
        sorted = subst (λ l. T (is_sorted prefix_cmp l)) (sym e) (is_sorted-put prefix_cmp prefixes_total k v (linked root) n.sorted);
        some = some;
        counted = omega (arith, more, n.counted);
        few = omega arith;
      }

  pub replaced : (v : RouteValue) (root' : Node) → IsSome (map.get t k) → HasEntries root' → linked root' ≡ put prefix_cmp k v (linked root) → IsTrie count root'
  replaced v root' found some e =
      let same : length (linked root') ≡ length (linked root) = ap length e ∙ length-put prefix_cmp prefixes_total k v (linked root) n.sorted ∙ ap (λ b. cond b (length (linked root)) (length (linked root) + 1)) (present found) in
      record {
        sorted = subst (λ l. T (is_sorted prefix_cmp l)) (sym e) (is_sorted-put prefix_cmp prefixes_total k v (linked root) n.sorted);
        some = some;
        counted = n.counted ∙ sym same;
        few = n.few;
      }

  -- something was made of the route to the prefix, if there is one
  module _ (root' : Node) (some : HasEntries root') where
    is_present : (made : RouteValue × RouteValue) → option_map (λ m. m.0) (Some made) ≡ find prefix_cmp k (linked root) → IsSome (map.get t k)
    is_present made b = subst IsSome (b ∙ sym (get_is (linked root) n.sorted t is k)) refl

    pub updated : (made : Option (RouteValue × RouteValue)) → option_map (λ m. m.0) made ≡ find prefix_cmp k (linked root) → linked root' ≡ entries_with k made (linked root) → IsTrie count root'
    updated None b e = record {
      sorted = subst (λ l. T (is_sorted prefix_cmp l)) (sym e) n.sorted;
      some = some;
      counted = n.counted ∙ ap length (sym e);
      few = n.few;
    }
    updated (Some m) b e = replaced m.1 root' (is_present m b) some e

    pub table_updated : (made : Option (RouteValue × RouteValue)) → linked root' ≡ entries_with k made (linked root) → from_sorted (linked root') ≡ table_with k made t
    table_updated None e = ap from_sorted e ∙ is
    table_updated (Some m) e = table_put (linked root) n.sorted t is k m.1 (linked root') (sym e)

  fewer : IsSome (map.get t k) → 1 + length (without k (linked root)) ≡ length (linked root)
  fewer found = ap (λ b. cond b 1 0 + length (without k (linked root))) (sym (present found)) ∙ length_without prefix_cmp prefixes_total k (linked root) n.sorted

  pub some_left : IsSome (map.get t k) → 1 ≤ count
  some_left found = omega (arith, fewer found, n.counted)

  pub removed : (root' : Node) → IsSome (map.get t k) → HasEntries root' → linked root' ≡ without k (linked root) → IsTrie (count - 1) root'
  removed root' found some e = record {
    sorted = subst (λ l. T (is_sorted prefix_cmp l)) (sym e) (is_sorted-where_key {X = RouteValue} prefix_cmp _ (linked root) n.sorted);
    some = some;
    counted = omega (arith, fewer found, n.counted, ap length e);
    few = omega (arith, n.few);
  }
