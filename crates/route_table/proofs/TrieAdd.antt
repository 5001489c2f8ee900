-- A new leaf below what lies in a prefix, above it, or beside it.
use Rattle.std.proofs.Common.{◌≡◌, ◌≢◌, ◌<◌, ◌≤◌, [], ◌∷◌, ◌++◌, length, refl, sym, ap, subst, ◌∙◌, arith}
use Rattle.std.specs.Prelude.{T, All}
use Rattle.std.specs.declared.cmp.Ordering.TheVariants.{Less}
use Rattle.std.specs.FinMap.Entries.{put, is_sorted, is_sorted-put}
use Rattle.std.proofs.lemmas.List.{append-nil}
use Rattle.std.proofs.lemmas.List.Elements.{All-nil, All-cons, All-append}
use Rattle.prefix6.specs.Prefix.{Prefix6, IsPrefix, cleared, prefix_cmp}
use Rattle.prefix6.specs.Halves.{IsMeet, IsWithin, IsUnder, IsLow, IsHigh, middle}
use Rattle.prefix6.proofs.PrefixLaws.{prefixes_total}
use Rattle.prefix6.proofs.Parting.{itself_within, low_within, high_within, all_low, all_high, of_second, first_longer, second_longer, other_high, other_low}
use Rattle.route_table.specs.Route.{RouteValue}
use Rattle.route_table.specs.Place.{Entries}
use Rattle.route_table.specs.Trie.{in_turn, AreParts, AreIn}
use Rattle.route_table.proofs.TrieLists.{Entry, later, before, behind, put_front, put_right}

-- the entries of a fork lie in its prefix
pub are_in : (p : Prefix6) (own low high : Entries) → AreParts p own low high → 0 < length (in_turn own low high) → AreIn p (in_turn own low high)
are_in p own low high parts some = record {
  sorted = parts.sorted;
  some = some;
  within = All-append (λ (e : Entry). IsWithin p e.0) own (low ++ high)
      (λ i d lt. subst (IsWithin p) (sym (parts.at_prefix i d lt)) (itself_within p))
      (All-append (λ (e : Entry). IsWithin p e.0) low high
      (λ i d lt. low_within p _ (parts.lower i d lt))
      (λ i d lt. high_within p _ (parts.upper i d lt)));
}

-- a leaf alone
pub one_parts : (e : Entry) → AreParts e.0 (e ∷ []) [] []
one_parts e = record {
  sorted = tt;
  at_prefix = All-cons (λ (x : Entry). x.0 ≡ e.0) e [] refl (All-nil (λ (x : Entry). x.0 ≡ e.0));
  lower = All-nil (λ (x : Entry). IsLow e.0 x.0);
  upper = All-nil (λ (x : Entry). IsHigh e.0 x.0);
}

-- a new prefix that does not lie below the old one
module _ (q k : Prefix6) (v : RouteValue) (es : Entries) (held : AreIn q es) (m : Prefix6) (meet : IsMeet q k m) (q_is : IsPrefix q) (k_is : IsPrefix k) (other : q ≢ k) (outside : IsUnder q k → ⊥) where
  shorter : m.len < q.len
  shorter = first_longer q k m meet q_is k_is other outside

  lows : q.addr < middle m → All (λ e. IsLow m e.0) es
  lows less i d lt = all_low m q meet.of_first q_is shorter less _ (held.within i d lt)

  highs : middle m ≤ q.addr → All (λ e. IsHigh m e.0) es
  highs ge i d lt = all_high m q meet.of_first q_is shorter ge _ (held.within i d lt)

  sorted_put : (l : Entries) → l ≡ put prefix_cmp k v es → T (is_sorted prefix_cmp l)
  sorted_put l is = subst (λ x. T (is_sorted prefix_cmp x)) (sym is) (is_sorted-put prefix_cmp prefixes_total k v es held.sorted)

  -- above the old one
  module _ (is : m ≡ k) where
    at_new : All (λ (e : Entry). e.0 ≡ m) ((k, v) ∷ [])
    at_new = All-cons (λ (e : Entry). e.0 ≡ m) (k, v) [] (sym is) (All-nil (λ (e : Entry). e.0 ≡ m))

    after_new : All (λ e. prefix_cmp m e.0 ≡ Less) es → (k, v) ∷ es ≡ put prefix_cmp k v es
    after_new all = sym (put_front k v es (subst (λ x. All (λ (e : Entry). prefix_cmp x e.0 ≡ Less) es) is all))

    pub above_low : q.addr < middle m → in_turn ((k, v) ∷ []) es [] ≡ put prefix_cmp k v es
    above_low less = ap (λ l. (k, v) ∷ l) (append-nil es) ∙ after_new (λ i d lt. later m _ (lows less i d lt).longer (lows less i d lt).from)

    pub above_low_parts : q.addr < middle m → AreParts m ((k, v) ∷ []) es []
    above_low_parts less = record { sorted = sorted_put _ (above_low less); at_prefix = at_new; lower = lows less; upper = All-nil (λ (e : Entry). IsHigh m e.0) }

    pub above_high : middle m ≤ q.addr → in_turn ((k, v) ∷ []) [] es ≡ put prefix_cmp k v es
    above_high ge = after_new (λ i d lt. later m _ (highs ge i d lt).longer (omega (arith, (highs ge i d lt).from)))

    pub above_high_parts : middle m ≤ q.addr → AreParts m ((k, v) ∷ []) [] es
    above_high_parts ge = record { sorted = sorted_put _ (above_high ge); at_prefix = at_new; lower = All-nil (λ (e : Entry). IsLow m e.0); upper = highs ge }

  -- beside the old one
  module _ (differ : m ≢ k) where
    longer : m.len < k.len
    longer = second_longer q k m meet q_is k_is other outside differ

    second : m ≡ cleared k.addr m.len
    second = of_second q k m meet q_is k_is other outside

    module _ (less : k.addr < middle m) where
      old_high : middle m ≤ q.addr
      old_high = other_high q k m meet q_is k_is other outside differ less

      pub beside_low : in_turn [] ((k, v) ∷ []) es ≡ put prefix_cmp k v es
      beside_low = sym (put_front k v es (λ i d lt. before k _ (omega (arith, less, (highs old_high i d lt).from))))

      pub beside_low_parts : AreParts m [] ((k, v) ∷ []) es
      beside_low_parts = record {
        sorted = sorted_put _ beside_low;
        at_prefix = All-nil (λ (e : Entry). e.0 ≡ m);
        lower = All-cons (λ (e : Entry). IsLow m e.0) (k, v) [] (all_low m k second k_is longer less k (itself_within k)) (All-nil (λ (e : Entry). IsLow m e.0));
        upper = highs old_high;
      }

    module _ (ge : middle m ≤ k.addr) where
      old_low : q.addr < middle m
      old_low = other_low q k m meet q_is k_is other outside differ ge

      pub beside_high : in_turn [] es ((k, v) ∷ []) ≡ put prefix_cmp k v es
      beside_high = sym (ap (put prefix_cmp k v) (sym (append-nil es)) ∙ put_right k v es [] (λ i d lt. behind k _ (omega (arith, ge, (lows old_low i d lt).to))))

      pub beside_high_parts : AreParts m [] es ((k, v) ∷ [])
      beside_high_parts = record {
        sorted = sorted_put _ beside_high;
        at_prefix = All-nil (λ (e : Entry). e.0 ≡ m);
        lower = lows old_low;
        upper = All-cons (λ (e : Entry). IsHigh m e.0) (k, v) [] (all_high m k second k_is longer ge k (itself_within k)) (All-nil (λ (e : Entry). IsHigh m e.0));
      }
