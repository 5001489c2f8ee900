-- A fork in which something was made of the route to a prefix.
use Rattle.std.proofs.Common.{◌≡◌, ℕ, ◌+◌, ◌<◌, ◌≤◌, zero, suc, ◌++◌, length, Option, Some, None, refl, sym, ap, subst, ◌∙◌, length-append, arith}
use Rattle.std.specs.Prelude.{T, All, Box, IsSome, option_map}
use Rattle.std.specs.declared.alloc.Global.{Global}
use Rattle.std.specs.declared.cmp.Ordering.TheVariants.{Less}
use Rattle.std.specs.FinMap.Entries.{find, put, is_sorted, is_sorted-put}
use Rattle.prefix6.specs.Prefix.{Prefix6, prefix_cmp}
use Rattle.prefix6.specs.Halves.{IsLow, IsHigh, middle}
use Rattle.prefix6.proofs.PrefixLaws.{prefixes_total}
use Rattle.route_table.specs.Route.{RouteValue}
use Rattle.route_table.specs.Place.{Entries}
use Rattle.route_table.specs.Summary.{SummaryValue, both, summary_of}
use Rattle.route_table.specs.declared.trie.Node.{Node}
use Rattle.route_table.specs.Trie.{linked, owned, in_turn, fork_entries, entries_with, IsFork, AreParts, AreShared, HasEntries}
use Rattle.route_table.proofs.TrieLists.{Entry, found, found_some, put_left, put_some, All-put}
use Rattle.route_table.proofs.TrieSummary.{summary-append}
use Rattle.route_table.proofs.TrieParts.{above, longer_other, find_short, find_low, find_high, low_parts, high_parts, put_low, put_high}

-- the routes to a prefix before and after, if there is one
abbrev Made : Type 0
Made = Option (RouteValue × RouteValue)

-- what was there is the route to the prefix in a list
abbrev IsBefore : Prefix6 → Made → Entries → Type 0
IsBefore k made es = option_map (λ m. m.0) made ≡ find prefix_cmp k es

is_there : (k : Prefix6) (m : RouteValue × RouteValue) (es : Entries) → IsBefore k (Some m) es → IsSome (find prefix_cmp k es)
is_there k m es b = subst IsSome b refl

module _ (p : Prefix6) (s : SummaryValue) (own : Option (Box Entry Global)) (low high : Node) (f : IsFork p s own low high) where
  -- ---- a half is smaller than a fork that has an entry
  module _ (some : 0 < length (fork_entries own low high)) where
    sizes : length (fork_entries own low high) ≡ length (owned own) + (length (linked low) + length (linked high))
    sizes = omega (arith, length-append (owned own) (linked low ++ linked high), length-append (linked low) (linked high))

    pub fewer_low : length (linked low) < length (fork_entries own low high)
    fewer_low = by (length (linked low)) refl
      where
        by : (n : ℕ) → length (linked low) ≡ n → length (linked low) < length (fork_entries own low high)
        by zero is = omega (arith, some, is)
        by (suc n) is = omega (arith, sizes, f.shared.not_low_alone (omega (arith, is)))

    pub fewer_high : length (linked high) < length (fork_entries own low high)
    fewer_high = by (length (linked high)) refl
      where
        by : (n : ℕ) → length (linked high) ≡ n → length (linked high) < length (fork_entries own low high)
        by zero is = omega (arith, some, is)
        by (suc n) is = omega (arith, sizes, f.shared.not_high_alone (omega (arith, is)))

  module _ (k : Prefix6) where
    -- ---- at the fork's own prefix
    module _ (m : RouteValue × RouteValue) (b : IsBefore k (Some m) (owned own)) where
      is_own : k ≡ p
      is_own = found (λ q. q ≡ p) k (owned own) f.parts.at_prefix (is_there k m (owned own) b)

      own_put : in_turn (put prefix_cmp k m.1 (owned own)) (linked low) (linked high) ≡ put prefix_cmp k m.1 (fork_entries own low high)
      own_put = sym (put_left k m.1 (owned own) (linked low ++ linked high)
          (subst (λ q. All (λ e. prefix_cmp q e.0 ≡ Less) (linked low ++ linked high)) (sym is_own) (above p (owned own) (linked low) (linked high) f.parts)))

      own_put_parts : AreParts p (put prefix_cmp k m.1 (owned own)) (linked low) (linked high)
      own_put_parts = record {
        sorted = subst (λ l. T (is_sorted prefix_cmp l)) (sym own_put) (is_sorted-put prefix_cmp prefixes_total k m.1 _ f.parts.sorted);
        at_prefix = All-put (λ q. q ≡ p) k m.1 (owned own) is_own f.parts.at_prefix;
        lower = f.parts.lower;
        upper = f.parts.upper;
      }

    own_whole : (made : Made) → IsBefore k made (owned own) → in_turn (entries_with k made (owned own)) (linked low) (linked high) ≡ entries_with k made (fork_entries own low high)
    own_whole None b = refl
    own_whole (Some m) b = own_put m b

    own_parts : (made : Made) → IsBefore k made (owned own) → AreParts p (entries_with k made (owned own)) (linked low) (linked high)
    own_parts None b = f.parts
    own_parts (Some m) b = own_put_parts m b

    own_shared : (made : Made) → AreShared (entries_with k made (owned own)) (linked low) (linked high)
    own_shared None = f.shared
    own_shared (Some m) = record {
      not_low_alone = λ h. omega (arith, put_some k m.1 (owned own));
      not_high_alone = λ h. omega (arith, put_some k m.1 (owned own));
    }

    module _ (made : Made) (b : IsBefore k made (owned own)) (own' : Option (Box Entry Global)) (after : owned own' ≡ entries_with k made (owned own)) where
      pub own_before : k.len ≤ p.len → IsBefore k made (fork_entries own low high)
      own_before short = b ∙ find_short p (owned own) (linked low) (linked high) f.parts k short

      pub own_after : fork_entries own' low high ≡ entries_with k made (fork_entries own low high)
      own_after = ap (λ o. in_turn o (linked low) (linked high)) after ∙ own_whole made b

      pub own_fork : (s' : SummaryValue) → s' ≡ summary_of (fork_entries own' low high) → IsFork p s' own' low high
      own_fork s' summed = record {
        parts = subst (λ o. AreParts p o (linked low) (linked high)) (sym after) (own_parts made b);
        shared = subst (λ o. AreShared o (linked low) (linked high)) (sym after) (own_shared made);
        low_some = f.low_some;
        high_some = f.high_some;
        summed = summed;
      }

    -- ---- in the lower half
    lies_low : (m : RouteValue × RouteValue) → IsBefore k (Some m) (linked low) → IsLow p k
    lies_low m b = found (IsLow p) k (linked low) f.parts.lower (is_there k m (linked low) b)

    low_whole : (made : Made) → IsBefore k made (linked low) → in_turn (owned own) (entries_with k made (linked low)) (linked high) ≡ entries_with k made (fork_entries own low high)
    low_whole None b = refl
    low_whole (Some m) b = put_low p (owned own) (linked low) (linked high) f.parts k m.1 (lies_low m b)

    low_parts_of : (made : Made) → IsBefore k made (linked low) → AreParts p (owned own) (entries_with k made (linked low)) (linked high)
    low_parts_of None b = f.parts
    low_parts_of (Some m) b = low_parts p (owned own) (linked low) (linked high) f.parts k m.1 (lies_low m b) _ refl

    low_shared : (made : Made) → IsBefore k made (linked low) → AreShared (owned own) (entries_with k made (linked low)) (linked high)
    low_shared None b = f.shared
    low_shared (Some m) b = record {
      not_low_alone = λ h. f.shared.not_low_alone (found_some k (linked low) (is_there k m (linked low) b));
      not_high_alone = λ h. omega (arith, put_some k m.1 (linked low));
    }

    module _ (made : Made) (b : IsBefore k made (linked low)) (low' : Node) (after : linked low' ≡ entries_with k made (linked low)) where
      pub low_before : p.len < k.len → k.addr < middle p → IsBefore k made (fork_entries own low high)
      low_before longer less = b ∙ find_low p (owned own) (linked low) (linked high) f.parts k (longer_other p k longer) less

      pub low_after : fork_entries own low' high ≡ entries_with k made (fork_entries own low high)
      low_after = ap (λ l. in_turn (owned own) l (linked high)) after ∙ low_whole made b

      pub low_fork : HasEntries low' → (s' : SummaryValue) → s' ≡ summary_of (fork_entries own low' high) → IsFork p s' own low' high
      low_fork has s' summed = record {
        parts = subst (λ l. AreParts p (owned own) l (linked high)) (sym after) (low_parts_of made b);
        shared = subst (λ l. AreShared (owned own) l (linked high)) (sym after) (low_shared made b);
        low_some = has;
        high_some = f.high_some;
        summed = summed;
      }

    -- ---- in the upper half
    lies_high : (m : RouteValue × RouteValue) → IsBefore k (Some m) (linked high) → IsHigh p k
    lies_high m b = found (IsHigh p) k (linked high) f.parts.upper (is_there k m (linked high) b)

    high_whole : (made : Made) → IsBefore k made (linked high) → in_turn (owned own) (linked low) (entries_with k made (linked high)) ≡ entries_with k made (fork_entries own low high)
    high_whole None b = refl
    high_whole (Some m) b = put_high p (owned own) (linked low) (linked high) f.parts k m.1 (lies_high m b)

    high_parts_of : (made : Made) → IsBefore k made (linked high) → AreParts p (owned own) (linked low) (entries_with k made (linked high))
    high_parts_of None b = f.parts
    high_parts_of (Some m) b = high_parts p (owned own) (linked low) (linked high) f.parts k m.1 (lies_high m b) _ refl

    high_shared : (made : Made) → IsBefore k made (linked high) → AreShared (owned own) (linked low) (entries_with k made (linked high))
    high_shared None b = f.shared
    high_shared (Some m) b = record {
      not_low_alone = λ h. omega (arith, put_some k m.1 (linked high));
      not_high_alone = λ h. f.shared.not_high_alone (found_some k (linked high) (is_there k m (linked high) b));
    }

    module _ (made : Made) (b : IsBefore k made (linked high)) (high' : Node) (after : linked high' ≡ entries_with k made (linked high)) where
      pub high_before : p.len < k.len → middle p ≤ k.addr → IsBefore k made (fork_entries own low high)
      high_before longer ge = b ∙ find_high p (owned own) (linked low) (linked high) f.parts k (longer_other p k longer) ge

      pub high_after : fork_entries own low high' ≡ entries_with k made (fork_entries own low high)
      high_after = ap (λ l. in_turn (owned own) (linked low) l) after ∙ high_whole made b

      pub high_fork : HasEntries high' → (s' : SummaryValue) → s' ≡ summary_of (fork_entries own low high') → IsFork p s' own low high'
      high_fork has s' summed = record {
        parts = subst (λ l. AreParts p (owned own) (linked low) l) (sym after) (high_parts_of made b);
        shared = subst (λ l. AreShared (owned own) (linked low) l) (sym after) (high_shared made b);
        low_some = f.low_some;
        high_some = has;
        summed = summed;
      }

-- ---- where the summary of a part stays, that of the whole does
module _ (own : Option (Box Entry Global)) where
  pub own_same : (own' : Option (Box Entry Global)) (low high : Node) → summary_of (owned own') ≡ summary_of (owned own) → summary_of (fork_entries own' low high) ≡ summary_of (fork_entries own low high)
  own_same own' low high e =
      sym (summary-append (owned own') (linked low ++ linked high)) ∙ ap (λ s. both s (summary_of (linked low ++ linked high))) e ∙ summary-append (owned own) (linked low ++ linked high)

  below_same : (xs ys : Entries) → summary_of xs ≡ summary_of ys → summary_of (owned own ++ xs) ≡ summary_of (owned own ++ ys)
  below_same xs ys e = sym (summary-append (owned own) xs) ∙ ap (both (summary_of (owned own))) e ∙ summary-append (owned own) ys

  pub low_same : (low low' high : Node) → summary_of (linked low') ≡ summary_of (linked low) → summary_of (fork_entries own low' high) ≡ summary_of (fork_entries own low high)
  low_same low low' high e =
      below_same (linked low' ++ linked high) (linked low ++ linked high)
      (sym (summary-append (linked low') (linked high)) ∙ ap (λ s. both s (summary_of (linked high))) e ∙ summary-append (linked low) (linked high))

  pub high_same : (low high high' : Node) → summary_of (linked high') ≡ summary_of (linked high) → summary_of (fork_entries own low high') ≡ summary_of (fork_entries own low high)
  high_same low high high' e =
      below_same (linked low ++ linked high') (linked low ++ linked high)
      (sym (summary-append (linked low) (linked high')) ∙ ap (both (summary_of (linked low))) e ∙ summary-append (linked low) (linked high))
