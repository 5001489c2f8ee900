-- A search through a sorted list for the first entry past a prefix that passes a test.
use Rattle.std.proofs.Common.{◌≡◌, ℕ, zero, suc, ◌+◌, ◌<◌, ◌≤◌, Bool, true, false, ◌&&◌, [], ◌∷◌, length, get_or, Option, Some, None, refl, sym, ap, ap₂, subst, ◌∙◌, inl, inr, arith}
use Rattle.std.specs.Prelude.{T}
use Rattle.std.specs.Ordering.{is_lt}
use Rattle.std.specs.FinMap.Entries.{is_sorted}
use Rattle.std.proofs.lemmas.Bool.{cases_lt}
use Rattle.std.proofs.lemmas.Option.{slice_get_past, slice_get_read}
use Rattle.prefix6.specs.Prefix.{Prefix6, prefix_cmp}
use Rattle.prefix6.specs.Places.{prefix_at}
use Rattle.prefix6.proofs.PrefixLaws.{prefixes_total}
use Rattle.prefix6.proofs.SortedEntries.{sorted_at}
use Rattle.route_table.specs.Route.{RouteValue}
use Rattle.route_table.specs.Place.{Entries, IsStartPast}
use Rattle.route_table.specs.Table.{is_past}
use Rattle.route_table.specs.Due.{first_where}
use Rattle.route_table.proofs.SortedEntries.{first_at}
use Rattle.route_table.proofs.TrieLists.{Entry}
use Rattle.route_table.proofs.TrieWalk.{is_less, never}

-- a search that has come so far: what is behind does not pass, and what is ahead is past the prefix
pub record IsSearched (t : RouteValue → Bool) (after : Option Prefix6) (es : Entries) (k : ℕ) : Type 0 where
  pub behind : (j : ℕ) (d : Entry) → j < k → j < length es → (t (get_or es j d).1 && is_past after (prefix_at es j d)) ≡ false
  pub ahead : (j : ℕ) (d : Entry) → k ≤ j → j < length es → is_past after (prefix_at es j d) ≡ true

-- what is read inside a list does not depend on the default
any_default : (es : Entries) (k : ℕ) (d e : Entry) → k < length es → get_or es k d ≡ get_or es k e
any_default [] k d e lt = absurd (omega arith)
any_default (x ∷ es) zero d e lt = refl
any_default (x ∷ es) (suc k) d e lt = any_default es k d e (omega arith)

module _ (t : RouteValue → Bool) (after : Option Prefix6) (es : Entries) where
  -- what comes later in a sorted list is past too
  past_on : T (is_sorted prefix_cmp es) → (i j : ℕ) (d : Entry) → i < j → j < length es → is_past after (prefix_at es i d) ≡ true → is_past after (prefix_at es j d) ≡ true
  past_on sorted i j d lt in_range = go after
    where
      go : (a : Option Prefix6) → is_past a (prefix_at es i d) ≡ true → is_past a (prefix_at es j d) ≡ true
      go None h = refl
      go (Some a) h = ap is_lt (prefixes_total.trans a (prefix_at es i d) (prefix_at es j d) (is_less _ h) (sorted_at es i j d sorted lt in_range))

  pub starts : (i : ℕ) → T (is_sorted prefix_cmp es) → IsStartPast es after i → IsSearched t after es i
  starts i sorted s = record {
    behind = λ j d lt in_range. ap (λ b. t (get_or es j d).1 && b) (s.before j d lt in_range) ∙ never _;
    ahead = λ j d le in_range. elim (cases_lt i j) [
      | inl lt ↦ past_on sorted i j d lt in_range (s.here d (omega arith))
      | inr ge ↦ let same : i ≡ j = omega arith in subst (λ n. is_past after (prefix_at es n d) ≡ true) same (s.here d (omega arith))
    ];
  }

  module _ (k : ℕ) (s : IsSearched t after es k) (e : Entry) (in_range : k < length es) (at_k : e ≡ get_or es k e) where
    same_at : (d : Entry) → get_or es k d ≡ e
    same_at d = any_default es k d e in_range ∙ sym at_k

    pub goes_on : t e.1 ≡ false → IsSearched t after es (k + 1)
    goes_on fails = record {
      behind = λ j d lt in_range. elim (cases_lt j k) [
        | inl less ↦ s.behind j d less in_range
        | inr ge ↦ let same : k ≡ j = omega arith in subst (λ n. (t (get_or es n d).1 && is_past after (prefix_at es n d)) ≡ false) same (ap (λ (x : Entry). t x.1 && is_past after x.0) (same_at d) ∙ ap (λ b. b && is_past after e.0) fails)
      ];
      ahead = λ j d le in_range. s.ahead j d (omega arith) in_range;
    }

    pub finds : t e.1 ≡ true → Some e ≡ first_where t after es
    finds passes = sym (first_at (λ (x : Entry). t x.1 && is_past after x.0) es k s.behind (λ d lt. ap₂ (λ a b. a && b) (ap (λ (x : Entry). t x.1) (same_at d) ∙ passes) (s.ahead k d (omega arith) in_range)) ∙ slice_get_read es (length es) k e refl in_range at_k)

  pub finds_none : (k : ℕ) → IsSearched t after es k → length es ≤ k → None ≡ first_where t after es
  finds_none k s le = sym (first_at (λ (x : Entry). t x.1 && is_past after x.0) es k s.behind (λ d lt. absurd (omega arith)) ∙ slice_get_past es k le)
