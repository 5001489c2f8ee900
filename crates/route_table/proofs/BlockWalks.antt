-- What is found, summed up and listed block by block.
use Rattle.std.proofs.Common.{◌≡◌, ℕ, ◌+◌, ◌<◌, ◌≤◌, Bool, true, false, ◌&&◌, List, ◌++◌, length, take, drop, Option, Some, None, sym, ap, ◌∙◌, append_assoc, length-append}
use mathlib.Core.Bool.{false≢true}
use Rattle.std.specs.Prelude.{is_some, slice_index_or}
use Rattle.std.proofs.lemmas.List.{drop_all}
use Rattle.prefix6.specs.Prefix.{Prefix6}
use Rattle.route_table.specs.Route.{RouteValue}
use Rattle.route_table.specs.Place.{Entries}
use Rattle.route_table.specs.Table.{is_past}
use Rattle.route_table.specs.Due.{earlier, first_where}
use Rattle.route_table.specs.Summary.{SummaryValue, summary_of}
use Rattle.route_table.specs.Blocks.{joined, block_at, IsStart}
use Rattle.route_table.proofs.BlockLists.{joined_parts, joined_drop, joined_take}
use Rattle.route_table.proofs.TrieLists.{Entry, first_fails}
use Rattle.route_table.proofs.TrieSummary.{summary-append}
use Rattle.route_table.proofs.TrieWalk.{in_second, in_first, never}

-- ---- a walk
module _ (t : RouteValue → Bool) (after : Option Prefix6) (bs : List Entries) where
  pub walk_starts : (k : ℕ) → IsStart bs after k → first_where t after (joined (drop k bs)) ≡ first_where t after (joined bs)
  walk_starts k s =
      let none : None ≡ first_where t after (joined (take k bs)) = sym (first_fails (λ e. t e.1 && is_past after e.0) (joined (take k bs)) (λ i d lt. ap (λ b. t (slice_index_or (joined (take k bs)) i d).1 && b) (s.before i d lt) ∙ never _)) in
      in_second t after (joined (take k bs)) (joined (drop k bs)) none ∙ ap (first_where t after) (sym (joined_parts bs k))

  module _ (k : ℕ) (lt : k < length bs) (whole : first_where t after (joined (drop k bs)) ≡ first_where t after (joined bs)) where
    pub walk_goes_on : (o : Option Entry) → o ≡ first_where t after (block_at bs k) → is_some o ≡ false → first_where t after (joined (drop (k + 1) bs)) ≡ first_where t after (joined bs)
    walk_goes_on None is none = in_second t after (block_at bs k) (joined (drop (k + 1) bs)) is ∙ ap (first_where t after) (sym (joined_drop bs k lt)) ∙ whole
    walk_goes_on (Some e) is none = absurd (false≢true (sym none))

    pub walk_finds : (o : Option Entry) → o ≡ first_where t after (block_at bs k) → is_some o ≡ true → o ≡ first_where t after (joined bs)
    walk_finds None is some = absurd (false≢true some)
    walk_finds (Some e) is some = in_first t after (block_at bs k) (joined (drop (k + 1) bs)) e is ∙ ap (first_where t after) (sym (joined_drop bs k lt)) ∙ whole

  pub walk_ends : (k : ℕ) → length bs ≤ k → first_where t after (joined (drop k bs)) ≡ first_where t after (joined bs) → None ≡ first_where t after (joined bs)
  walk_ends k le whole = ap (λ l. first_where t after (joined l)) (sym (drop_all k bs le)) ∙ whole

-- ---- what all together know
pub due_more : (bs : List Entries) (k : ℕ) → k < length bs → earlier (summary_of (joined (take k bs))).due (summary_of (block_at bs k)).due ≡ (summary_of (joined (take (k + 1) bs))).due
due_more bs k lt = ap (λ (s : SummaryValue). s.due) (summary-append (joined (take k bs)) (block_at bs k) ∙ ap summary_of (sym (joined_take bs k lt)))

-- ---- a list of all
pub listed_more : (bs : List Entries) (k : ℕ) (xs : Entries) → k < length bs → (xs ++ joined (take k bs)) ++ block_at bs k ≡ xs ++ joined (take (k + 1) bs)
listed_more bs k xs lt = append_assoc xs (joined (take k bs)) (block_at bs k) ∙ ap (λ l. xs ++ l) (sym (joined_take bs k lt))

pub left_more : (bs : List Entries) (k : ℕ) → k < length bs → length (joined (drop k bs)) ≡ length (block_at bs k) + length (joined (drop (k + 1) bs))
left_more bs k lt = ap length (joined_drop bs k lt) ∙ length-append (block_at bs k) (joined (drop (k + 1) bs))
