-- The entries past a prefix, of a sorted list.
use Rattle.std.proofs.Common.{◌≡◌, ℕ, zero, suc, ◌+◌, ◌-◌, ◌<◌, ◌≤◌, Bool, true, false, List, [], ◌∷◌, ◌++◌, length, get_or, take, drop, Option, Some, None, slice_get, refl, sym, ap, ◌∙◌, length-take, length-drop, inl, inr, arith, append_assoc, append-nil}
use Rattle.std.specs.Prelude.{T, All, find}
use Rattle.std.specs.List.{filter}
use Rattle.std.specs.FinMap.{is_sorted}
use Rattle.std.proofs.lemmas.Bool.{cases_lt}
use Rattle.std.proofs.lemmas.List.{drop_all, drop-drop, get_or-take, get_or-drop}
use Rattle.std.proofs.lemmas.List.Elements.{filter-append}
use Rattle.std.proofs.lemmas.Option.{get_or_from_slice_get, slice_get_within}
use Rattle.prefix6.specs.Prefix.{Prefix6, prefix_cmp}
use Rattle.prefix6.specs.Places.{prefix_at}
use Rattle.route_table.specs.Route.{RouteValue}
use Rattle.route_table.specs.Blocks.{joined, IsStart}
use Rattle.route_table.specs.Place.{Entries, IsStartPast}
use Rattle.route_table.specs.Table.{is_past, past}
use Rattle.route_table.proofs.BlockLists.{joined_parts}
use Rattle.route_table.proofs.SortedDue.{starts}
use Rattle.route_table.proofs.SortedEntries.{first_at, start_after}
use Rattle.route_table.proofs.Walks.{drop_next, present_at}

abbrev Entry : Type 0
Entry = Prefix6 × RouteValue

-- what passes a test that fails before a place and passes from it on
from_place : (p : Entry → Bool) (es : Entries) (i : ℕ) → ((j : ℕ) (d : Entry) → j < i → j < length es → p (get_or es j d) ≡ false) → ((j : ℕ) (d : Entry) → i ≤ j → j < length es → p (get_or es j d) ≡ true) → filter p es ≡ drop i es
from_place p [] zero before ahead = refl
from_place p [] (suc i) before ahead = refl
from_place p (e ∷ es) zero before ahead =
    rw (ahead 0 e (omega arith) (omega arith))
    (ap (λ l. e ∷ l) (from_place p es 0 (λ j d lt in_range. absurd (omega arith)) (λ j d le in_range. ahead (suc j) d (omega arith) (omega arith))))
from_place p (e ∷ es) (suc i) before ahead =
    rw (before 0 e (omega arith) (omega arith))
    (from_place p es i (λ j d lt in_range. before (suc j) d (omega arith) (omega arith)) (λ j d le in_range. ahead (suc j) d (omega arith) (omega arith)))

pub past_from : (after : Option Prefix6) (es : Entries) (i : ℕ) → T (is_sorted prefix_cmp es) → IsStartPast es after i → past after es ≡ drop i es
past_from after es i sorted s = from_place (λ e. is_past after e.0) es i s.before (starts (λ r. true) after es i sorted s).ahead

pub take_none : (n : ℕ) → ◌≡◌ {A = Entries} (take n []) []
take_none zero = refl
take_none (suc n) = refl

-- ---- one after the other
-- where those past a prefix begin
start_of : (after : Option Prefix6) (es : Entries) → (i : ℕ) × IsStartPast es after i
start_of after [] = (0, record { in_range = omega arith; before = λ j d lt in_range. absurd (omega arith); here = λ d lt. absurd (omega arith) })
start_of after (x ∷ es) = by (start_of after es) (is_past after x.0) refl
  where
    earlier : (i : ℕ) → IsStartPast es after i → is_past after x.0 ≡ false → (j : ℕ) (d : Entry) → j < suc i → j < length (x ∷ es) → is_past after (prefix_at (x ∷ es) j d) ≡ false
    earlier i s is zero d lt in_range = is
    earlier i s is (suc j) d lt in_range = s.before j d (omega arith) (omega arith)

    by : ((i : ℕ) × IsStartPast es after i) → (b : Bool) → is_past after x.0 ≡ b → (i : ℕ) × IsStartPast (x ∷ es) after i
    by rest true is = (0, record { in_range = omega arith; before = λ j d lt in_range. absurd (omega arith); here = λ d lt. is })
    by rest false is = (suc rest.0, record { in_range = omega (arith, rest.1.in_range); before = earlier rest.0 rest.1 is; here = λ d lt. rest.1.here d (omega arith) })

module _ (after : Option Prefix6) (es : Entries) (sorted : T (is_sorted prefix_cmp es)) where
  found_at : (o : Option Entry) → find (λ e. is_past after e.0) es ≡ o → slice_get es (start_of after es).0 ≡ o
  found_at o is = let s = start_of after es in sym (first_at (λ e. is_past after e.0) es s.0 s.1.before s.1.here) ∙ is

  -- the first past a prefix, and those past that
  pub past_first : (e : Entry) → find (λ x. is_past after x.0) es ≡ Some e → past after es ≡ e ∷ past (Some e.0) es
  past_first e is =
      let i = (start_of after es).0 in
      let here : slice_get es i ≡ Some e = found_at (Some e) is in
      past_from after es i sorted (start_of after es).1
      ∙ drop_next es i e here
      ∙ ap (λ l. e ∷ l) (sym (past_from (Some e.0) es (i + 1) sorted (start_after es e.0 i sorted (record {
        in_range = slice_get_within es i e here;
        has_prefix = λ d. ap (λ (x : Entry). x.0) (get_or_from_slice_get es i e d here);
      }))))

  pub past_none : find (λ x. is_past after x.0) es ≡ None → past after es ≡ []
  past_none is =
      let i = (start_of after es).0 in
      let none : drop i es ≡ [] = elim (cases_lt i (length es)) [
        | inl lt ↦ absurd (present_at es i lt (found_at None is))
        | inr ge ↦ drop_all i es (omega arith)
      ] in
      past_from after es i sorted (start_of after es).1 ∙ none

  -- a list that has one of them more
  pub run_more : (out : Entries) (most k : ℕ) (e : Entry) → k < most → find (λ x. is_past after x.0) es ≡ Some e
      → (out ++ e ∷ []) ++ take (most - (k + 1)) (past (Some e.0) es) ≡ out ++ take (most - k) (past after es)
  run_more out most k e lt is =
      let more : suc (most - (k + 1)) ≡ most - k = omega arith in
      append_assoc out (e ∷ []) (take (most - (k + 1)) (past (Some e.0) es))
      ∙ ap (λ n. out ++ take n (e ∷ past (Some e.0) es)) more
      ∙ ap (λ l. out ++ take (most - k) l) (sym (past_first e is))

  pub run_ends : (out : Entries) (n : ℕ) → find (λ x. is_past after x.0) es ≡ None → out ++ take n (past after es) ≡ out
  run_ends out n is = ap (λ l. out ++ take n l) (past_none is) ∙ ap (λ l. out ++ l) (take_none n) ∙ append-nil out

  -- behind the first of them, up to the last of these
  pub run_rest : (n : ℕ) (e : Entry) → slice_get (take n (past after es)) (length (take n (past after es)) - 1) ≡ Some e → past (Some e.0) es ≡ drop n (past after es)
  run_rest n e is =
      let i = (start_of after es).0 in
      let all : past after es ≡ drop i es = past_from after es i sorted (start_of after es).1 in
      let run = take n (drop i es) in
      let last : slice_get run (length run - 1) ≡ Some e = ap (λ l. slice_get (take n l) (length (take n l) - 1)) (sym all) ∙ is in
      let some : length run - 1 < length run = slice_get_within run (length run - 1) e last in
      let at = i + (length run - 1) in
      let here : (d : Entry) → get_or es at d ≡ e =
      λ d. sym (get_or-drop i es (length run - 1) d)
      ∙ sym (get_or-take n (drop i es) (length run - 1) d (omega (arith, some, length-take n (drop i es))))
      ∙ get_or_from_slice_get run (length run - 1) e d last in
      let within : at < length es = omega (arith, some, length-take n (drop i es), length-drop i es) in
      let same : drop (at + 1) es ≡ drop (i + n) es = elim (cases_lt (length es) (i + n)) [
        | inl over ↦ drop_all (at + 1) es (omega (arith, some, over, within, length-take n (drop i es), length-drop i es)) ∙ sym (drop_all (i + n) es (omega (arith, over)))
        | inr inside ↦
            let end : at + 1 ≡ i + n = omega (arith, some, inside, within, length-take n (drop i es), length-drop i es) in
            ap (λ m. drop m es) end
      ] in
      past_from (Some e.0) es (at + 1) sorted (start_after es e.0 at sorted (record { in_range = within; has_prefix = λ d. ap (λ (x : Entry). x.0) (here d) }))
      ∙ same
      ∙ sym (drop-drop n i es)
      ∙ ap (drop n) (sym all)

pub past_all : (es : Entries) → past None es ≡ es
past_all [] = refl
past_all (e ∷ es) = ap (λ l. e ∷ l) (past_all es)

-- ---- block by block
none_past : (after : Option Prefix6) (es : Entries) → All (λ e. is_past after e.0 ≡ false) es → past after es ≡ []
none_past after [] h = refl
none_past after (e ∷ es) h =
    let is : is_past after e.0 ≡ false = h 0 e (omega arith) in
    rw is (none_past after es (λ k d lt. h (suc k) d (omega arith)))

pub take_both : (n : ℕ) (xs ys : Entries) → take n (xs ++ ys) ≡ take n xs ++ take (n - length xs) ys
take_both zero xs ys = let none : 0 ≡ 0 - length xs = omega arith in ap (λ m. take m ys) none
take_both (suc n) [] ys = let same : suc n ≡ suc n - 0 = omega arith in ap (λ m. take m ys) same
take_both (suc n) (x ∷ xs) ys =
    let less : n - length xs ≡ suc n - length (x ∷ xs) = omega arith in
    ap (λ l. x ∷ l) (take_both n xs ys ∙ ap (λ m. take n xs ++ take m ys) less)

module _ (after : Option Prefix6) (bs : List Entries) where
  pub run_starts : (k : ℕ) → IsStart bs after k → past after (joined (drop k bs)) ≡ past after (joined bs)
  run_starts k s = sym (
      ap (past after) (joined_parts bs k)
      ∙ filter-append (λ e. is_past after e.0) (joined (take k bs)) (joined (drop k bs))
      ∙ ap (λ (l : Entries). l ++ past after (joined (drop k bs))) (none_past after (joined (take k bs)) s.before)
      )
