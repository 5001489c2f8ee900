-- The entries past a prefix whose routes pass a test: the first of them, and those behind it.
use Rattle.std.proofs.Common.{◌≡◌, ℕ, ◌+◌, ◌-◌, ◌<◌, Bool, true, false, ◌&&◌, cond, T, [], ◌∷◌, ◌++◌, length, filter, take, drop, Option, Some, None, slice_get, refl, ap, sym, ◌∙◌}
use Rattle.std.specs.List.{find as first}
use Rattle.std.specs.FinMap.{is_sorted}
use Rattle.std.specs.FinMap.Entries.{below_all}
use Rattle.prefix6.specs.Prefix.{Prefix6, prefix_cmp}
use Rattle.route_table.specs.Route.{RouteValue}
use Rattle.route_table.specs.Table.{is_past, past}
use Rattle.route_table.specs.Due.{first_where}
use Rattle.route_table.specs.Place.{Entries}
use Rattle.route_table.proofs.PastPrefix.{run_more, run_ends, run_rest}
use Rattle.route_table.proofs.TableLaws.{and_left, and_right, and_both}

abbrev pub Entry : Type 0
Entry = Prefix6 × RouteValue

module _ (test : RouteValue → Bool) where
  passing : Entries → Entries
  passing es = filter (λ e. test e.1) es

  below_passing : (p : Prefix6) (es : Entries) → T (below_all prefix_cmp p es) → T (below_all prefix_cmp p (passing es))
  unfolding passing
  below_passing p [] h = tt
  below_passing p (e ∷ es) h =
      let rest = below_passing p es (and_right _ _ h) in
      elim (test e.1) as (λ b. T (below_all prefix_cmp p (cond b (e ∷ passing es) (passing es)))) [ true ↦ and_both _ _ (and_left _ _ h) rest | false ↦ rest ]

  sorted_passing : (es : Entries) → T (is_sorted prefix_cmp es) → T (is_sorted prefix_cmp (passing es))
  unfolding passing
  sorted_passing [] h = tt
  sorted_passing (e ∷ es) h =
      let rest = sorted_passing es (and_right _ _ h) in
      elim (test e.1) as (λ b. T (is_sorted prefix_cmp (cond b (e ∷ passing es) (passing es)))) [ true ↦ and_both _ _ (below_passing e.0 es (and_left _ _ h)) rest | false ↦ rest ]

  passing_past : (after : Option Prefix6) (es : Entries) → passing (past after es) ≡ past after (passing es)
  unfolding passing
  passing_past after [] = refl
  passing_past after (e ∷ es) = by (passing_past after es) (is_past after e.0) (test e.1) refl refl
    where
      by : passing (past after es) ≡ past after (passing es) → (a b : Bool) → is_past after e.0 ≡ a → test e.1 ≡ b → passing (past after (e ∷ es)) ≡ past after (passing (e ∷ es))
      by rest true true is passes = rw (is, passes, is) (ap (λ l. e ∷ l) rest)
      by rest true false is fails = rw (is, fails) rest
      by rest false true is passes = rw (is, passes, is) rest
      by rest false false is fails = rw (is, fails) rest

  first_passing : (q : Entry → Bool) (es : Entries) → first q (passing es) ≡ first (λ e. test e.1 && q e) es
  unfolding passing
  first_passing q [] = refl
  first_passing q (e ∷ es) =
      let rest = first_passing q es in
      elim (test e.1) as (λ b. first q (cond b (e ∷ passing es) (passing es)) ≡ cond (b && q e) (Some e) (first (λ x. test x.1 && q x) es)) [ true ↦ ap (cond (q e) (Some e)) rest | false ↦ rest ]

  module _ (after : Option Prefix6) (es : Entries) (sorted : T (is_sorted prefix_cmp es)) where
    -- a list that has one of them more
    pub passing_more : (out : Entries) (most k : ℕ) (e : Entry) → k < most → first_where test after es ≡ Some e
        → (out ++ e ∷ []) ++ take (most - (k + 1)) (filter (λ x. test x.1) (past (Some e.0) es)) ≡ out ++ take (most - k) (filter (λ x. test x.1) (past after es))
    unfolding passing
    passing_more out most k e lt is =
        ap (λ l. (out ++ e ∷ []) ++ take (most - (k + 1)) l) (passing_past (Some e.0) es)
        ∙ run_more after (passing es) (sorted_passing es sorted) out most k e lt (first_passing (λ x. is_past after x.0) es ∙ is)
        ∙ ap (λ l. out ++ take (most - k) l) (sym (passing_past after es))

    pub passing_ends : (out : Entries) (n : ℕ) → first_where test after es ≡ None → out ++ take n (filter (λ x. test x.1) (past after es)) ≡ out
    unfolding passing
    passing_ends out n is =
        ap (λ l. out ++ take n l) (passing_past after es) ∙ run_ends after (passing es) (sorted_passing es sorted) out n (first_passing (λ x. is_past after x.0) es ∙ is)

    -- behind the first of them, up to the last of these
    pub passing_rest : (n : ℕ) (e : Entry) (run : Entries) → run ≡ take n (filter (λ x. test x.1) (past after es)) → slice_get run (length run - 1) ≡ Some e
        → filter (λ x. test x.1) (past (Some e.0) es) ≡ drop n (filter (λ x. test x.1) (past after es))
    unfolding passing
    passing_rest n e run is last =
        passing_past (Some e.0) es
        ∙ run_rest after (passing es) (sorted_passing es sorted) n e (ap (λ l. slice_get l (length l - 1)) (sym (is ∙ ap (take n) (passing_past after es))) ∙ last)
        ∙ ap (drop n) (sym (passing_past after es))
