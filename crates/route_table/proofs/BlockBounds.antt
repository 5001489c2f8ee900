-- Bounds of what entries know together.
use Rattle.std.proofs.Common.{◌≡◌, ℕ, suc, Bool, true, false, cond, ◌||◌, ◌&&◌, [], ◌∷◌, ◌++◌, take, drop, set, Option, Some, None, refl, sym, ap, ap₂, subst, ◌∙◌, arith}
use mathlib.Core.Bool.{false≢true}
use Rattle.std.specs.Prelude.{All, not, slice_index_or}
use Rattle.std.specs.Ordering.{eq_by_cmp}
use Rattle.std.specs.declared.cmp.Ordering.TheVariants.{Less, Equal, Greater}
use Rattle.std.specs.FinMap.Entries.{put, by_order}
use Rattle.std.specs.List.{insert, remove}
use Rattle.std.proofs.lemmas.List.Elements.{All-nil, All-cons, All-head, All-tail, All-append, All-take, All-drop, All-set, All-filter, All-weaker}
use Rattle.prefix6.specs.Prefix.{Prefix6, prefix_cmp}
use Rattle.route_table.specs.Route.{RouteValue}
use Rattle.route_table.specs.Place.{Entries}
use Rattle.route_table.specs.Table.{is_past, map_entries, past}
use Rattle.route_table.specs.Due.{is_reached, earlier, first_where, without_mark}
use Rattle.route_table.specs.Summary.{SummaryValue, both, no_routes, summary_of, summary_of_route, meets, may_meet, wanted_of}
use Rattle.route_table.specs.Trie.{without}
use Rattle.route_table.specs.Blocks.{IsUnder, Covers}
use Rattle.route_table.specs.declared.wanted.Wanted.{Wanted}
use Rattle.route_table.specs.declared.wanted.Wanted.TheVariants.{Any, Due, Changed, DueOrChanged}
use Rattle.route_table.proofs.TrieLists.{Entry, first_fails}
use Rattle.route_table.proofs.TrieSummary.{both-assoc, earlier-assoc, earlier-none, or-none, neither, neither_is, of_two}

earlier-comm : (a b : Option ℕ) → earlier a b ≡ earlier b a
earlier-comm None None = refl
earlier-comm None (Some b) = refl
earlier-comm (Some a) None = refl
earlier-comm (Some a) (Some b) = ap (λ n. Some n) (omega arith)

earlier-same : (a : Option ℕ) → earlier a a ≡ a
earlier-same None = refl
earlier-same (Some a) = ap (λ n. Some n) (omega arith)

or-comm : (a b : Bool) → (a || b) ≡ (b || a)
or-comm true true = refl
or-comm true false = refl
or-comm false true = refl
or-comm false false = refl

or-same : (a : Bool) → (a || a) ≡ a
or-same true = refl
or-same false = refl

both-comm : (a b : SummaryValue) → both a b ≡ both b a
both-comm a b = ap₂ of_two (earlier-comm a.due b.due) (or-comm a.changed b.changed)

both-same : (a : SummaryValue) → both a a ≡ a
both-same a = ap₂ of_two (earlier-same a.due) (or-same a.changed)

both-none : (a : SummaryValue) → both a no_routes ≡ a
both-none a = ap₂ of_two (earlier-none a.due) (or-none a.changed)

-- ---- a bound and more
pub under_itself : (s : SummaryValue) (r : RouteValue) → IsUnder (both s (summary_of_route r)) r
under_itself s r = sym (both-assoc s (summary_of_route r) (summary_of_route r)) ∙ ap (both s) (both-same (summary_of_route r))

under_more : (s t : SummaryValue) (r : RouteValue) → IsUnder s r → IsUnder (both s t) r
under_more s t r u =
    sym (both-assoc s t (summary_of_route r))
    ∙ ap (both s) (both-comm t (summary_of_route r))
    ∙ both-assoc s (summary_of_route r) t
    ∙ ap (λ x. both x t) u

pub covers_more : (s t : SummaryValue) (es : Entries) → Covers s es → Covers (both s t) es
covers_more s t es h = All-weaker (λ (e : Entry). IsUnder s e.1) (λ (e : Entry). IsUnder (both s t) e.1) (λ e u. under_more s t e.1 u) es h

-- with another route in a place or in a gap
pub covers_set : (s : SummaryValue) (es : Entries) (i : ℕ) (p : Prefix6) (r : RouteValue) → Covers s es → Covers (both s (summary_of_route r)) (set es i (p, r))
covers_set s es i p r h = All-set (λ (e : Entry). IsUnder (both s (summary_of_route r)) e.1) es i (p, r) (under_itself s r) (covers_more s (summary_of_route r) es h)

pub covers_insert : (s : SummaryValue) (es : Entries) (i : ℕ) (p : Prefix6) (r : RouteValue) → Covers s es → Covers (both s (summary_of_route r)) (insert es i (p, r))
covers_insert s es i p r h =
    let t = both s (summary_of_route r) in
    let more : Covers t es = covers_more s (summary_of_route r) es h in
    All-append (λ (e : Entry). IsUnder t e.1) (take i es) ((p, r) ∷ drop i es) (All-take (λ (e : Entry). IsUnder t e.1) i es more)
    (All-cons (λ (e : Entry). IsUnder t e.1) (p, r) (drop i es) (under_itself s r) (All-drop (λ (e : Entry). IsUnder t e.1) i es more))

pub covers_take : (s : SummaryValue) (es : Entries) (i : ℕ) → Covers s es → Covers s (take i es)
covers_take s es i h = All-take (λ (e : Entry). IsUnder s e.1) i es h

pub covers_drop : (s : SummaryValue) (es : Entries) (i : ℕ) → Covers s es → Covers s (drop i es)
covers_drop s es i h = All-drop (λ (e : Entry). IsUnder s e.1) i es h

pub covers_remove : (s : SummaryValue) (es : Entries) (i : ℕ) → Covers s es → Covers s (remove es i)
covers_remove s es i h = All-append (λ (e : Entry). IsUnder s e.1) (take i es) (drop (suc i) es) (covers_take s es i h) (covers_drop s es (suc i) h)

pub covers_join : (s t : SummaryValue) (xs ys : Entries) → Covers s xs → Covers t ys → Covers (both s t) (xs ++ ys)
covers_join s t xs ys h k = All-append (λ (e : Entry). IsUnder (both s t) e.1) xs ys (covers_more s t xs h) (subst (λ u. Covers u ys) (both-comm t s) (covers_more t s ys k))

pub covers_without : (s : SummaryValue) (p : Prefix6) (es : Entries) → Covers s es → Covers s (without p es)
covers_without s p es h = All-filter (λ (e : Entry). not (eq_by_cmp prefix_cmp p e.0)) (λ (e : Entry). IsUnder s e.1) es h

covers_put : (s : SummaryValue) (p : Prefix6) (r : RouteValue) (es : Entries) → Covers s es → Covers (both s (summary_of_route r)) (put prefix_cmp p r es)
covers_put s p r [] h =
    let P : Entry → Type 0 = λ e. IsUnder (both s (summary_of_route r)) e.1 in
    All-cons P (p, r) [] (under_itself s r) (All-nil P)
covers_put s p r (e ∷ es) h =
    let P : Entry → Type 0 = λ x. IsUnder (both s (summary_of_route r)) x.1 in
    let more : All P (e ∷ es) = covers_more s (summary_of_route r) (e ∷ es) h in
    elim (prefix_cmp p e.0) as (λ o. All P (by_order o ((p, r) ∷ e ∷ es) ((e.0, r) ∷ es) (e ∷ put prefix_cmp p r es))) [
      | Less ↦ All-cons P (p, r) (e ∷ es) (under_itself s r) more
      | Equal ↦ All-cons P (e.0, r) es (under_itself s r) (All-tail P e es more)
      | Greater ↦ All-cons P e (put prefix_cmp p r es) (All-head P e es more) (covers_put s p r es (All-tail (λ (x : Entry). IsUnder s x.1) e es h))
    ]

pub covers_with : (s t u : SummaryValue) (p : Prefix6) (r : RouteValue) (es fs : Entries) → Covers s es → t ≡ summary_of_route r → u ≡ both s t → fs ≡ put prefix_cmp p r es → Covers u fs
covers_with s t u p r es fs h of is put_is = subst (Covers u) (sym put_is) (subst (λ x. Covers x (put prefix_cmp p r es)) (sym (is ∙ ap (both s) of)) (covers_put s p r es h))

pub covers_one : (p : Prefix6) (r : RouteValue) → Covers (summary_of_route r) ((p, r) ∷ [])
covers_one p r = All-cons (λ (e : Entry). IsUnder (summary_of_route r) e.1) (p, r) [] (both-same (summary_of_route r)) (All-nil (λ (e : Entry). IsUnder (summary_of_route r) e.1))

-- the summary of all is a bound
pub covers_exactly : (es : Entries) → Covers (summary_of es) es
covers_exactly [] = All-nil (λ (e : Entry). IsUnder no_routes e.1)
covers_exactly (e ∷ es) =
    let s = both (summary_of_route e.1) (summary_of es) in
    let turned : both (summary_of es) (summary_of_route e.1) ≡ s = both-comm (summary_of es) (summary_of_route e.1) in
    All-cons (λ (x : Entry). IsUnder s x.1) e es
    (subst (λ t. IsUnder t e.1) turned (under_itself (summary_of es) e.1))
    (subst (λ t. Covers t es) turned (covers_more (summary_of es) (summary_of_route e.1) es (covers_exactly es)))

pub covers_summed : (s : SummaryValue) (es : Entries) → s ≡ summary_of es → Covers s es
covers_summed s es exact = subst (λ t. Covers t es) (sym exact) (covers_exactly es)

-- ---- what a bound says
covered_whole : (s : SummaryValue) (es : Entries) → Covers s es → both s (summary_of es) ≡ s
covered_whole s [] h = both-none s
covered_whole s (e ∷ es) h =
    both-assoc s (summary_of_route e.1) (summary_of es)
    ∙ ap (λ t. both t (summary_of es)) (All-head (λ (x : Entry). IsUnder s x.1) e es h)
    ∙ covered_whole s es (All-tail (λ (x : Entry). IsUnder s x.1) e es h)

-- no deadline is earlier than one that the bound does not come before
pub no_earlier : (s : SummaryValue) (es : Entries) (due : Option ℕ) → Covers s es → earlier due s.due ≡ due → due ≡ earlier due (summary_of es).due
no_earlier s es due h is = sym (
    ap (λ d. earlier d (summary_of es).due) (sym is)
    ∙ sym (earlier-assoc due s.due (summary_of es).due)
    ∙ ap (λ (t : SummaryValue). earlier due t.due) (covered_whole s es h)
    ∙ is)

not_due : (by : ℕ) (s : SummaryValue) (r : RouteValue) → is_reached by s.due ≡ false → IsUnder s r → meets (Due by) r ≡ false
not_due by s r h u = (neither by s.due (summary_of_route r).due (ap (λ (t : SummaryValue). is_reached by t.due) u ∙ h)).1

not_changed : (s : SummaryValue) (r : RouteValue) → s.changed ≡ false → IsUnder s r → r.changed ≡ false
not_changed s r h u = (neither_is s.changed r.changed (ap (λ (t : SummaryValue). t.changed) u ∙ h)).1

ruled_out : (w : Wanted) (s : SummaryValue) (r : RouteValue) → may_meet w s ≡ false → IsUnder s r → meets w r ≡ false
ruled_out Any s r h u = absurd (false≢true (sym h))
ruled_out (Due by) s r h u = not_due by s r h u
ruled_out Changed s r h u = not_changed s r h u
ruled_out (DueOrChanged by) s r h u =
    let apart = neither_is (is_reached by s.due) s.changed h in
    ap₂ (λ a b. a || b) (not_due by s r apart.0 u) (not_changed s r apart.1 u)

pub nothing_wanted : (w : Wanted) (after : Option Prefix6) (s : SummaryValue) (es : Entries) → may_meet w s ≡ false → Covers s es → None ≡ first_where (meets w) after es
nothing_wanted w after s es h c = sym (first_fails (λ e. meets w e.1 && is_past after e.0) es (λ i d lt. ap (λ b. b && is_past after (slice_index_or es i d).0) (ruled_out w s (slice_index_or es i d).1 h (c i d lt))))

pub none_listed : (w : Wanted) (after : Option Prefix6) (s : SummaryValue) (es : Entries) → may_meet w s ≡ false → Covers s es → wanted_of w (past after es) ≡ []
none_listed w after s es h c =
    none_passes (past after es) (All-filter (λ (e : Entry). is_past after e.0) (λ (e : Entry). meets w e.1 ≡ false) es (All-weaker (λ (e : Entry). IsUnder s e.1) (λ (e : Entry). meets w e.1 ≡ false) (λ e u. ruled_out w s e.1 h u) es c))
  where
    none_passes : (fs : Entries) → All (λ e. meets w e.1 ≡ false) fs → wanted_of w fs ≡ []
    none_passes [] fails = refl
    none_passes (e ∷ fs) fails =
        let P : Entry → Type 0 = λ x. meets w x.1 ≡ false in
        ap (λ b. cond b (e ∷ wanted_of w fs) (wanted_of w fs)) (All-head P e fs fails) ∙ none_passes fs (All-tail P e fs fails)

-- ---- marks
abbrev plain : Entries → Entries
plain = map_entries without_mark

unmarked_under : (s : SummaryValue) (r : RouteValue) → IsUnder s r → IsUnder (record s { changed = false }) (record r { changed = false })
unmarked_under s r u = ap (λ (t : SummaryValue). record t { changed = false }) u

pub covers_plain : (s : SummaryValue) (es : Entries) → Covers s es → Covers (record s { changed = false }) (plain es)
covers_plain s [] h = All-nil (λ (e : Entry). IsUnder (record s { changed = false }) e.1)
covers_plain s (e ∷ es) h = All-cons (λ (x : Entry). IsUnder (record s { changed = false }) x.1) (e.0, record e.1 { changed = false }) (plain es)
    (unmarked_under s e.1 (All-head (λ (x : Entry). IsUnder s x.1) e es h))
    (covers_plain s es (All-tail (λ (x : Entry). IsUnder s x.1) e es h))

-- where the bound knows no mark there is none
pub plain_already : (s : SummaryValue) (es : Entries) → s.changed ≡ false → Covers s es → es ≡ plain es
plain_already s [] h c = refl
plain_already s (e ∷ es) h c =
    let off : e.1.changed ≡ false = not_changed s e.1 h (All-head (λ (x : Entry). IsUnder s x.1) e es c) in
    ap₂ (λ (b : Bool) (l : Entries). (e.0, record e.1 { changed = b }) ∷ l) off (plain_already s es h (All-tail (λ (x : Entry). IsUnder s x.1) e es c))
