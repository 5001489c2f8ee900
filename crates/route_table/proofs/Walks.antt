-- Walks over a table that stays, entry by entry.
use Rattle.std.proofs.Common.{◌≡◌, ℕ, zero, suc, ◌+◌, ◌<◌, ◌≤◌, Bool, true, false, ◌||◌, [], ◌∷◌, ◌++◌, length, take, drop, Option, Some, None, slice_get, refl, sym, ap, ◌∙◌, arith, add-one}
use Rattle.std.specs.Prelude.{T}
use Rattle.std.specs.List.{list_any, filter_map, cons_option}
use Rattle.std.specs.Option.{option_map, option_to_list}
use Rattle.std.specs.FinMap.{entries, is_sorted}
use Rattle.std.proofs.lemmas.List.{take_more}
use Rattle.std.proofs.lemmas.List.Elements.{filter_map-append}
use Rattle.std.proofs.lemmas.List.Folds.{list_any-append}
use Rattle.std.proofs.lemmas.Option.{get_or_from_slice_get, same_Some, slice_get_within}
use Rattle.std.proofs.Math.Bool.{or-false}
use Rattle.std.proofs.Math.Seq.{drop-cons}
use Rattle.prefix6.specs.Prefix.{Prefix6, prefix_cmp}
use Rattle.route_table.specs.Route.{RouteValue}
use Rattle.route_table.specs.Table.{Table}
use Rattle.route_table.specs.Place.{Entries, IsStartPast}
use Rattle.route_table.proofs.SortedEntries.{start_after}
use Rattle.route_table.proofs.SortedTable.{start_all}

abbrev Entry : Type 0
Entry = Prefix6 × RouteValue

-- the prefix of the last entry before a place, if there is one: where a walk stands that has come so far
abbrev pub prefix_before : Entries → ℕ → Option Prefix6
prefix_before es zero = None
prefix_before es (suc k) = option_map (λ (e : Entry). e.0) (slice_get es k)

-- one step of a walk further
pub prefix_before-next : (es : Entries) (k : ℕ) (e : Entry) → slice_get es k ≡ Some e → prefix_before es (k + 1) ≡ Some e.0
prefix_before-next es k e at_k = rw (add-one k, at_k) refl

-- a place below the length has an entry
pub present_at : (es : Entries) (k : ℕ) → k < length es → slice_get es k ≡ None → ⊥
present_at [] k lt none = omega arith
present_at (e ∷ es) zero lt none = cc
present_at (e ∷ es) (suc k) lt none = present_at es k (omega arith) none

-- the entries past the prefix before a place begin at that place
pub start_before : (es : Entries) (k : ℕ) → T (is_sorted prefix_cmp es) → k ≤ length es → IsStartPast es (prefix_before es k) k
start_before es zero h le = start_all es
start_before es (suc k) h le = from_entry (slice_get es k) refl
  where
    from_entry : (o : Option Entry) → slice_get es k ≡ o → IsStartPast es (option_map (λ (e : Entry). e.0) (slice_get es k)) (suc k)
    from_entry None is = absurd (present_at es k (omega arith) is)
    from_entry (Some e) is = rw (is, ← add-one k) (start_after es e.0 k h (record { in_range = omega arith; has_prefix = λ d. ap (λ (x : Entry). x.0) (get_or_from_slice_get es k e d is) }))

-- ---- one entry further
pub take_next : (es : Entries) (k : ℕ) (e : Entry) → slice_get es k ≡ Some e → take (k + 1) es ≡ take k es ++ e ∷ []
take_next es k e at_k = take_more es k e (slice_get_within es k e at_k) ∙ ap (λ x. take k es ++ x ∷ []) (get_or_from_slice_get es k e e at_k)

pub drop_next : (es : Entries) (k : ℕ) (e : Entry) → slice_get es k ≡ Some e → drop k es ≡ e ∷ drop (k + 1) es
drop_next es k e at_k =
    drop-cons es k e (slice_get_within es k e at_k) ∙ ap (λ x. x ∷ drop (suc k) es) (get_or_from_slice_get es k e e at_k)
    ∙ ap (λ n. e ∷ drop n es) (sym (add-one k))

-- ---- the invariant of a loop that walks a table
-- the walk stands past the entries below place k
pub record WalksTo (t : Table) (after : Option Prefix6) (k : ℕ) : Type 0 where
  pub stands : after ≡ prefix_before (entries t) k

-- the entry at a place
pub record IsEntryAt (t : Table) (k : ℕ) (e : Entry) : Type 0 where
  pub is : slice_get (entries t) k ≡ Some e

pub WalksTo-start : (t : Table) → WalksTo t None 0
WalksTo-start t = record { stands = refl }

pub WalksTo-next : {t : Table} {after : Option Prefix6} {k : ℕ} {e : Entry} → WalksTo t after k → IsEntryAt t k e → WalksTo t (Some e.0) (k + 1)
WalksTo-next {t = t} {k = k} {e = e} w here = record { stands = sym (prefix_before-next (entries t) k e here.is) }

-- ---- what a loop makes of the entries that it has met
one_option : {X : Type 0} (o : Option X) → cons_option o [] ≡ option_to_list o
one_option None = refl
one_option (Some x) = refl

-- a list that is made of them, one by one
pub filter_map-next : {X : Type 0} (f : Entry → Option X) {t : Table} {k : ℕ} {e : Entry} → IsEntryAt t k e
    → filter_map f (take (k + 1) (entries t)) ≡ filter_map f (take k (entries t)) ++ option_to_list (f e)
filter_map-next f {t = t} {k = k} {e = e} here =
    ap (filter_map f) (take_next (entries t) k e here.is) ∙ filter_map-append f (take k (entries t)) (e ∷ [])
    ∙ ap (λ l. filter_map f (take k (entries t)) ++ l) (one_option (f e))

-- a test of each
pub list_any-next : (p : Entry → Bool) {t : Table} {k : ℕ} {e : Entry} → IsEntryAt t k e
    → list_any p (take (k + 1) (entries t)) ≡ (list_any p (take k (entries t)) || p e)
list_any-next p {t = t} {k = k} {e = e} here =
    ap (list_any p) (take_next (entries t) k e here.is) ∙ list_any-append p (take k (entries t)) (e ∷ [])
    ∙ ap (λ b. list_any p (take k (entries t)) || b) (or-false (p e))

-- an entry that passes a test
any_found : (p : Entry → Bool) (es : Entries) (k : ℕ) (e : Entry) → slice_get es k ≡ Some e → p e ≡ true → list_any p es ≡ true
any_found p [] k e at_k passes = cc
any_found p (x ∷ es) zero e at_k passes = rw (same_Some x e at_k, passes) refl
any_found p (x ∷ es) (suc k) e at_k passes = by_first (p x) (any_found p es k e at_k passes)
  where
    by_first : (b : Bool) → list_any p es ≡ true → (b || list_any p es) ≡ true
    by_first true rest = refl
    by_first false rest = rest

pub list_any-found : (p : Entry → Bool) {t : Table} {k : ℕ} {e : Entry} → IsEntryAt t k e → p e ≡ true → list_any p (entries t) ≡ true
list_any-found p {t = t} {k = k} {e = e} here passes = any_found p (entries t) k e here.is passes

-- an entry of which something is made
made_of : {X : Type 0} (f : Entry → Option X) (es : Entries) (k : ℕ) (e : Entry) (x : X) → slice_get es k ≡ Some e → f e ≡ Some x → filter_map f es ≡ [] → ⊥
made_of f [] k e x at_k makes none = cc
made_of f (y ∷ es) zero e x at_k makes none =
    not_empty (sym (ap (λ o. cons_option o (filter_map f es)) (ap f (same_Some y e at_k) ∙ makes)) ∙ none)
  where
    not_empty : x ∷ filter_map f es ≡ [] → ⊥
    not_empty h = cc
made_of {X = X} f (y ∷ es) (suc k) e x at_k makes none = made_of f es k e x at_k makes (rest_empty (f y) none)
  where
    rest_empty : (o : Option X) → cons_option o (filter_map f es) ≡ [] → filter_map f es ≡ []
    rest_empty None h = h
    rest_empty (Some z) h = cc

pub filter_map-found : {X : Type 0} (f : Entry → Option X) {t : Table} {k : ℕ} {e : Entry} {x : X} → IsEntryAt t k e → f e ≡ Some x
    → filter_map f (entries t) ≡ [] → ⊥
filter_map-found f {t = t} {k = k} {e = e} {x = x} here makes none = made_of f (entries t) k e x here.is makes none
