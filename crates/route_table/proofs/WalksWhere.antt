-- Walks over the entries of a table that pass a test, while those behind the walk may be replaced or removed.
use Rattle.std.proofs.Common.{◌≡◌, ℕ, ◌+◌, ◌≤◌, Bool, true, false, cond, ◌&&◌, ◌||◌, List, [], ◌∷◌, ◌++◌, zero, suc, length, take, drop, length-drop, append_assoc, Option, Some, None, slice_get, refl, sym, ap, subst, ◌∙◌, arith}
use Rattle.std.specs.Prelude.{T}
use Rattle.std.specs.List.{find as first, filter_map, list_any, cons_option}
use Rattle.std.specs.Option.{option_map, option_or, option_to_list}
use Rattle.std.specs.FinMap as map
use Rattle.std.specs.FinMap.{entries, is_sorted}
use Rattle.std.proofs.lemmas.List.{take_all, take-append-drop, append-nil}
use Rattle.std.proofs.lemmas.List.Elements.{filter_map-append}
use Rattle.std.proofs.lemmas.List.Folds.{find-append}
use Rattle.std.proofs.lemmas.Option.{get_or_from_slice_get, slice_get_within}
use Rattle.prefix6.specs.Prefix.{Prefix6, prefix_cmp}
use Rattle.route_table.specs.Route.{RouteValue}
use Rattle.route_table.specs.Table.{Table, is_past, map_entries, map_values, with_value}
use Rattle.route_table.specs.Due.{first_where}
use Rattle.route_table.specs.Place.{Entries}
use Rattle.route_table.proofs.Midway.{IsMidway, IsMidway-next, get-midway, midway_all, none_behind}
use Rattle.route_table.proofs.SortedDue.{starts}
use Rattle.route_table.proofs.TrieWalk.{never}
use Rattle.route_table.proofs.Walks.{WalksTo, WalksTo-start, WalksTo-next, IsEntryAt, prefix_before, start_before, take_next, drop_next, filter_map-next, list_any-next}

abbrev Entry : Type 0
Entry = Prefix6 × RouteValue

-- ---- the search, from the place that a walk has come to
rest_head : (es : Entries) (k : ℕ) → slice_get (drop k es) 0 ≡ slice_get es k
rest_head [] zero = refl
rest_head [] (suc k) = refl
rest_head (e ∷ es) zero = refl
rest_head (e ∷ es) (suc k) = rest_head es k

head_at : (es : Entries) (k : ℕ) (d : Entry) (ds : Entries) → drop k es ≡ d ∷ ds → slice_get es k ≡ Some d
head_at es k d ds is = sym (rest_head es k) ∙ ap (λ l. slice_get l 0) is

tail_at : (es : Entries) (k : ℕ) (d : Entry) (ds : Entries) → drop k es ≡ d ∷ ds → drop (k + 1) es ≡ ds
tail_at es k d ds is = ap (drop 1) (sym (drop_next es k d (head_at es k d ds is)) ∙ is)

-- where no entry is past the prefix, none passes and is past it
none_passes : (test : RouteValue → Bool) (q : Prefix6 → Bool) (l : Entries) → first (λ (e : Entry). q e.0) l ≡ None → first (λ (e : Entry). test e.1 && q e.0) l ≡ None
none_passes test q [] h = refl
none_passes test q (e ∷ l) h = go (q e.0) h (none_passes test q l)
  where
    some_none : Some e ≡ None → ⊥
    some_none s = cc

    go : (b : Bool) → cond b (Some e) (first (λ (x : Entry). q x.0) l) ≡ None → (first (λ (x : Entry). q x.0) l ≡ None → first (λ (x : Entry). test x.1 && q x.0) l ≡ None)
        → cond (test e.1 && b) (Some e) (first (λ (x : Entry). test x.1 && q x.0) l) ≡ None
    go true s rest = absurd (some_none s)
    go false s rest = ap (λ b. cond b (Some e) (first (λ (x : Entry). test x.1 && q x.0) l)) (never (test e.1)) ∙ rest s

and_true : (b : Bool) → (b && true) ≡ b
and_true true = refl
and_true false = refl

module _ (test : RouteValue → Bool) (es : Entries) (sorted : T (is_sorted prefix_cmp es)) (k : ℕ) (le : k ≤ length es) where
  -- from the place on, all entries are past the prefix before it
  all_past : (i : ℕ) (d : Entry) → k ≤ i → slice_get es i ≡ Some d → is_past (prefix_before es k) d.0 ≡ true
  all_past i d up at_i =
      subst (λ (x : Entry). is_past (prefix_before es k) x.0 ≡ true) (get_or_from_slice_get es i d d at_i)
      ((starts test (prefix_before es k) es k sorted (start_before es k sorted le)).ahead i d up (slice_get_within es i d at_i))

  past_or_not : (ds : Entries) (i : ℕ) → k ≤ i → drop i es ≡ ds → first (λ (e : Entry). test e.1 && is_past (prefix_before es k) e.0) ds ≡ first (λ (e : Entry). test e.1) ds
  past_or_not [] i up is = refl
  past_or_not (d ∷ ds) i up is =
      ap (λ b. cond (test d.1 && b) (Some d) (first (λ (e : Entry). test e.1 && is_past (prefix_before es k) e.0) ds)) (all_past i d up (head_at es i d ds is))
      ∙ ap (λ b. cond b (Some d) (first (λ (e : Entry). test e.1 && is_past (prefix_before es k) e.0) ds)) (and_true (test d.1))
      ∙ ap (cond (test d.1) (Some d)) (past_or_not ds (i + 1) (omega arith) (tail_at es i d ds is))

  first_ahead : (f : RouteValue → Option RouteValue) (u : Table) → IsMidway f es k u → first_where test (prefix_before es k) (entries u) ≡ first (λ (e : Entry). test e.1) (drop k es)
  first_ahead f u is =
      let p = λ (e : Entry). test e.1 && is_past (prefix_before es k) e.0 in
      ap (first p) is ∙ find-append p (map_entries f (take k es)) (drop k es)
      ∙ ap (λ o. option_or o (first p (drop k es))) (none_passes test (is_past (prefix_before es k)) (map_entries f (take k es)) (none_behind f es k sorted le))
      ∙ past_or_not (drop k es) k (omega arith) refl

-- a table is midway to itself
same_entries : (es : Entries) → map_entries (λ r. Some r) es ≡ es
same_entries [] = refl
same_entries (e ∷ es) = ap (λ l. e ∷ l) (same_entries es)

at_rest : (t : Table) (k : ℕ) → IsMidway (λ r. Some r) (entries t) k t
at_rest t k = sym (ap (λ l. l ++ drop k (entries t)) (same_entries (take k (entries t))) ∙ take-append-drop k (entries t))

-- ---- what a loop keeps while it walks over the entries that pass
-- an entry that fails may be passed by
abbrev pub PassesBy : (test : RouteValue → Bool) (t : Table) (kept : ℕ → Type 0) → Type 0
PassesBy test t kept = (i : ℕ) (d : Entry) → IsEntryAt t i d → test d.1 ≡ false → kept i → kept (i + 1)

-- after k steps or more the walk stands past the entries below a place, where something is kept
pub record WalksWhere (kept : ℕ → Type 0) (t : Table) (after : Option Prefix6) (k : ℕ) : Type 0 where
  pub place : ℕ
  pub steps : k ≤ place
  pub in_range : place ≤ length (entries t)
  pub walks : WalksTo t after place
  pub holds : kept place

-- the walk has met an entry that passes
pub record HasMet (kept : ℕ → Type 0) (t : Table) (k : ℕ) (e : Entry) : Type 0 where
  pub place : ℕ
  pub steps : k ≤ place
  pub here : IsEntryAt t place e
  pub holds : kept place

module _ (test : RouteValue → Bool) (t : Table) (kept : ℕ → Type 0) (by : PassesBy test t kept) where
  meets : (ds : Entries) (j : ℕ) → drop j (entries t) ≡ ds → kept j → (e : Entry) → first (λ (x : Entry). test x.1) ds ≡ Some e → HasMet kept t j e
  meets [] j is holds e h = absurd (none_some h)
    where
      none_some : None ≡ Some e → ⊥
      none_some s = cc
  meets (d ∷ ds) j is holds e h = go (λ fails s. meets ds (j + 1) (tail_at (entries t) j d ds is) (by j d at_j fails holds) e s) (test d.1) refl h
    where
      at_j : IsEntryAt t j d
      at_j = record { is = head_at (entries t) j d ds is }

      go : (test d.1 ≡ false → first (λ (x : Entry). test x.1) ds ≡ Some e → HasMet kept t (j + 1) e) → (b : Bool) → test d.1 ≡ b → cond b (Some d) (first (λ (x : Entry). test x.1) ds) ≡ Some e → HasMet kept t j e
      go deeper true passes s = record { place = j; steps = omega arith; here = record { is = at_j.is ∙ s }; holds = holds }
      go deeper false fails s =
          let m = deeper fails s in
          record { place = m.place; steps = omega (arith, m.steps); here = m.here; holds = m.holds }

  meets_none : (ds : Entries) (j : ℕ) → drop j (entries t) ≡ ds → j + length ds ≡ length (entries t) → kept j → first (λ (x : Entry). test x.1) ds ≡ None → kept (length (entries t))
  meets_none [] j is count holds h = subst kept (omega (arith, count)) holds
  meets_none (d ∷ ds) j is count holds h =
      go (λ fails s. meets_none ds (j + 1) (tail_at (entries t) j d ds is) (omega (arith, count)) (by j d (record { is = head_at (entries t) j d ds is }) fails holds) s) (test d.1) refl h
    where
      some_none : Some d ≡ None → ⊥
      some_none s = cc

      go : (test d.1 ≡ false → first (λ (x : Entry). test x.1) ds ≡ None → kept (length (entries t))) → (b : Bool) → test d.1 ≡ b → cond b (Some d) (first (λ (x : Entry). test x.1) ds) ≡ None → kept (length (entries t))
      go deeper true passes s = absurd (some_none s)
      go deeper false fails s = deeper fails s

  module _ {after : Option Prefix6} {k : ℕ} (w : WalksWhere kept t after k) where
    -- what a search finds in a table that is midway, from where the walk stands
    search_is : (f : RouteValue → Option RouteValue) (u : Table) → IsMidway f (entries t) w.place u → first_where test after (entries u) ≡ first (λ (x : Entry). test x.1) (drop w.place (entries t))
    search_is f u is =
        ap (λ a. first_where test a (entries u)) w.walks.stands
        ∙ first_ahead test (entries t) (map.entries_sorted t) w.place w.in_range f u is

    pub meets_in : (f : RouteValue → Option RouteValue) (u : Table) → IsMidway f (entries t) w.place u → (e : Entry) → first_where test after (entries u) ≡ Some e → HasMet kept t k e
    meets_in f u is e found =
        let m = meets (drop w.place (entries t)) w.place refl w.holds e (sym (search_is f u is) ∙ found) in
        record { place = m.place; steps = omega (arith, m.steps, w.steps); here = m.here; holds = m.holds }

    pub none_in : (f : RouteValue → Option RouteValue) (u : Table) → IsMidway f (entries t) w.place u → first_where test after (entries u) ≡ None → kept (length (entries t))
    none_in f u is none =
        meets_none (drop w.place (entries t)) w.place refl (omega (arith, w.in_range, length-drop w.place (entries t))) w.holds (sym (search_is f u is) ∙ none)

    -- the same where the table stays
    pub WalksWhere-entry : {answer : Option Entry} {e : Entry} → answer ≡ first_where test after (entries t) → answer ≡ Some e → HasMet kept t k e
    WalksWhere-entry {e = e} gives some = meets_in (λ r. Some r) t (at_rest t w.place) e (sym gives ∙ some)

    pub WalksWhere-none : {answer : Option Entry} → answer ≡ first_where test after (entries t) → answer ≡ None → kept (length (entries t))
    WalksWhere-none gives none = none_in (λ r. Some r) t (at_rest t w.place) (sym gives ∙ none)

    -- after as many steps as there are entries the walk has come to the end
    pub WalksWhere-end : map.len t ≤ k → kept (length (entries t))
    WalksWhere-end le = subst kept (omega (arith, le, w.steps, w.in_range, map.len-entries t)) w.holds

pub WalksWhere-start : (kept : ℕ → Type 0) (t : Table) → kept 0 → WalksWhere kept t None 0
WalksWhere-start kept t holds = record { place = 0; steps = omega arith; in_range = omega arith; walks = WalksTo-start t; holds = holds }

-- one entry further, where something else may be kept
pub WalksWhere-next : {kept after : ℕ → Type 0} {t : Table} {k : ℕ} {e : Entry} → (m : HasMet kept t k e) → after (m.place + 1) → WalksWhere after t (Some e.0) (k + 1)
WalksWhere-next {t = t} {e = e} m holds =
    let within = slice_get_within (entries t) m.place e m.here.is in
    record {
      place = m.place + 1;
      steps = omega (arith, m.steps);
      in_range = omega arith;
      walks = step m.here;
      holds = holds;
    }
  where
    step : IsEntryAt t m.place e → WalksTo t (Some e.0) (m.place + 1)
    step here = WalksTo-next (record { stands = refl }) here

-- ---- what is made of the entries that pass
module _ {X : Type 0} (test : RouteValue → Bool) (f : Entry → Option X) (t : Table) (nothing : (e : Entry) → test e.1 ≡ false → f e ≡ None) where
  -- of an entry that fails comes nothing
  pub listed_by : (xs : List X) → PassesBy test t (λ i. xs ≡ filter_map f (take i (entries t)))
  listed_by xs i d here fails is = is ∙ sym (filter_map-next f here ∙ ap (λ o. filter_map f (take i (entries t)) ++ option_to_list o) (nothing d fails) ∙ append-nil _)

module _ (test : RouteValue → Bool) (p : Entry → Bool) (t : Table) (never_so : (e : Entry) → test e.1 ≡ false → p e ≡ false) where
  pub none_by : PassesBy test t (λ i. list_any p (take i (entries t)) ≡ false)
  none_by i d here fails is = list_any-next p here ∙ ap (λ b. b || p d) is ∙ never_so d fails

-- what is made of all entries is made
pub take_whole : {X : Type 0} (g : Entries → X) (t : Table) → g (take (length (entries t)) (entries t)) ≡ g (entries t)
take_whole g t = ap g (take_all (length (entries t)) (entries t) (omega arith))

-- ---- where the entries that pass are replaced or removed
-- what fails stays
abbrev pub Leaves : (RouteValue → Bool) → (RouteValue → Option RouteValue) → Type 0
Leaves test f = (r : RouteValue) → test r ≡ false → f r ≡ Some r

module _ (test : RouteValue → Bool) (f : RouteValue → Option RouteValue) (leaves : Leaves test f) (t u : Table) where
  pub midway_by : PassesBy test t (λ i. IsMidway f (entries t) i u)
  midway_by i d here fails is =
      is ∙ ap (λ l. map_entries f (take i (entries t)) ++ l) (drop_next (entries t) i d here.is)
      ∙ sym (append_assoc (map_entries f (take i (entries t))) (d ∷ []) (drop (i + 1) (entries t)))
      ∙ ap (λ l. l ++ drop (i + 1) (entries t))
      (sym (ap (map_entries f) (take_next (entries t) i d here.is)
      ∙ filter_map-append (λ (x : Entry). option_map (λ y. (x.0, y)) (f x.1)) (take i (entries t)) (d ∷ [])
      ∙ ap (λ o. map_entries f (take i (entries t)) ++ cons_option (option_map (λ y. (d.0, y)) o) []) (leaves d.1 fails)))

abbrev pub WalksSettling : (RouteValue → Option RouteValue) → (t u : Table) → Option Prefix6 → ℕ → Type 0
WalksSettling f t u = WalksWhere (λ i. IsMidway f (entries t) i u) t

module _ (test : RouteValue → Bool) (f : RouteValue → Option RouteValue) (leaves : Leaves test f) (t u : Table) {after : Option Prefix6} {k : ℕ} (w : WalksSettling f t u after k) where
  -- the table still has the entry that the search finds
  pub Settling-get : {answer : Option Entry} {e : Entry} → answer ≡ first_where test after (entries u) → answer ≡ Some e → map.get u e.0 ≡ Some e.1
  Settling-get {e = e} gives some =
      let m = meets_in test t (λ i. IsMidway f (entries t) i u) (midway_by test f leaves t u) w f u w.holds e (sym gives ∙ some) in
      get-midway f (entries t) m.place e u m.here.is m.holds

  -- one entry further, once f of it is in its place
  pub Settling-next : {answer : Option Entry} {e : Entry} → answer ≡ first_where test after (entries u) → answer ≡ Some e → WalksSettling f t (with_value u e.0 (f e.1)) (Some e.0) (k + 1)
  Settling-next {e = e} gives some =
      let m = meets_in test t (λ i. IsMidway f (entries t) i u) (midway_by test f leaves t u) w f u w.holds e (sym gives ∙ some) in
      WalksWhere-next m (IsMidway-next f (entries t) m.place e u m.here.is m.holds)

  -- where the search finds nothing, the whole table is mapped
  pub Settling-none : {answer : Option Entry} → answer ≡ first_where test after (entries u) → answer ≡ None → u ≡ map_values f t
  Settling-none gives none =
      midway_all f t u (none_in test t (λ i. IsMidway f (entries t) i u) (midway_by test f leaves t u) w f u w.holds (sym gives ∙ none))

  pub Settling-end : map.len t ≤ k → u ≡ map_values f t
  Settling-end le = midway_all f t u (WalksWhere-end test t (λ i. IsMidway f (entries t) i u) (midway_by test f leaves t u) w le)

pub Settling-start : (f : RouteValue → Option RouteValue) (t : Table) → WalksSettling f t t None 0
Settling-start f t = WalksWhere-start _ t refl
