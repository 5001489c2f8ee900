-- Walks over a table whose entries behind the walk are replaced or removed.
use Rattle.std.proofs.Common.{◌≡◌, ℕ, ◌+◌, ◌≤◌, Bool, true, false, cond, [], ◌∷◌, ◌++◌, length, take, drop, Option, Some, None, slice_get, refl, sym, ap, ◌∙◌, arith, append_assoc}
use Rattle.std.specs.Prelude.{T}
use Rattle.std.specs.List.{find as first, cons_option}
use Rattle.std.specs.Option.{option_map}
use Rattle.std.specs.FinMap as map
use Rattle.std.specs.FinMap.{entries, is_sorted}
use Rattle.std.proofs.lemmas.List.{length-take-le, get_or-take, append-nil, take_all}
use Rattle.std.proofs.lemmas.List.Elements.{filter_map-append}
use Rattle.std.proofs.lemmas.Option.{slice_get_past}
use Rattle.std.proofs.Math.ListN.{drop_of_length-le}
use Rattle.prefix6.specs.Prefix.{Prefix6, prefix_cmp}
use Rattle.route_table.specs.Route.{RouteValue}
use Rattle.route_table.specs.Table.{Table, is_past, map_entries, map_values, with_value}
use Rattle.route_table.specs.Place.{Entries}
use Rattle.route_table.proofs.SortedEntries.{first_at}
use Rattle.route_table.proofs.TableLaws.{entries-map_values}
use Rattle.route_table.proofs.TableSteps.{get-middle, entries-replace, entries-remove}
use Rattle.route_table.proofs.Walks.{prefix_before, start_before, take_next, drop_next}

abbrev Entry : Type 0
Entry = Prefix6 × RouteValue

-- ---- where the first k entries were mapped, and the others not yet
-- the table is on the way from these entries to f of each
abbrev pub IsMidway : (RouteValue → Option RouteValue) → Entries → ℕ → Table → Type 0
IsMidway f es k t = entries t ≡ map_entries f (take k es) ++ drop k es

kept_one : (p : Prefix6 → Bool) (e : Entry) (l m : Entries)
    → (first (λ (x : Entry). p x.0) l ≡ None → first (λ (x : Entry). p x.0) m ≡ None)
    → (b : Bool) → p e.0 ≡ b → first (λ (x : Entry). p x.0) (e ∷ l) ≡ None
    → (o : Option RouteValue) → first (λ (x : Entry). p x.0) (cons_option (option_map (λ r. (e.0, r)) o) m) ≡ None
kept_one p e l m rest true is h o = absurd (some_none (sym (ap (λ b. cond b (Some e) (first (λ (x : Entry). p x.0) l)) is) ∙ h))
  where
    some_none : Some e ≡ None → ⊥
    some_none q = cc
kept_one p e l m rest false is h None = rest (sym (ap (λ b. cond b (Some e) (first (λ (x : Entry). p x.0) l)) is) ∙ h)
kept_one p e l m rest false is h (Some r) =
    ap (λ b. cond b (Some (e.0, r)) (first (λ (x : Entry). p x.0) m)) is
    ∙ rest (sym (ap (λ b. cond b (Some e) (first (λ (x : Entry). p x.0) l)) is) ∙ h)

kept_none : (p : Prefix6 → Bool) (f : RouteValue → Option RouteValue) (l : Entries)
    → first (λ (e : Entry). p e.0) l ≡ None → first (λ (e : Entry). p e.0) (map_entries f l) ≡ None
kept_none p f [] h = refl
kept_none p f (e ∷ l) h = kept_one p e l (map_entries f l) (kept_none p f l) (p e.0) refl h (f e.1)

none_before : (es : Entries) (k : ℕ) → T (is_sorted prefix_cmp es) → k ≤ length es → first (λ e. is_past (prefix_before es k) e.0) (take k es) ≡ None
none_before es k h le =
    let s = start_before es k h le in
    let shorter : length (take k es) ≡ k = length-take-le k es le in
    first_at _ (take k es) k (λ j d lt in_range. rw (get_or-take k es j d lt) (s.before j d lt (omega arith))) (λ d lt. absurd (omega arith))
    ∙ slice_get_past (take k es) k (omega arith)

-- nothing that is behind the walk is past it
pub none_behind : (f : RouteValue → Option RouteValue) (es : Entries) (k : ℕ) → T (is_sorted prefix_cmp es) → k ≤ length es
    → first (λ (e : Entry). is_past (prefix_before es k) e.0) (map_entries f (take k es)) ≡ None
none_behind f es k h le = kept_none (is_past (prefix_before es k)) f (take k es) (none_before es k h le)

module _ (f : RouteValue → Option RouteValue) (es : Entries) (k : ℕ) (e : Entry) (t : Table) (at_k : slice_get es k ≡ Some e) (is : IsMidway f es k t) where
  split : entries t ≡ map_entries f (take k es) ++ e ∷ drop (k + 1) es
  split = is ∙ ap (λ l. map_entries f (take k es) ++ l) (drop_next es k e at_k)

  -- the table still has the entry that the walk has come to
  pub get-midway : map.get t e.0 ≡ Some e.1
  get-midway = get-middle (map_entries f (take k es)) (drop (k + 1) es) e.0 e.1 t split

  placed : (o : Option RouteValue) → entries (with_value t e.0 o) ≡ (map_entries f (take k es) ++ cons_option (option_map (λ y. (e.0, y)) o) []) ++ drop (k + 1) es
  placed None =
      entries-remove (map_entries f (take k es)) (drop (k + 1) es) e.0 e.1 t split
      ∙ ap (λ l. l ++ drop (k + 1) es) (sym (append-nil (map_entries f (take k es))))
  placed (Some y) =
      entries-replace (map_entries f (take k es)) (drop (k + 1) es) e.0 e.1 t split y
      ∙ sym (append_assoc (map_entries f (take k es)) ((e.0, y) ∷ []) (drop (k + 1) es))

  -- and is one entry further once f of it is in its place
  pub IsMidway-next : IsMidway f es (k + 1) (with_value t e.0 (f e.1))
  IsMidway-next =
      placed (f e.1)
      ∙ ap (λ l. l ++ drop (k + 1) es) (sym (ap (map_entries f) (take_next es k e at_k) ∙ filter_map-append (λ (x : Entry). option_map (λ y. (x.0, y)) (f x.1)) (take k es) (e ∷ [])))

-- at the end the whole table is mapped
pub midway_all : (f : RouteValue → Option RouteValue) (t u : Table) → IsMidway f (entries t) (length (entries t)) u → u ≡ map_values f t
midway_all f t u is =
    map.same_entries_map _ _ (
    is
    ∙ ap (λ l. map_entries f l ++ drop (length (entries t)) (entries t)) (take_all (length (entries t)) (entries t) (omega arith))
    ∙ ap (λ l. map_entries f (entries t) ++ l) (drop_of_length-le (entries t) (omega arith))
    ∙ append-nil _
    ∙ sym (entries-map_values f t)
    )
