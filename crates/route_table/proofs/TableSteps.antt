-- What a map by prefixes has, and how many, after a value is added, replaced or removed.
use Rattle.std.proofs.Common.{◌≡◌, ◌+◌, ◌-◌, ◌<◌, Bool, true, false, cond, T, List, [], ◌∷◌, ◌++◌, Option, Some, None, is_some, option_and_then, IsSome, length, take, drop, add-one, length-append, refl, ap, sym, subst, ◌∙◌, arith}
use Rattle.std.specs.FinMap as map
use Rattle.std.specs.FinMap.Entries.{find, put, by_order}
use Rattle.std.specs.Ordering.{is_eq, eq_by_cmp}
use Rattle.std.specs.Cmp.{tied_itself}
use Rattle.std.specs.declared.cmp.Ordering.{Ordering}
use Rattle.std.specs.declared.cmp.Ordering.TheVariants.{Less, Equal, Greater}
use Rattle.std.proofs.lemmas.Map.Views.{tells_apart}
use Rattle.std.specs.FinMap.{is_sorted}
use Rattle.std.specs.List.{remove}
use Rattle.std.proofs.Math.Seq.{get_or-append_seam, set-append_seam, take-append_seam, drop-append-add}
use Rattle.prefix6.specs.Prefix.{Prefix6, prefix_cmp}
use Rattle.prefix6.proofs.PrefixLaws.{prefixes_total, exact_prefixes}
use Rattle.prefix6.specs.Places.{IsAt}
use Rattle.route_table.specs.Route.{RouteValue}
use Rattle.route_table.specs.Table.{ByPrefix, Table, map_values, with_value}
use Rattle.prefix6.proofs.SortedEntries.{find_at, put_at, where_at}
use Rattle.route_table.proofs.SortedTable.{sorted_without, table_without}
use Rattle.route_table.proofs.TableLaws.{None-Some, Some-same, get-map_values}

tie_itself : (p : Prefix6) → eq_by_cmp prefix_cmp p p ≡ true
tie_itself p = tied p
  where
    tied : (q : Prefix6) → eq_by_cmp prefix_cmp q q ≡ true
    tied q = ap is_eq (tied_itself prefixes_total q)

tie_other : (p q : Prefix6) → ¬ (q ≡ p) → eq_by_cmp prefix_cmp q p ≡ false
tie_other p q apart = by_tie (eq_by_cmp prefix_cmp q p) refl
  where
    by_tie : (b : Bool) → eq_by_cmp prefix_cmp q p ≡ b → b ≡ false
    by_tie true tie = absurd (apart (tells_apart exact_prefixes q p tie))
    by_tie false tie = refl

module _ {X : Type 0} where
  -- ---- what it has at a prefix
  pub get-with_value : (m : ByPrefix X) (p : Prefix6) (o : Option X) (q : Prefix6) → map.get (with_value m p o) q ≡ cond (eq_by_cmp prefix_cmp q p) o (map.get m q)
  get-with_value m p None q = map.get-remove prefixes_total m p q
  get-with_value m p (Some x) q = map.get-insert prefixes_total m p x q

  -- at the prefix itself
  pub get-with_value_here : (m : ByPrefix X) (p : Prefix6) (o : Option X) → map.get (with_value m p o) p ≡ o
  get-with_value_here m p o = get-with_value m p o p ∙ ap (λ b. cond b o (map.get m p)) (tie_itself p)

  -- at another prefix
  pub get-with_value_elsewhere : (m : ByPrefix X) (p : Prefix6) (o : Option X) (q : Prefix6) → ¬ (q ≡ p) → map.get (with_value m p o) q ≡ map.get m q
  get-with_value_elsewhere m p o q apart = get-with_value m p o q ∙ ap (λ b. cond b o (map.get m q)) (tie_other p q apart)

  -- to put back what is there changes nothing
  pub with_value-same : (m : ByPrefix X) (p : Prefix6) (o : Option X) → map.get m p ≡ o → with_value m p o ≡ m
  with_value-same m p o is = map.same_map prefixes_total exact_prefixes _ _ (λ q. get-with_value m p o q ∙ by_tie q (eq_by_cmp prefix_cmp q p) refl)
    where
      by_tie : (q : Prefix6) (b : Bool) → eq_by_cmp prefix_cmp q p ≡ b → cond b o (map.get m q) ≡ map.get m q
      by_tie q true tie = sym is ∙ ap (map.get m) (sym (tells_apart exact_prefixes q p tie))
      by_tie q false tie = refl

  -- ---- how many it has
  pub len-add : (m : ByPrefix X) (p : Prefix6) (x : X) → map.get m p ≡ None → map.len (map.insert m p x) ≡ map.len m + 1
  len-add m p x none = map.len-insert prefixes_total m p x ∙ ap (λ o. cond (is_some o) (map.len m) (map.len m + 1)) none

  pub len-replace : (m : ByPrefix X) (p : Prefix6) (x : X) → IsSome (map.get m p) → map.len (map.insert m p x) ≡ map.len m
  len-replace m p x some = map.len-insert prefixes_total m p x ∙ ap (λ b. cond b (map.len m) (map.len m + 1)) some

  not_empty : (es : List (Prefix6 × X)) (p : Prefix6) → IsSome (find prefix_cmp p es) → 0 < length es
  not_empty [] p some = absurd (cc)
  not_empty (e ∷ es) p some = omega arith

  pub len-remove : (m : ByPrefix X) (p : Prefix6) → IsSome (map.get m p) → map.len (map.remove m p) + 1 ≡ map.len m
  len-remove m p some =
      let positive : 0 < length (map.entries m) = not_empty (map.entries m) p (subst IsSome (map.get-entries m p) some) in
      let less : map.len (map.remove m p) ≡ map.len m - 1 = map.len-remove prefixes_total m p ∙ ap (λ b. cond b (map.len m - 1) (map.len m)) some in
      omega (arith, map.len-entries m)

  -- ---- its entries
  -- the entries around that of a prefix
  pub record HasEntry (es : List (Prefix6 × X)) (p : Prefix6) (x : X) : Type 0 where
    pub front : List (Prefix6 × X)
    pub rest : List (Prefix6 × X)
    pub parts : es ≡ front ++ (p, x) ∷ rest

  pub entry_found : (es : List (Prefix6 × X)) (p : Prefix6) (x : X) → find prefix_cmp p es ≡ Some x → HasEntry es p x
  entry_found [] p x here = absurd (None-Some x here)
  entry_found (e ∷ es) p x here = by_tie (eq_by_cmp prefix_cmp p e.0) refl here (entry_found es p x)
    where
      by_tie : (b : Bool) → eq_by_cmp prefix_cmp p e.0 ≡ b → cond b (Some e.1) (find prefix_cmp p es) ≡ Some x
          → (find prefix_cmp p es ≡ Some x → HasEntry es p x) → HasEntry (e ∷ es) p x
      by_tie true tie is later = record {
        front = [];
        rest = es;
        parts = λ i. (sym (tells_apart exact_prefixes p e.0 tie) i, Some-same e.1 x is i) ∷ es;
      }
      by_tie false tie is later = let h = later is in record { front = e ∷ h.front; rest = h.rest; parts = ap (λ l. e ∷ l) h.parts }

  -- a prefix that a map has is among its entries
  pub entry_of_get : (m : ByPrefix X) (p : Prefix6) (x : X) → map.get m p ≡ Some x → HasEntry (map.entries m) p x
  entry_of_get m p x here = entry_found (map.entries m) p x (sym (map.get-entries m p) ∙ here)

  -- the entries before and after the place of a prefix that is absent
  pub record HasGap (m : ByPrefix X) (p : Prefix6) : Type 0 where
    pub front : List (Prefix6 × X)
    pub rest : List (Prefix6 × X)
    pub parts : map.entries m ≡ front ++ rest
    pub added : (x : X) → map.entries (map.insert m p x) ≡ front ++ (p, x) ∷ rest

  record PutsAt (es : List (Prefix6 × X)) (p : Prefix6) : Type 0 where
    front : List (Prefix6 × X)
    rest : List (Prefix6 × X)
    parts : es ≡ front ++ rest
    placed : (x : X) → put prefix_cmp p x es ≡ front ++ (p, x) ∷ rest

  place_of : (es : List (Prefix6 × X)) (p : Prefix6) → find prefix_cmp p es ≡ None → PutsAt es p
  place_of [] p none = record { front = []; rest = []; parts = refl; placed = λ x. refl }
  place_of (e ∷ es) p none = by_rank (prefix_cmp p e.0) refl none (place_of es p)
    where
      by_rank : (r : Ordering) → prefix_cmp p e.0 ≡ r → cond (is_eq r) (Some e.1) (find prefix_cmp p es) ≡ None
          → (find prefix_cmp p es ≡ None → PutsAt es p) → PutsAt (e ∷ es) p
      by_rank Less is missing later = record {
        front = [];
        rest = e ∷ es;
        parts = refl;
        placed = λ x. ap (λ r. by_order r ((p, x) ∷ e ∷ es) ((e.0, x) ∷ es) (e ∷ put prefix_cmp p x es)) is;
      }
      by_rank Equal is missing later = absurd (None-Some e.1 (sym missing))
      by_rank Greater is missing later =
          let h = later missing in
          record {
            front = e ∷ h.front;
            rest = h.rest;
            parts = ap (λ l. e ∷ l) h.parts;
            placed = λ x. ap (λ r. by_order r ((p, x) ∷ e ∷ es) ((e.0, x) ∷ es) (e ∷ put prefix_cmp p x es)) is ∙ ap (λ l. e ∷ l) (h.placed x);
          }

  -- the entries after a value is added
  pub entries-add : (m : ByPrefix X) (p : Prefix6) → map.get m p ≡ None → HasGap m p
  entries-add m p none =
      let h = place_of (map.entries m) p (sym (map.get-entries m p) ∙ none) in
      record { front = h.front; rest = h.rest; parts = h.parts; added = λ x. map.entries-insert prefixes_total m p x ∙ h.placed x }

-- ---- the entries after a route in the middle is replaced or removed
module _ (front rest : List (Prefix6 × RouteValue)) (p : Prefix6) (r : RouteValue) (t : Table) (is : map.entries t ≡ front ++ (p, r) ∷ rest) where
  sorted_now : T (is_sorted prefix_cmp (front ++ (p, r) ∷ rest))
  sorted_now = subst (λ l. T (is_sorted prefix_cmp l)) is (map.entries_sorted t)

  here : IsAt (front ++ (p, r) ∷ rest) p (length front)
  here = record {
    in_range = simp length-append (omega arith);
    has_prefix = λ d. ap (λ (e : Prefix6 × RouteValue). e.0) (get_or-append_seam front (p, r) rest d);
  }

  pub get-middle : map.get t p ≡ Some r
  get-middle =
      map.get-entries t p ∙ ap (find prefix_cmp p) is ∙ find_at _ p (length front) (p, r) sorted_now here
      ∙ ap (λ (e : Prefix6 × RouteValue). Some e.1) (get_or-append_seam front (p, r) rest (p, r))

  pub entries-replace : (new : RouteValue) → map.entries (map.insert t p new) ≡ front ++ (p, new) ∷ rest
  entries-replace new =
      map.entries-insert prefixes_total t p new ∙ ap (put prefix_cmp p new) is
      ∙ put_at _ p new (length front) sorted_now here ∙ set-append_seam front (p, r) rest (p, new)

  itself : map.from_sorted (front ++ (p, r) ∷ rest) ≡ t
  itself = map.same_entries_map _ _ (map.entries-from_sorted prefix_cmp _ sorted_now ∙ sym is)

  pub entries-remove : map.entries (map.remove t p) ≡ front ++ rest
  entries-remove =
      let w = where_at _ p (length front) sorted_now here ∙ seam in
      ap map.entries (sym (table_without _ sorted_now t itself p (front ++ rest) w))
      ∙ map.entries-from_sorted prefix_cmp (front ++ rest) (sorted_without _ sorted_now t itself p (front ++ rest) w)
    where
      seam : remove (front ++ (p, r) ∷ rest) (length front) ≡ front ++ rest
      seam =
          ap (λ n. take (length front) (front ++ (p, r) ∷ rest) ++ drop n (front ++ (p, r) ∷ rest)) (sym (add-one (length front)))
          ∙ ap (λ l. l ++ drop (length front + 1) (front ++ (p, r) ∷ rest)) (take-append_seam front ((p, r) ∷ rest))
          ∙ ap (λ l. front ++ l) (drop-append-add front ((p, r) ∷ rest) 1)

-- f of each value, after one value is put in place or taken out
pub map_values-with_value : {X Y : Type 0} (f : X → Option Y) (m : ByPrefix X) (p : Prefix6) (o : Option X) → map_values f (with_value m p o) ≡ with_value (map_values f m) p (option_and_then f o)
map_values-with_value {X = X} f m p o =
    map.same_map prefixes_total exact_prefixes _ _ (λ q.
    get-map_values f (with_value m p o) q ∙ ap (option_and_then f) (get-with_value m p o q) ∙ inside (eq_by_cmp prefix_cmp q p) (map.get m q)
    ∙ ap (cond (eq_by_cmp prefix_cmp q p) (option_and_then f o)) (sym (get-map_values f m q)) ∙ sym (get-with_value (map_values f m) p (option_and_then f o) q))
  where
    inside : (b : Bool) (other : Option X) → option_and_then f (cond b o other) ≡ cond b (option_and_then f o) (option_and_then f other)
    inside true other = refl
    inside false other = refl
