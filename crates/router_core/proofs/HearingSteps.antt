-- Hearing entry by entry: what a loop over a Response's entries keeps.
use Rattle.std.proofs.Common.{◌≡◌, ℕ, zero, suc, ◌+◌, ◌<◌, ◌≤◌, Bool, true, false, cond, not, ◌&&◌, nat_lt, List, [], ◌∷◌, ◌++◌, map, take, length, filter, fold, count_by, Option, Some, None, is_some, is_none, slice_get, refl, ap, ap₂, sym, subst, ◌∙◌, arith, append_assoc, add-one, add-zero, add_assoc, is_eq}
use Rattle.std.specs.List.{enumerate_from}
use Rattle.std.specs.FinMap as map_of
use Rattle.std.specs.Ordering.{eq_by_cmp}
use Rattle.std.proofs.lemmas.Bool.{lt-ltb, eq-eqb}
use Rattle.std.specs.Cmp.{tied_itself}
use Rattle.std.proofs.lemmas.Bool.Decides.{nat_tests}
use Rattle.std.proofs.lemmas.List.{append-nil}
use Rattle.std.proofs.lemmas.List.Sums.{fold-append, fold_push}
use Rattle.std.proofs.lemmas.Map.Views.{tells_apart}
use Rattle.prefix6.specs.Prefix.{Prefix6, prefix_cmp, same_prefix}
use Rattle.prefix6.proofs.PrefixLaws.{prefixes_total, exact_prefixes, same_prefix-true}
use Rattle.ripng_wire.specs.declared.rte.Rte.{Rte}
use Rattle.route_table.specs.Route.{RouteValue}
use Rattle.route_table.specs.Table.{Table}
use Rattle.router_core.specs.Offers.{Offer, offers, offer_at, is_offer, prefix_named}
use Rattle.router_core.specs.Adoption.{adopted}
use Rattle.router_core.specs.Hearing.{Hearing, route_after, is_refused, would_add, held_after, would_bring, brought_after, held_by}

not_below : (n k : ℕ) → k ≤ n → nat_lt n k ≡ false
not_below n k h = grind (arith, nat_tests)

-- a filter of the places below a bound, one place on
module _ {X Y : Type 0} (test : ℕ × X → Bool) (make : ℕ × X → Y) (place_of : Y → ℕ) (at : (t : ℕ × X) → place_of (make t) ≡ t.0) (keep : Y → Bool) where
  picked : ℕ → List (ℕ × X) → List Y
  picked k ts = filter (λ y. nat_lt (place_of y) k && keep y) (map make (filter test ts))

  -- what one place gives
  given : ℕ × X → List Y
  given t = cond (test t && keep (make t)) (make t ∷ []) []

  none_yet : (n k : ℕ) (xs : List X) → k ≤ n → picked k (enumerate_from n xs) ≡ []
  unfolding picked
  none_yet n k [] h = refl
  none_yet n k (x ∷ xs) h =
      elim (test (n, x)) as (λ b. filter (λ y. nat_lt (place_of y) k && keep y) (map make (cond b ((n, x) ∷ filter test (enumerate_from (n + 1) xs)) (filter test (enumerate_from (n + 1) xs)))) ≡ []) [
        | true ↦ ap (λ b. cond (b && keep (make (n, x))) (make (n, x) ∷ picked k (enumerate_from (n + 1) xs)) (picked k (enumerate_from (n + 1) xs)))
            (ap (λ m. nat_lt m k) (at (n, x)) ∙ not_below n k h) ∙ none_yet (n + 1) k xs (omega arith)
        | false ↦ none_yet (n + 1) k xs (omega arith)
      ]

  at_front : (n k : ℕ) (x : X) (xs : List X) → n < k → picked k (enumerate_from n (x ∷ xs)) ≡ given (n, x) ++ picked k (enumerate_from (n + 1) xs)
  unfolding picked given
  at_front n k x xs h =
      elim (test (n, x)) as (λ b. filter (λ y. nat_lt (place_of y) k && keep y) (map make (cond b ((n, x) ∷ filter test (enumerate_from (n + 1) xs)) (filter test (enumerate_from (n + 1) xs))))
      ≡ cond (b && keep (make (n, x))) (make (n, x) ∷ []) [] ++ picked k (enumerate_from (n + 1) xs)) [
        | true ↦ ap (λ b. cond (b && keep (make (n, x))) (make (n, x) ∷ picked k (enumerate_from (n + 1) xs)) (picked k (enumerate_from (n + 1) xs)))
            (ap (λ m. nat_lt m k) (at (n, x)) ∙ lt-ltb n k h)
            ∙ split (keep (make (n, x)))
        | false ↦ refl
      ]
    where
      split : (b : Bool) → cond b (make (n, x) ∷ picked k (enumerate_from (n + 1) xs)) (picked k (enumerate_from (n + 1) xs)) ≡ cond b (make (n, x) ∷ []) [] ++ picked k (enumerate_from (n + 1) xs)
      split true = refl
      split false = refl

  one_more : (n i : ℕ) (xs : List X) (x : X) → slice_get xs i ≡ Some x
      → picked (n + i + 1) (enumerate_from n xs) ≡ picked (n + i) (enumerate_from n xs) ++ given (n + i, x)
  one_more n i [] x is = absurd (cc)
  one_more n zero (y ∷ xs) x is =
      let same : y ≡ x = cc in
      let e : n + 0 ≡ n = omega arith in
      at_front n (n + 0 + 1) y xs (omega arith)
      ∙ ap (λ rest. given (n, y) ++ rest) (none_yet (n + 1) (n + 0 + 1) xs (omega arith))
      ∙ append-nil (given (n, y))
      ∙ ap₂ (λ m z. given (m, z)) (sym e) same
      ∙ ap (λ front. front ++ given (n + 0, x)) (sym (none_yet n (n + 0) (y ∷ xs) (omega arith)))
  one_more n (suc i) (y ∷ xs) x is =
      let e : n + 1 + i ≡ n + suc i = omega arith in
      at_front n (n + suc i + 1) y xs (omega arith)
      ∙ ap (λ rest. given (n, y) ++ rest)
      (subst (λ m. picked (m + 1) (enumerate_from (n + 1) xs) ≡ picked m (enumerate_from (n + 1) xs) ++ given (m, x)) e (one_more (n + 1) i xs x is))
      ∙ sym (append_assoc (given (n, y)) (picked (n + suc i) (enumerate_from (n + 1) xs)) (given (n + suc i, x)))
      ∙ ap (λ front. front ++ given (n + suc i, x)) (sym (at_front n (n + suc i) y xs (omega arith)))

module _ (h : Hearing) where
  -- what the entry at a place makes of the route to a prefix
  abbrev pub heard_one : ℕ → Rte → Prefix6 → Option RouteValue → Option RouteValue
  heard_one place e p old =
      cond ((is_offer e && same_prefix (prefix_named e) p) && not (is_refused h place))
      (adopted h.gateway old (offer_at h.config h.gateway.from h.entries place e)) old

  pub before_all : (p : Prefix6) → route_after h 0 p ≡ map_of.get h.before p
  unfolding picked
  before_all p =
      ap (fold (adopted h.gateway) (map_of.get h.before p))
      (none_yet (λ t. is_offer t.1 && same_prefix (prefix_named t.1) p) (λ t. offer_at h.config h.gateway.from h.entries t.0 t.1) (λ o. o.place) (λ t. refl) (λ o. not (is_refused h o.place)) 0 0 h.entries (omega arith))

  -- one entry on
  pub after_one : (place : ℕ) (e : Rte) (p : Prefix6) → slice_get h.entries place ≡ Some e
      → route_after h (place + 1) p ≡ heard_one place e p (route_after h place p)
  unfolding picked given
  after_one place e p is =
      let z : 0 + place ≡ place = omega arith in
      let more = subst (λ m. filter (λ o. nat_lt o.place (m + 1) && not (is_refused h o.place)) (offers h.config h.gateway.from h.entries p)
      ≡ filter (λ o. nat_lt o.place m && not (is_refused h o.place)) (offers h.config h.gateway.from h.entries p)
      ++ cond ((is_offer e && same_prefix (prefix_named e) p) && not (is_refused h m)) (offer_at h.config h.gateway.from h.entries m e ∷ []) []) z
      (one_more (λ t. is_offer t.1 && same_prefix (prefix_named t.1) p) (λ t. offer_at h.config h.gateway.from h.entries t.0 t.1) (λ o. o.place) (λ t. refl) (λ o. not (is_refused h o.place)) 0 place h.entries e is) in
      ap (fold (adopted h.gateway) (map_of.get h.before p)) more
      ∙ fold-append (adopted h.gateway) (map_of.get h.before p)
      (filter (λ o. nat_lt o.place place && not (is_refused h o.place)) (offers h.config h.gateway.from h.entries p))
      (cond ((is_offer e && same_prefix (prefix_named e) p) && not (is_refused h place)) (offer_at h.config h.gateway.from h.entries place e ∷ []) [])
      ∙ by_test ((is_offer e && same_prefix (prefix_named e) p) && not (is_refused h place))
    where
      by_test : (b : Bool) → fold (adopted h.gateway) (route_after h place p) (cond b (offer_at h.config h.gateway.from h.entries place e ∷ []) [])
          ≡ cond b (adopted h.gateway (route_after h place p) (offer_at h.config h.gateway.from h.entries place e)) (route_after h place p)
      by_test true = refl
      by_test false = refl

-- ---- how many routes are held

same_answers : (a b : Bool) → (a ≡ true → b ≡ true) → (b ≡ true → a ≡ true) → a ≡ b
same_answers true b f g = sym (f refl)
same_answers false true f g = g refl
same_answers false false f g = refl

same_itself : (p : Prefix6) → same_prefix p p ≡ true
same_itself p = ap₂ (λ a b. a && b) (eq-eqb p.addr p.addr refl) (eq-eqb p.len p.len refl)

pub same_as_key : (p q : Prefix6) → same_prefix p q ≡ eq_by_cmp prefix_cmp q p
same_as_key p q =
    same_answers (same_prefix p q) (eq_by_cmp prefix_cmp q p)
    (λ e. subst (λ (r : Prefix6). eq_by_cmp prefix_cmp r p ≡ true) (same_prefix-true p q e) (ap is_eq (tied_itself prefixes_total p)))
    (λ e. subst (λ (r : Prefix6). same_prefix p r ≡ true) (sym (tells_apart exact_prefixes q p e)) (same_itself p))

pub at_place : {X : Type 0} (xs : List X) (i : ℕ) → i < length xs → (x : X) × (slice_get xs i ≡ Some x)
at_place [] i h = absurd (omega arith)
at_place (x ∷ xs) zero h = (x, refl)
at_place (x ∷ xs) (suc i) h = at_place xs i (omega arith)

pub numbered_at : {X : Type 0} (n : ℕ) (xs : List X) (i : ℕ) (x : X) → slice_get xs i ≡ Some x → slice_get (enumerate_from n xs) i ≡ Some (n + i, x)
numbered_at n [] i x is = absurd (cc)
numbered_at n (y ∷ xs) zero x is = let same : y ≡ x = cc in ap₂ (λ (m : ℕ) z. Some (m, z)) (omega arith) same
numbered_at n (y ∷ xs) (suc i) x is = numbered_at (n + 1) xs i x is ∙ ap (λ (m : ℕ). Some (m, x)) (omega arith)

pub take_push : {X : Type 0} (xs : List X) (i : ℕ) (x : X) → slice_get xs i ≡ Some x → take (suc i) xs ≡ take i xs ++ x ∷ []
take_push [] i x is = absurd (cc)
take_push (y ∷ xs) zero x is = let same : y ≡ x = cc in ap (λ z. z ∷ []) same
take_push (y ∷ xs) (suc i) x is = ap (λ rest. y ∷ rest) (take_push xs i x is)

-- some routes, and one more for each of the first entries that pass a test
counted_more : (n : ℕ) (test : ℕ × Rte → Bool) (entries : List Rte) (place : ℕ) (e : Rte) → slice_get entries place ≡ Some e
    → n + count_by test (take (place + 1) (enumerate_from 0 entries)) ≡ n + count_by test (take place (enumerate_from 0 entries)) + cond (test (place, e)) 1 0
counted_more n test entries place e is =
    ap (λ m. n + m)
    (ap (λ k. count_by test (take k (enumerate_from 0 entries))) (add-one place)
    ∙ ap (count_by test) (take_push (enumerate_from 0 entries) place (place, e) here)
    ∙ fold_push (λ a t. a + cond (test t) 1 0) 0 (take place (enumerate_from 0 entries)) (place, e))
    ∙ sym (add_assoc n (count_by test (take place (enumerate_from 0 entries))) (cond (test (place, e)) 1 0))
  where
    here : slice_get (enumerate_from 0 entries) place ≡ Some (place, e)
    here = numbered_at 0 entries place e is ∙ ap (λ (m : ℕ). Some (m, e)) (omega arith)

module _ (h : Hearing) where
  held_more : (place : ℕ) (e : Rte) → slice_get h.entries place ≡ Some e
      → held_after h (place + 1) ≡ held_after h place + cond (would_add h place e && not (is_refused h place)) 1 0
  held_more place e is = counted_more (map_of.len h.before) (λ t. would_add h t.0 t.1 && not (is_refused h t.0)) h.entries place e is

  -- the routes by way of the interface, one entry on
  pub brought_more : (place : ℕ) (e : Rte) → slice_get h.entries place ≡ Some e
      → brought_after h (place + 1) ≡ brought_after h place + cond (would_bring h place e && not (is_refused h place)) 1 0
  brought_more place e is = counted_more (held_by h.gateway.iface h.before) (λ t. would_bring h t.0 t.1 && not (is_refused h t.0)) h.entries place e is

  -- a table that has at each prefix what is heard so far, and as many routes as are said to be held
  abbrev pub TableAfter : ℕ → Type 0
  TableAfter place = (t : Table) × ((p : Prefix6) → map_of.get t p ≡ route_after h place p) × (map_of.len t ≡ held_after h place)

  module _ (place : ℕ) (e : Rte) (is : slice_get h.entries place ≡ Some e) (before : TableAfter place) where
    abbrev named : Prefix6
    named = prefix_named e

    unchanged : ((p : Prefix6) → heard_one h place e p (route_after h place p) ≡ route_after h place p)
        → (would_add h place e && not (is_refused h place)) ≡ false → TableAfter (place + 1)
    unchanged same none = (
      before.0,
      λ p. before.1 p ∙ sym (same p) ∙ sym (after_one h place e p is),
      before.2 ∙ sym (held_more place e is ∙ ap (λ b. held_after h place + cond b 1 0) none ∙ add-zero (held_after h place)),
    )

    put : (v : RouteValue) (known : Bool) → is_some (route_after h place named) ≡ known
        → ((p : Prefix6) → heard_one h place e p (route_after h place p) ≡ cond (same_prefix named p) (Some v) (route_after h place p))
        → (would_add h place e && not (is_refused h place)) ≡ not known → TableAfter (place + 1)
    put v known has same more = (
      map_of.insert before.0 named v,
      λ p. map_of.get-insert prefixes_total before.0 named v p
          ∙ ap₂ (λ b o. cond b (Some v) o) (sym (same_as_key named p)) (before.1 p)
          ∙ sym (same p) ∙ sym (after_one h place e p is),
      map_of.len-insert prefixes_total before.0 named v
          ∙ ap₂ (λ b n. cond b n (n + 1)) (ap is_some (before.1 named) ∙ has) before.2
          ∙ grown known
          ∙ sym (held_more place e is ∙ ap (λ b. held_after h place + cond b 1 0) more),
    )
      where
        grown : (b : Bool) → cond b (held_after h place) (held_after h place + 1) ≡ held_after h place + cond (not b) 1 0
        grown true = sym (add-zero (held_after h place))
        grown false = refl

    abbrev offer_here : Offer
    offer_here = offer_at h.config h.gateway.from h.entries place e

    -- what an offer that is not refused makes of the route to each prefix
    at_offer : is_offer e ≡ true → is_refused h place ≡ false → (new : Option RouteValue) → adopted h.gateway (route_after h place named) offer_here ≡ new
        → (p : Prefix6) → heard_one h place e p (route_after h place p) ≡ cond (same_prefix named p) new (route_after h place p)
    at_offer o r new becomes p =
        ap₂ (λ a b. cond ((a && same_prefix named p) && not b) (adopted h.gateway (route_after h place p) offer_here) (route_after h place p)) o r
        ∙ by_same (same_prefix named p) refl
      where
        by_same : (s : Bool) → same_prefix named p ≡ s → cond (s && true) (adopted h.gateway (route_after h place p) offer_here) (route_after h place p) ≡ cond s new (route_after h place p)
        by_same true same = subst (λ (q : Prefix6). adopted h.gateway (route_after h place q) offer_here ≡ new) (same_prefix-true named p same) becomes
        by_same false same = refl

    -- and where it makes nothing new
    nothing_new : (p : Prefix6) → cond (same_prefix named p) (route_after h place named) (route_after h place p) ≡ route_after h place p
    nothing_new p = by_same (same_prefix named p) refl
      where
        by_same : (s : Bool) → same_prefix named p ≡ s → cond s (route_after h place named) (route_after h place p) ≡ route_after h place p
        by_same true same = ap (route_after h place) (same_prefix-true named p same)
        by_same false same = refl

    and_false : (b : Bool) → (b && false) ≡ false
    and_false true = refl
    and_false false = refl

    added : (old new : Option RouteValue) → is_offer e ≡ true → is_refused h place ≡ false → route_after h place named ≡ old
        → adopted h.gateway None offer_here ≡ new → (would_add h place e && not (is_refused h place)) ≡ (is_none old && is_some new && true)
    added old new o r was first =
        ap₂ (λ a b. (a && is_none (route_after h place named) && is_some (adopted h.gateway None offer_here)) && not b) o r
        ∙ ap₂ (λ a b. is_none a && is_some b && true) was first

    -- by whether the entry is an offer, whether it is refused, the route before and the route after
    by_case : (offer refused : Bool) (old new : Option RouteValue)
        → is_offer e ≡ offer → is_refused h place ≡ refused → route_after h place named ≡ old
        → adopted h.gateway old (offer_at h.config h.gateway.from h.entries place e) ≡ new → TableAfter (place + 1)
    by_case false refused old new o r was is' =
        unchanged (λ p. ap (λ b. cond ((b && same_prefix named p) && not (is_refused h place)) (adopted h.gateway (route_after h place p) (offer_at h.config h.gateway.from h.entries place e)) (route_after h place p)) o)
        (ap (λ b. (b && is_none (route_after h place named) && is_some (adopted h.gateway None (offer_at h.config h.gateway.from h.entries place e))) && not (is_refused h place)) o)
    by_case true true old new o r was is' =
        unchanged
        (λ p. ap (λ b. cond ((is_offer e && same_prefix named p) && not b) (adopted h.gateway (route_after h place p) offer_here) (route_after h place p)) r
        ∙ ap (λ b. cond b (adopted h.gateway (route_after h place p) offer_here) (route_after h place p)) (and_false (is_offer e && same_prefix named p)))
        (ap (λ b. would_add h place e && not b) r ∙ and_false (would_add h place e))
    by_case true false None None o r was is' =
        unchanged
        (λ p. at_offer o r (route_after h place named) (ap (λ a. adopted h.gateway a offer_here) was ∙ is' ∙ sym was) p ∙ nothing_new p)
        (added None None o r was is')
    by_case true false None (Some v) o r was is' =
        put v false (ap is_some was) (at_offer o r (Some v) (ap (λ a. adopted h.gateway a offer_here) was ∙ is')) (added None (Some v) o r was is')
    by_case true false (Some w) None o r was is' = absurd (cc)
    by_case true false (Some w) (Some v) o r was is' =
        put v true (ap is_some was) (at_offer o r (Some v) (ap (λ a. adopted h.gateway a offer_here) was ∙ is'))
        (added (Some w) (adopted h.gateway None offer_here) o r was refl)

  pub table_after : (place : ℕ) → place ≤ length h.entries → TableAfter place
  table_after zero fits = (h.before, λ p. sym (before_all h p), sym (add-zero (map_of.len h.before)))
  table_after (suc place) fits =
      let entry : (e : Rte) × (slice_get h.entries place ≡ Some e) = at_place h.entries place (omega arith) in
      subst TableAfter (add-one place)
      (by_case place entry.0 entry.1 (table_after place (omega arith)) (is_offer entry.0) (is_refused h place)
      (route_after h place (prefix_named entry.0)) (adopted h.gateway (route_after h place (prefix_named entry.0)) (offer_at h.config h.gateway.from h.entries place entry.0)) refl refl refl refl)

  -- every table that is as heard so far holds as many routes
  pub size_after : (place : ℕ) → place ≤ length h.entries → (t : Table) → ((p : Prefix6) → map_of.get t p ≡ route_after h place p) → map_of.len t ≡ held_after h place
  size_after place fits t same =
      let made = table_after place fits in
      ap map_of.len (map_of.same_map prefixes_total exact_prefixes t made.0 (λ p. same p ∙ sym (made.1 p))) ∙ made.2
