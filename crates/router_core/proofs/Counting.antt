-- How many routes a table holds by way of an interface: what a value that is put adds, and that a Response counts them right.
use Rattle.std.proofs.Common.{◌≡◌, ℕ, zero, suc, ◌+◌, ◌<◌, ◌≤◌, Bool, true, false, cond, not, ◌&&◌, ◌||◌, nat_lt, List, [], ◌∷◌, ◌++◌, length, fold, count_by, Contains, Option, Some, None, is_none, slice_get, refl, ap, ap₂, sym, subst, ◌∙◌, arith, add-zero, add-one}
use Rattle.std.specs.Prelude.{nat_le, if◌then◌else◌}
use Rattle.std.specs.FinMap as map_of
use Rattle.std.proofs.lemmas.Bool.{eq-eqb}
use Rattle.std.proofs.lemmas.Bool.Decides.{nat_tests}
use Rattle.std.proofs.lemmas.List.Sums.{fold-append}
use Rattle.prefix6.specs.Prefix.{Prefix6, same_prefix}
use Rattle.prefix6.proofs.PrefixLaws.{prefixes_total, exact_prefixes, same_prefix-true}
use Rattle.ripng_wire.specs.declared.rte.Rte.{Rte}
use Rattle.ripng_wire.specs.Layout.{is_next_hop}
use Rattle.ripng_wire.specs.Wire.{first_reason}
use Rattle.route_table.specs.Route.{RouteValue, infinity}
use Rattle.route_table.specs.Table.{Table}
use Rattle.route_table.specs.declared.route.Clock.{Clock}
use Rattle.route_table.specs.declared.route.Clock.TheVariants.{Fixed, Live, Dying}
use Rattle.route_table.proofs.TableSteps.{entries-add, entries-replace, entry_of_get}
use Rattle.router_core.specs.Adoption.{Gateway, adopted, adopted_by_clock, is_preferred, is_reachable, is_repeated, is_through, lost, metric_through, refreshed, taken}
use Rattle.router_core.specs.Filters.{is_accepted, is_by, is_limit_reached, limit_at}
use Rattle.router_core.specs.Hearing.{Hearing, Heard, allowed_notes, brought_after, held_by, is_refusal, is_refused, note_at, notes_by_refusal, notes_of_offer, refusal_at, route_after, would_bring}
use Rattle.router_core.specs.Offers.{Offer, flaw, offer_at, is_offer, prefix_named}
use Rattle.router_core.specs.Output.{is_learned_on}
use Rattle.router_core.specs.declared.answer.NoteKind.{NoteKind}
use Rattle.router_core.specs.declared.answer.NoteKind.TheVariants.{NotAccepted, LimitReached}
use Rattle.router_core.proofs.HearingSteps.{after_one, at_place, before_all, brought_more, heard_one, same_as_key, table_after}

module _ (iface : ℕ) where
  abbrev is_here : Prefix6 × RouteValue → Bool
  is_here t = is_learned_on iface t.1.origin

  -- a count that begins later
  shifted : (n : ℕ) (xs : List (Prefix6 × RouteValue)) → fold (λ a t. a + cond (is_here t) 1 0) n xs ≡ n + count_by is_here xs
  shifted n [] = sym (add-zero n)
  shifted n (x ∷ xs) = omega (arith, shifted (n + cond (is_here x) 1 0) xs, shifted (0 + cond (is_here x) 1 0) xs)

  count-append : (xs ys : List (Prefix6 × RouteValue)) → count_by is_here (xs ++ ys) ≡ count_by is_here xs + count_by is_here ys
  count-append xs ys = fold-append (λ a t. a + cond (is_here t) 1 0) 0 xs ys ∙ shifted (count_by is_here xs) ys

  -- an entry in the middle
  count-middle : (xs : List (Prefix6 × RouteValue)) (e : Prefix6 × RouteValue) (ys : List (Prefix6 × RouteValue))
      → count_by is_here (xs ++ e ∷ ys) ≡ count_by is_here (xs ++ ys) + cond (is_here e) 1 0
  count-middle xs e ys = omega (arith, count-append xs (e ∷ ys), shifted (0 + cond (is_here e) 1 0) ys, count-append xs ys)

  -- a first route to a prefix
  pub held_by-add : (t : Table) (p : Prefix6) (r : RouteValue) → map_of.get t p ≡ None
      → held_by iface (map_of.insert t p r) ≡ held_by iface t + cond (is_learned_on iface r.origin) 1 0
  held_by-add t p r none =
      let gap = entries-add t p none in
      ap (count_by is_here) (gap.added r) ∙ count-middle gap.front (p, r) gap.rest
      ∙ ap (λ es. count_by is_here es + cond (is_learned_on iface r.origin) 1 0) (sym gap.parts)

  -- another route in place of one
  pub held_by-replace : (t : Table) (p : Prefix6) (old new : RouteValue) → map_of.get t p ≡ Some old
      → held_by iface (map_of.insert t p new) + cond (is_learned_on iface old.origin) 1 0 ≡ held_by iface t + cond (is_learned_on iface new.origin) 1 0
  held_by-replace t p old new there =
      let at = entry_of_get t p old there in
      let before : held_by iface t ≡ count_by is_here (at.front ++ at.rest) + cond (is_learned_on iface old.origin) 1 0 = ap (count_by is_here) at.parts ∙ count-middle at.front (p, old) at.rest in
      let after : held_by iface (map_of.insert t p new) ≡ count_by is_here (at.front ++ at.rest) + cond (is_learned_on iface new.origin) 1 0 =
      ap (count_by is_here) (entries-replace at.front at.rest p old t at.parts new) ∙ count-middle at.front (p, new) at.rest in
      omega (arith, before, after)

-- ---- an offer takes no route away from its interface
module _ (g : Gateway) (o : Offer) where
  abbrev IsHere : RouteValue → Type 0
  IsHere r = is_learned_on g.iface r.origin ≡ true

  chosen : (b : Bool) (x y : RouteValue) → IsHere x → IsHere y → IsHere (cond b x y)
  chosen true x y here there = here
  chosen false x y here there = there

  mine : IsHere (taken g o)
  mine = eq-eqb g.iface g.iface refl

  stays : (r : RouteValue) → IsHere r → (c : Clock) → IsHere (adopted_by_clock g o r c)
  stays r here Fixed = here
  stays r here (Live until) =
      chosen (is_through g r.origin) (refreshed g o r) (cond (is_preferred g o r.metric until) (taken g o) r)
      (chosen (is_reachable (metric_through g o)) (record (taken g o) { changed = r.changed || not (is_repeated g o r) }) (lost g.moment r) mine here)
      (chosen (is_preferred g o r.metric until) (taken g o) r mine here)
  stays r here (Dying until) = chosen (is_reachable (metric_through g o)) (taken g o) r mine here

-- ---- a Response counts right

-- a route in place of another, which is there if that was
grown : (w v : Bool) (held more : ℕ) → (w ≡ true → v ≡ true) → more + cond w 1 0 ≡ held + cond v 1 0 → more ≡ held + cond (not w && v) 1 0
grown true true held more up e = omega (arith, e)
grown true false held more up e = absurd (not_so (up refl))
  where
    not_so : false ≡ true → ⊥
    not_so s = cc
grown false v held more up e = omega (arith, e)

module _ (h : Hearing) where
  abbrev Counts : ℕ → Type 0
  Counts place = (t : Table) → ((p : Prefix6) → map_of.get t p ≡ route_after h place p) → held_by h.gateway.iface t ≡ brought_after h place

  module _ (place : ℕ) (e : Rte) (is : slice_get h.entries place ≡ Some e) (fits : place ≤ length h.entries) (before : Counts place)
      (t : Table) (after : (p : Prefix6) → map_of.get t p ≡ route_after h (place + 1) p) where
    abbrev named : Prefix6
    named = prefix_named e

    abbrev offered : Offer
    offered = offer_at h.config h.gateway.from h.entries place e

    abbrev was : Table
    was = (table_after h place fits).0

    was_at : (p : Prefix6) → map_of.get was p ≡ route_after h place p
    was_at = (table_after h place fits).1

    held_was : held_by h.gateway.iface was ≡ brought_after h place
    held_was = before was was_at

    -- the table is what it was where each route is
    same_table : ((p : Prefix6) → heard_one h place e p (route_after h place p) ≡ route_after h place p) → t ≡ was
    same_table same = map_of.same_map prefixes_total exact_prefixes t was (λ p. after p ∙ after_one h place e p is ∙ same p ∙ sym (was_at p))

    -- and has the new route where one is put
    put_table : (v : RouteValue) → ((p : Prefix6) → heard_one h place e p (route_after h place p) ≡ cond (same_prefix named p) (Some v) (route_after h place p)) → t ≡ map_of.insert was named v
    put_table v puts = map_of.same_map prefixes_total exact_prefixes t (map_of.insert was named v)
        (λ p. after p ∙ after_one h place e p is ∙ puts p
        ∙ ap₂ (λ b r. cond b (Some v) r) (same_as_key named p) (sym (was_at p))
        ∙ sym (map_of.get-insert prefixes_total was named v p))

    -- so many more are held
    by_more : (b : Bool) → (would_bring h place e && not (is_refused h place)) ≡ b → held_by h.gateway.iface t ≡ brought_after h place + cond b 1 0
        → held_by h.gateway.iface t ≡ brought_after h (place + 1)
    by_more b brings held = held ∙ ap (λ c. brought_after h place + cond c 1 0) (sym brings) ∙ sym (brought_more h place e is)

    stays_same : ((p : Prefix6) → heard_one h place e p (route_after h place p) ≡ route_after h place p) → (would_bring h place e && not (is_refused h place)) ≡ false
        → held_by h.gateway.iface t ≡ brought_after h (place + 1)
    stays_same same none = by_more false none (ap (held_by h.gateway.iface) (same_table same) ∙ held_was ∙ sym (add-zero (brought_after h place)))

    and_false : (b : Bool) → (b && false) ≡ false
    and_false true = refl
    and_false false = refl

    module _ (o : is_offer e ≡ true) (r : is_refused h place ≡ false) where
      -- what the offer makes of each route
      makes : (new : Option RouteValue) → adopted h.gateway (route_after h place named) offered ≡ new
          → (p : Prefix6) → heard_one h place e p (route_after h place p) ≡ cond (same_prefix named p) new (route_after h place p)
      makes new becomes p =
          ap₂ (λ a b. cond ((a && same_prefix named p) && not b) (adopted h.gateway (route_after h place p) offered) (route_after h place p)) o r
          ∙ by_same (same_prefix named p) refl
        where
          by_same : (s : Bool) → same_prefix named p ≡ s → cond (s && true) (adopted h.gateway (route_after h place p) offered) (route_after h place p) ≡ cond s new (route_after h place p)
          by_same true same = subst (λ (q : Prefix6). adopted h.gateway (route_after h place q) offered ≡ new) (same_prefix-true named p same) becomes
          by_same false same = refl

      brings : (old new : Option RouteValue) → route_after h place named ≡ old → adopted h.gateway old offered ≡ new
          → (would_bring h place e && not (is_refused h place)) ≡ (not (is_by h.gateway.iface old) && is_by h.gateway.iface new)
      brings old new was_old becomes =
          ap₂ (λ a b. (a && not (is_by h.gateway.iface (route_after h place named)) && is_by h.gateway.iface (adopted h.gateway (route_after h place named) offered)) && not b) o r
          ∙ ap (λ x. (not (is_by h.gateway.iface x) && is_by h.gateway.iface (adopted h.gateway x offered)) && true) was_old
          ∙ ap (λ x. (not (is_by h.gateway.iface old) && is_by h.gateway.iface x) && true) becomes
          ∙ and_true (not (is_by h.gateway.iface old) && is_by h.gateway.iface new)
        where
          and_true : (b : Bool) → (b && true) ≡ b
          and_true true = refl
          and_true false = refl

      by_routes : (old new : Option RouteValue) → route_after h place named ≡ old → adopted h.gateway old offered ≡ new → held_by h.gateway.iface t ≡ brought_after h (place + 1)
      by_routes None None was_old becomes = stays_same nothing (brings None None was_old becomes)
        where
          nothing : (p : Prefix6) → heard_one h place e p (route_after h place p) ≡ route_after h place p
          nothing p = makes None (ap (λ x. adopted h.gateway x offered) was_old ∙ becomes) p ∙ by_same (same_prefix named p) refl
            where
              by_same : (s : Bool) → same_prefix named p ≡ s → cond s None (route_after h place p) ≡ route_after h place p
              by_same true same = sym was_old ∙ ap (route_after h place) (same_prefix-true named p same)
              by_same false same = refl
      by_routes None (Some v) was_old becomes =
          by_more (is_learned_on h.gateway.iface v.origin) (brings None (Some v) was_old becomes)
          (ap (held_by h.gateway.iface) (put_table v (makes (Some v) (ap (λ x. adopted h.gateway x offered) was_old ∙ becomes)))
          ∙ held_by-add h.gateway.iface was named v (was_at named ∙ was_old)
          ∙ ap (λ n. n + cond (is_learned_on h.gateway.iface v.origin) 1 0) held_was)
      by_routes (Some w) None was_old becomes = absurd (cc)
      by_routes (Some w) (Some v) was_old becomes =
          by_more (not (is_learned_on h.gateway.iface w.origin) && is_learned_on h.gateway.iface v.origin) (brings (Some w) (Some v) was_old becomes)
          (ap (held_by h.gateway.iface) (put_table v (makes (Some v) (ap (λ x. adopted h.gateway x offered) was_old ∙ becomes)))
          ∙ grown (is_learned_on h.gateway.iface w.origin) (is_learned_on h.gateway.iface v.origin) (held_by h.gateway.iface was) (held_by h.gateway.iface (map_of.insert was named v))
          (λ here. subst (λ (x : RouteValue). is_learned_on h.gateway.iface x.origin ≡ true) became (stays h.gateway offered w here w.clock))
          (held_by-replace h.gateway.iface was named w v (was_at named ∙ was_old))
          ∙ ap (λ n. n + cond (not (is_learned_on h.gateway.iface w.origin) && is_learned_on h.gateway.iface v.origin) 1 0) held_was)
        where
          became : adopted_by_clock h.gateway offered w w.clock ≡ v
          became = cc

    by_entry : (offer refused : Bool) → is_offer e ≡ offer → is_refused h place ≡ refused → held_by h.gateway.iface t ≡ brought_after h (place + 1)
    by_entry false refused o r =
        stays_same (λ p. ap (λ b. cond ((b && same_prefix named p) && not (is_refused h place)) (adopted h.gateway (route_after h place p) offered) (route_after h place p)) o)
        (ap (λ b. (b && not (is_by h.gateway.iface (route_after h place named)) && is_by h.gateway.iface (adopted h.gateway (route_after h place named) offered)) && not (is_refused h place)) o)
    by_entry true true o r =
        stays_same
        (λ p. ap (λ b. cond ((is_offer e && same_prefix named p) && not b) (adopted h.gateway (route_after h place p) offered) (route_after h place p)) r
        ∙ ap (λ b. cond b (adopted h.gateway (route_after h place p) offered) (route_after h place p)) (and_false (is_offer e && same_prefix named p)))
        (ap (λ b. would_bring h place e && not b) r ∙ and_false (would_bring h place e))
    by_entry true false o r = by_routes o r (route_after h place named) (adopted h.gateway (route_after h place named) offered) refl refl

  -- every table that is as heard so far holds so many routes by way of the interface
  pub brought_is_held : (place : ℕ) → place ≤ length h.entries → Counts place
  brought_is_held zero fits t same =
      ap (held_by h.gateway.iface) (map_of.same_map prefixes_total exact_prefixes t h.before (λ p. same p ∙ before_all h p))
      ∙ sym (add-zero (held_by h.gateway.iface h.before))
  brought_is_held (suc place) fits t same =
      let entry : (e : Rte) × (slice_get h.entries place ≡ Some e) = at_place h.entries place (omega arith) in
      subst (λ n. held_by h.gateway.iface t ≡ brought_after h n) (add-one place)
      (by_entry place entry.0 entry.1 (omega arith) (brought_is_held place (omega arith)) t (λ p. same p ∙ ap (λ n. route_after h n p) (sym (add-one place)))
      (is_offer entry.0) (is_refused h place) refl refl)

-- ---- a limit holds
module _ (h : Hearing) (after : Table) (limit : ℕ) (heard : Heard h after) (limited : limit_at h.config h.gateway.iface ≡ Some limit) where
  -- what would bring a route where the limit is reached gets a note of it
  module _ (place : ℕ) (e : Rte) (is : slice_get h.entries place ≡ Some e) (brings : would_bring h place e ≡ true) (full : nat_le limit (brought_after h place) ≡ true) where
    offers_one : (is_next_hop e ≡ false) × (flaw e ≡ None)
    offers_one = parts (is_next_hop e) (flaw e) (not (is_by h.gateway.iface (route_after h place (prefix_named e))))
        (is_by h.gateway.iface (adopted h.gateway (route_after h place (prefix_named e)) (offer_at h.config h.gateway.from h.entries place e))) brings
      where
        parts : (a : Bool) (f : Option NoteKind) (u v : Bool) → ((not a && is_none f) && u && v) ≡ true → (a ≡ false) × (f ≡ None)
        parts true f u v s = absurd (cc)
        parts false (Some k) u v s = absurd (cc)
        parts false None u v s = (refl, refl)

    reached : is_limit_reached (limit_at h.config h.gateway.iface) (brought_after h place) ≡ true
    reached = ap (λ l. is_limit_reached l (brought_after h place)) limited ∙ full

    refused_by : (barred : Bool) → (kind : NoteKind) × (first_reason ((barred, NotAccepted) ∷ (true, LimitReached) ∷ []) ≡ Some kind) × (is_refusal (Some kind) ≡ true)
    refused_by true = (NotAccepted, refl, refl)
    refused_by false = (LimitReached, refl, refl)

    barred : Bool
    barred = nat_lt e.metric infinity && not (is_accepted h.config h.gateway.iface (prefix_named e))

    gets_note : is_refused h place ≡ true
    unfolding barred
    gets_note =
        let why = refused_by barred in
        let refusal_is : refusal_at h place e ≡ Some why.0 = ap₂ (λ b r. first_reason ((barred, NotAccepted) ∷ (b && r, LimitReached) ∷ [])) brings reached ∙ why.1 in
        let allowed : allowed_notes h place e ≡ Some why.0 ∷ [] =
        ap₂ (λ b f. if b then None ∷ [] else notes_of_offer h place e f) offers_one.0 offers_one.1 ∙ ap (notes_by_refusal h place e) refusal_is in
        ap is_refusal (one_of_one (Some why.0) (note_at h place) (subst (λ l. Contains l (note_at h place)) allowed (heard.noted place e is))) ∙ why.2
      where
        one_of_one : (x y : Option NoteKind) → Contains (x ∷ []) y → y ≡ x
        one_of_one x y (zero, within, found) = cc
        one_of_one x y (suc k, within, found) = absurd (omega (arith, within))

  one_more : (place : ℕ) (e : Rte) → slice_get h.entries place ≡ Some e → brought_after h place ≤ limit → brought_after h (place + 1) ≤ limit
  one_more place e is below = subst (λ n. n ≤ limit) (sym (brought_more h place e is)) (by_bringing (would_bring h place e) (nat_le limit (brought_after h place)) refl refl)
    where
      by_bringing : (b full : Bool) → would_bring h place e ≡ b → nat_le limit (brought_after h place) ≡ full
          → brought_after h place + cond (would_bring h place e && not (is_refused h place)) 1 0 ≤ limit
      by_bringing false full brings is_full = subst (λ c. brought_after h place + cond (c && not (is_refused h place)) 1 0 ≤ limit) (sym brings) (omega (arith, below))
      by_bringing true true brings is_full =
          subst (λ c. brought_after h place + cond c 1 0 ≤ limit)
          (sym (ap (λ r. would_bring h place e && not r) (gets_note place e is brings is_full) ∙ and_no (would_bring h place e))) (omega (arith, below))
        where
          and_no : (b : Bool) → (b && false) ≡ false
          and_no true = refl
          and_no false = refl
      by_bringing true false brings is_full = at_most (would_bring h place e && not (is_refused h place))
        where
          spare : brought_after h place < limit
          spare = grind (arith, nat_tests, is_full)

          at_most : (b : Bool) → brought_after h place + cond b 1 0 ≤ limit
          at_most true = omega (arith, spare)
          at_most false = omega (arith, below)

  still_below : (place : ℕ) → place ≤ length h.entries → held_by h.gateway.iface h.before ≤ limit → brought_after h place ≤ limit
  still_below zero fits below = omega (arith, below)
  still_below (suc place) fits below =
      let entry : (e : Rte) × (slice_get h.entries place ≡ Some e) = at_place h.entries place (omega arith) in
      subst (λ n. brought_after h n ≤ limit) (add-one place) (one_more place entry.0 entry.1 (still_below place (omega arith) below))

  pub limit_kept : held_by h.gateway.iface h.before ≤ limit → held_by h.gateway.iface after ≤ limit
  limit_kept below = subst (λ n. n ≤ limit) (sym (brought_is_held h (length h.entries) (omega arith) after heard.routes)) (still_below (length h.entries) (omega arith) below)
