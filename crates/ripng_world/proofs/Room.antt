-- Why no offer of a route to a known prefix is refused: a table has room for all of them, and filters and limits let each in.
use Rattle.std.proofs.Common.{◌≡◌, ◌⊎◌, inl, inr, ℕ, zero, suc, ◌+◌, ◌-◌, ◌<◌, ◌≤◌, Bool, true, false, cond, not, ◌&&◌, nat_lt, nat_le, List, [], ◌∷◌, length, Contains, Option, Some, None, slice_get, slice_index_or, refl, ap, ap₂, sym, subst, ◌∙◌, arith}
use Rattle.std.specs.FinMap as map_of
use Rattle.std.specs.Ordering.{eq_by_cmp, is_eq}
use Rattle.std.specs.Cmp.{tied_itself}
use Rattle.std.proofs.lemmas.Bool.{eq-eqb}
use Rattle.std.proofs.lemmas.Bool.Decides.{nat_tests}
use Rattle.std.proofs.lemmas.List.Sums.{count_by-le-length}
use Rattle.std.proofs.lemmas.Map.Views.{tells_apart}
use Rattle.prefix6.specs.Prefix.{Prefix6, prefix_cmp}
use Rattle.prefix6.proofs.PrefixLaws.{prefixes_total, exact_prefixes}
use Rattle.ripng_wire.specs.declared.rte.Rte.{Rte}
use Rattle.route_table.specs.Route.{RouteValue, infinity}
use Rattle.route_table.specs.Table.{Table}
use Rattle.route_table.proofs.TableLaws.{None-Some}
use Rattle.router_core.specs.Adoption.{adopted, taken}
use Rattle.router_core.specs.Filters.{is_accepted, is_by, is_limit_reached, limit_at}
use Rattle.router_core.specs.Hearing.{Hearing, route_after, would_bring, brought_after, held_by, refusal_at}
use Rattle.router_core.specs.Offers.{is_offer, offer_at, prefix_named}
use Rattle.router_core.specs.Output.{is_learned_on}
use Rattle.router_core.specs.declared.answer.NoteKind.TheVariants.{NotAccepted, LimitReached}
use Rattle.router_core.proofs.Counting.{brought_is_held, held_by-add, held_by-replace}
use Rattle.router_core.proofs.HearingSteps.{table_after}
use Rattle.ripng_world.specs.Network.{Network, Node, config_of}
use Rattle.ripng_world.specs.Convergence.{AreLetThrough}

-- ---- a table of owned prefixes has no more routes than there are owned prefixes

pub IsIn : Prefix6 → List Prefix6 → Type 0
IsIn p [] = ⊥
IsIn p (q ∷ qs) = (p ≡ q) ⊎ IsIn p qs

pub in_from_contains : (qs : List Prefix6) (p : Prefix6) → Contains qs p → IsIn p qs
unfolding IsIn
in_from_contains [] p c = absurd (omega arith)
in_from_contains (q ∷ qs) p c = by_place c.0 c.1 c.2 (λ k h e. in_from_contains qs p (k, h, e))
  where
    by_place : (k : ℕ) → k < length (q ∷ qs) → slice_index_or (q ∷ qs) k p ≡ p → ((j : ℕ) → j < length qs → slice_index_or qs j p ≡ p → IsIn p qs) → (p ≡ q) ⊎ IsIn p qs
    by_place zero h e later = inl (sym e)
    by_place (suc k) h e later = inr (later k (omega arith) e)

pub few_routes : (qs : List Prefix6) (t : Table) → ((p : Prefix6) (r : RouteValue) → map_of.get t p ≡ Some r → IsIn p qs) → map_of.len t ≤ length qs
unfolding IsIn
few_routes [] t owned = le_of (ap map_of.len (map_of.same_map prefixes_total exact_prefixes t map_of.empty (λ p. none p (map_of.get t p) refl ∙ sym (map_of.get-empty prefix_cmp p))) ∙ map_of.len-empty prefix_cmp RouteValue)
  where
    none : (p : Prefix6) (o : Option RouteValue) → map_of.get t p ≡ o → map_of.get t p ≡ None
    none p None is = is
    none p (Some r) is = absurd (owned p r is)

    le_of : {a b : ℕ} → a ≡ b → a ≤ b
    le_of e = omega arith
few_routes (q ∷ qs) t owned =
    let rest : map_of.len (map_of.remove t q) ≤ length qs = few_routes qs (map_of.remove t q) others in
    at_most (map_of.contains_key t q) (map_of.len-remove prefixes_total t q) rest
  where
    at_most : (b : Bool) → map_of.len (map_of.remove t q) ≡ cond b (map_of.len t - 1) (map_of.len t) → map_of.len (map_of.remove t q) ≤ length qs → map_of.len t ≤ suc (length qs)
    at_most true e h = omega arith
    at_most false e h = omega arith

    others : (p : Prefix6) (r : RouteValue) → map_of.get (map_of.remove t q) p ≡ Some r → IsIn p qs
    others p r is = by_key (eq_by_cmp prefix_cmp p q) refl (sym (map_of.get-remove prefixes_total t q p) ∙ is)
      where
        by_key : (b : Bool) → eq_by_cmp prefix_cmp p q ≡ b → cond b None (map_of.get t p) ≡ Some r → IsIn p qs
        by_key true tie e = absurd (None-Some r e)
        by_key false tie e = by_in (owned p r e)
          where
            by_in : (p ≡ q) ⊎ IsIn p qs → IsIn p qs
            by_in (inl same) = absurd (clash (sym tie ∙ ap (λ (x : Prefix6). eq_by_cmp prefix_cmp x q) same ∙ ap is_eq (tied_itself prefixes_total q)))
              where
                clash : false ≡ true → ⊥
                clash e = cc
            by_in (inr later) = later

-- ---- no filter and no limit keeps out what all interfaces take

-- an offer that brings a route comes where there is none by way of the interface
not_by : (a b c : Bool) → (a && not b && c) ≡ true → b ≡ false
not_by true true c e = absurd (cc)
not_by true false c e = refl
not_by false true c e = absurd (cc)
not_by false false c e = refl

module _ (h : Hearing) (net : Network) (router : ℕ) (node : Node) (node_is : slice_get net router ≡ Some node) (config_is : h.config ≡ config_of node)
    (known : Prefix6 → Type 0) (qs : List Prefix6) (lists : AreLetThrough net known (length qs))
    (place : ℕ) (within : place ≤ length h.entries) (keys : (p : Prefix6) (r : RouteValue) → route_after h place p ≡ Some r → IsIn p qs)
    (e : Rte) (is_known : known (prefix_named e)) (is_in : IsIn (prefix_named e) qs) where
  abbrev now : Table
  now = (table_after h place within).0

  -- the route that the offer would bring
  abbrev brought : RouteValue
  brought = taken h.gateway (offer_at h.config h.gateway.from h.entries place e)

  abbrev grown : Table
  grown = map_of.insert now (prefix_named e) brought

  mine : is_learned_on h.gateway.iface brought.origin ≡ true
  mine = eq-eqb h.gateway.iface h.gateway.iface refl

  counted : held_by h.gateway.iface now ≡ brought_after h place
  counted = brought_is_held h place within now (table_after h place within).1

  one_more : is_by h.gateway.iface (route_after h place (prefix_named e)) ≡ false → (o : Option RouteValue) → map_of.get now (prefix_named e) ≡ o → held_by h.gateway.iface grown ≡ brought_after h place + 1
  one_more none None at = held_by-add h.gateway.iface now (prefix_named e) brought at ∙ ap₂ (λ n b. n + cond b 1 0) counted mine
  one_more none (Some old) at =
      let elsewhere : is_learned_on h.gateway.iface old.origin ≡ false = ap (is_by h.gateway.iface) (sym at ∙ (table_after h place within).1 (prefix_named e)) ∙ none in
      let both : held_by h.gateway.iface grown + 0 ≡ held_by h.gateway.iface now + 1 =
      sym (ap (λ b. held_by h.gateway.iface grown + cond b 1 0) elsewhere) ∙ held_by-replace h.gateway.iface now (prefix_named e) old brought at
      ∙ ap (λ b. held_by h.gateway.iface now + cond b 1 0) mine in
      omega (arith, both, counted)

  fewer : would_bring h place e ≡ true → brought_after h place < length qs
  fewer brings =
      let none = not_by (is_offer e) (is_by h.gateway.iface (route_after h place (prefix_named e)))
      (is_by h.gateway.iface (adopted h.gateway (route_after h place (prefix_named e)) (offer_at h.config h.gateway.from h.entries place e))) brings in
      let more = one_more none (map_of.get now (prefix_named e)) refl in
      let all_in : map_of.len grown ≤ length qs = few_routes qs grown (λ p r at. by_key p r (eq_by_cmp prefix_cmp p (prefix_named e)) refl (sym (map_of.get-insert prefixes_total now (prefix_named e) brought p) ∙ at)) in
      omega (arith, more, all_in, map_of.len-entries grown, count_by-le-length (λ t. is_learned_on h.gateway.iface t.1.origin) (map_of.entries grown))
    where
      by_key : (p : Prefix6) (r : RouteValue) (t : Bool) → eq_by_cmp prefix_cmp p (prefix_named e) ≡ t → cond t (Some brought) (map_of.get now p) ≡ Some r → IsIn p qs
      by_key p r true tie at = subst (λ (q : Prefix6). IsIn q qs) (sym (tells_apart exact_prefixes p (prefix_named e) tie)) is_in
      by_key p r false tie at = keys p r (sym ((table_after h place within).1 p) ∙ at)

  accepted : is_accepted h.config h.gateway.iface (prefix_named e) ≡ true
  accepted = ap (λ c. is_accepted c h.gateway.iface (prefix_named e)) config_is ∙ lists.accepted router h.gateway.iface node (prefix_named e) node_is is_known

  abbrev is_full : Bool
  is_full = is_limit_reached (limit_at h.config h.gateway.iface) (brought_after h place)

  unlimited : (would_bring h place e && is_full) ≡ false
  unlimited = by_test (would_bring h place e) refl
    where
      not_yet : (limit n : ℕ) → n < limit → nat_le limit n ≡ false
      not_yet limit n low = grind (arith, nat_tests)

      below : (a b c : ℕ) → a < b → b ≤ c → a < c
      below a b c x y = omega arith

      by_limit : (o : Option ℕ) → limit_at h.config h.gateway.iface ≡ o → brought_after h place < length qs → is_limit_reached o (brought_after h place) ≡ false
      by_limit None at low = refl
      by_limit (Some limit) at low =
          not_yet limit (brought_after h place)
          (below (brought_after h place) (length qs) limit low (lists.within router h.gateway.iface limit node node_is (sym (ap (λ c. limit_at c h.gateway.iface) config_is) ∙ at)))

      by_test : (t : Bool) → would_bring h place e ≡ t → (would_bring h place e && is_full) ≡ false
      by_test false brings = ap (λ t. t && is_full) brings
      by_test true brings = ap (λ t. t && is_full) brings ∙ by_limit (limit_at h.config h.gateway.iface) refl (fewer brings)

  pub not_kept_out : refusal_at h place e ≡ None
  not_kept_out =
      ap (λ a. cond (nat_lt e.metric infinity && not a) (Some NotAccepted) (cond (would_bring h place e && is_full) (Some LimitReached) None)) accepted
      ∙ ap (λ a. cond a (Some NotAccepted) (cond (would_bring h place e && is_full) (Some LimitReached) None)) (and_false (nat_lt e.metric infinity))
      ∙ ap (λ b. cond b (Some LimitReached) None) unlimited
    where
      and_false : (b : Bool) → (b && false) ≡ false
      and_false true = refl
      and_false false = refl
