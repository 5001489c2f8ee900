-- What is left of the routes of a router when the link of an interface goes down.
use Rattle.std.proofs.Common.{◌≡◌, ◌≢◌, ℕ, max, ◌≤◌, ◌&&◌, nat_lt, Bool, true, false, cond, Option, Some, None, option_and_then, refl, ap, sym, subst, ◌∙◌, arith, le_refl}
use Rattle.std.specs.Prelude.{◌↔◌}
use Rattle.std.specs.FinMap as map_of
use Rattle.std.proofs.lemmas.Bool.{eq-eqb}
use Rattle.std.proofs.lemmas.Bool.Decides.{nat_tests}
use Rattle.prefix6.specs.Prefix.{Prefix6}
use Rattle.fib.specs.Forwarding.{Forward}
use Rattle.fib.specs.declared.change.Hop.TheVariants.{Direct, Via}
use Rattle.route_table.specs.Route.{RouteValue, infinity}
use Rattle.route_table.specs.Table.{Table}
use Rattle.route_table.specs.declared.route.Origin.{Origin}
use Rattle.route_table.specs.declared.route.Origin.TheVariants.{Own, Learned}
use Rattle.route_table.proofs.TableLaws.{Some-same, None-Some, get-map_values}
use Rattle.router_core.specs.Adoption.{lost}
use Rattle.router_core.specs.Changes.{forward, forwards, hop_of}
use Rattle.router_core.specs.LinkDown.{after_link_down, is_live_on, table_after_link_down}
use Rattle.router_core.specs.Machine.{State, LinkGoesDown, Moves}
use Rattle.router_core.specs.Output.{is_learned_on}
use Rattle.router_core.specs.declared.answer.Answer.{Answer}
use Rattle.ripngd_theorems.specs.LastUpdate.{HasNoneBy}

module _ (iface now : ℕ) where
  abbrev left : RouteValue → RouteValue
  left r = after_link_down iface now r

  -- a route that was learned there has ended
  ended : (r : RouteValue) → is_learned_on iface r.origin ≡ true → infinity ≤ (left r).metric
  ended r on = subst (λ b. infinity ≤ (cond (b && nat_lt r.metric infinity) (lost now r) r).metric) (sym on) (by_test (nat_lt r.metric infinity) refl)
    where
      high : (m : ℕ) → nat_lt m 16 ≡ false → 16 ≤ m
      high m e = grind (arith, nat_tests)

      by_test : (b : Bool) → nat_lt r.metric infinity ≡ b → infinity ≤ (cond b (lost now r) r).metric
      by_test true e = le_refl 16
      by_test false e = high r.metric e

  -- another is as it was
  same : (r : RouteValue) → is_learned_on iface r.origin ≡ false → left r ≡ r
  same r off = ap (λ b. cond (b && nat_lt r.metric infinity) (lost now r) r) off

  origin_stays : (r : RouteValue) → (left r).origin ≡ r.origin
  origin_stays r = elim (is_live_on iface r) as (λ b. (cond b (lost now r) r).origin ≡ r.origin) [ true ↦ refl | false ↦ refl ]

  module _ (table : Table) (p : Prefix6) where
    get_left : map_of.get (table_after_link_down iface now table) p ≡ option_and_then (λ r. Some (left r)) (map_of.get table p)
    get_left = get-map_values (λ r. Some (left r)) table p

    -- a route that is there is what is left of one that was
    was : (r : RouteValue) → map_of.get (table_after_link_down iface now table) p ≡ Some r → (q : RouteValue) × (map_of.get table p ≡ Some q) × (left q ≡ r)
    was r at = by_value (map_of.get table p) refl (sym get_left ∙ at)
      where
        by_value : (o : Option RouteValue) → map_of.get table p ≡ o → option_and_then (λ x. Some (left x)) o ≡ Some r → (q : RouteValue) × (map_of.get table p ≡ Some q) × (left q ≡ r)
        by_value None is e = absurd (None-Some r e)
        by_value (Some q) is e = (q, is, Some-same (left q) r e)

    none_by : (from : ℕ) → HasNoneBy iface from (table_after_link_down iface now table) p
    none_by from r next_hop at origin =
        let w = was r at in
        let on : is_learned_on iface w.0.origin ≡ true =
        ap (is_learned_on iface) (sym (origin_stays w.0) ∙ ap (λ (x : RouteValue). x.origin) w.2 ∙ origin) ∙ eq-eqb iface iface refl in
        subst (λ (x : RouteValue). infinity ≤ x.metric) w.2 (ended w.0 on)

    others_same : (r : RouteValue) → is_learned_on iface r.origin ≡ false → (map_of.get table p ≡ Some r) ↔ (map_of.get (table_after_link_down iface now table) p ≡ Some r)
    others_same r off = (
      λ at. get_left ∙ ap (option_and_then (λ x. Some (left x))) at ∙ ap Some (same r off),
      λ at.
          let w = was r at in
          let still : is_learned_on iface w.0.origin ≡ false = ap (is_learned_on iface) (sym (origin_stays w.0) ∙ ap (λ (x : RouteValue). x.origin) w.2) ∙ off in
          w.1 ∙ ap Some (sym (same w.0 still) ∙ w.2),
    )

-- ---- the step

module _ (old new : State) (now iface : ℕ) (answer : Answer) (moves : Moves old (LinkGoesDown now iface) answer new) where
  table_is : new.table ≡ table_after_link_down iface (max old.last now) old.table
  table_is = ap (λ (s : State). s.table) moves.state

  pub none_left : (p : Prefix6) (from : ℕ) → HasNoneBy iface from new.table p
  none_left p from = subst (λ t. HasNoneBy iface from t p) (sym table_is) (none_by iface (max old.last now) old.table p from)

  pub others_stay : (p : Prefix6) (r : RouteValue) → is_learned_on iface r.origin ≡ false → (map_of.get old.table p ≡ Some r) ↔ (map_of.get new.table p ≡ Some r)
  others_stay p r off = subst (λ (t : Table). (map_of.get old.table p ≡ Some r) ↔ (map_of.get t p ≡ Some r)) (sym table_is) (others_same iface (max old.last now) old.table p r off)

  -- no route forwards there
  pub none_forwarded : (p : Prefix6) (f : Forward) (next_hop : ℕ) → map_of.get (forwards new.table) p ≡ Some f → f.hop ≢ Via iface next_hop
  none_forwarded p f next_hop at hop = by_value (map_of.get new.table p) refl (sym (get-map_values forward new.table p) ∙ at)
    where
      not_direct : Direct ≡ Via iface next_hop → ⊥
      not_direct e = cc

      same_iface : (a b : ℕ) → Via a b ≡ Via iface next_hop → a ≡ iface
      same_iface a b e = cc

      learned : (o : Origin) → hop_of o ≡ Via iface next_hop → (from : ℕ) × (gateway : ℕ) × (o ≡ Learned iface from gateway)
      learned Own e = absurd (not_direct e)
      learned (Learned i from gateway) e = (from, gateway, ap (λ x. Learned x from gateway) (same_iface i gateway e))

      low : (m : ℕ) → nat_lt m 16 ≡ true → 16 ≤ m → ⊥
      low m e h = grind (arith, nat_tests)

      by_value : (o : Option RouteValue) → map_of.get new.table p ≡ o → option_and_then forward o ≡ Some f → ⊥
      by_value None is e = None-Some f e
      by_value (Some r) is e = by_test (nat_lt r.metric infinity) refl e
        where
          by_test : (b : Bool) → nat_lt r.metric infinity ≡ b → cond b (Some (record { hop = hop_of r.origin; metric = r.metric })) None ≡ Some f → ⊥
          by_test false t e = None-Some f e
          by_test true t e =
              let l = learned r.origin (ap (λ (x : Forward). x.hop) (Some-same (record { hop = hop_of r.origin; metric = r.metric }) f e) ∙ hop) in
              low r.metric t (none_left p l.0 r l.1 is l.2)
