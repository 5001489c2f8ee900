-- A neighbor that hears the last update of a router has no reachable route by it left, to any prefix that it tells.
use Rattle.std.proofs.Common.{◌≡◌, ℕ, zero, suc, ◌+◌, ◌-◌, min, ◌<◌, ◌≤◌, ◌==◌, nat_lt, Bool, true, false, cond, not, ◌&&◌, ◌||◌, List, [], ◌∷◌, length, Contains, Option, Some, None, is_none, is_some, slice_get, refl, ap, ap₂, sym, subst, ◌∙◌, arith, le_refl}
use Rattle.std.specs.Prelude.{⊤}
use Rattle.std.specs.List.{AllByRecursion}
use Rattle.std.specs.FinMap as map_of
use Rattle.std.proofs.lemmas.Bool.{eq-eqb, ltb-true}
use Rattle.std.proofs.lemmas.Bool.Decides.{nat_tests}
use Rattle.std.proofs.lemmas.Option.{slice_get_within}
use Rattle.prefix6.specs.Prefix.{Prefix6, is_routable, same_prefix}
use Rattle.prefix6.proofs.PrefixLaws.{same_prefix-itself}
use Rattle.ripng_wire.specs.declared.rte.Rte.{Rte}
use Rattle.ripng_wire.specs.Layout.{is_next_hop}
use Rattle.route_table.specs.Route.{RouteValue, IsRoute, infinity, is_own, is_fixed, is_dying}
use Rattle.route_table.specs.Table.{Table}
use Rattle.route_table.specs.declared.route.Origin.TheVariants.{Own, Learned}
use Rattle.route_table.specs.declared.route.Clock.{Clock}
use Rattle.route_table.specs.declared.route.Clock.TheVariants.{Fixed, Live, Dying}
use Rattle.router_core.specs.Adoption.{Gateway, adopted, adopted_by_clock, refreshed, taken, lost, metric_through, is_reachable, is_through, is_preferred, is_repeated}
use Rattle.router_core.specs.Filters.{is_by}
use Rattle.router_core.specs.Hearing.{Hearing, Heard, route_after, is_refused, is_refusal, note_at, notes_of_new, notes_by_refusal, notes_of_offer, brought_after, refusal_at, would_add, would_bring}
use Rattle.router_core.specs.Offers.{Offer, flaw, is_offer, offer_at, prefix_named}
use Rattle.router_core.specs.Output.{is_learned_on}
use Rattle.router_core.specs.declared.answer.NoteKind.{NoteKind}
use Rattle.router_core.specs.declared.answer.NoteKind.TheVariants.{BadLength, BadPrefix, BadMetric}
use Rattle.router_core.proofs.HearingSteps.{after_one, before_all}
use Rattle.router_core.proofs.NoFilters.{takes_withdrawal}
use Rattle.ripng_world.proofs.Each.{each_at_place}
use Rattle.ripngd_theorems.proofs.OneRoute.{OfRoute, IsKept, entries_keep, heard_keeps}

clash : true ≡ false → ⊥
clash e = cc

module _ (iface from : ℕ) where
  -- a reachable route of the gateway is one that its gateway may end
  abbrev pub CanEnd : RouteValue → Type 0
  CanEnd r = (next_hop : ℕ) → r.origin ≡ Learned iface from next_hop → r.metric < infinity → (until : ℕ) × (r.clock ≡ Live until)

  -- it has ended, or is of another gateway
  abbrev pub HasEnded : RouteValue → Type 0
  HasEnded r = (next_hop : ℕ) → r.origin ≡ Learned iface from next_hop → infinity ≤ r.metric

  own_not_learned : (next_hop : ℕ) → Own ≡ Learned iface from next_hop → ⊥
  own_not_learned next_hop e = cc

  pub can_end_kept : IsKept CanEnd
  can_end_kept =
      record {
        lost_too = λ now r next_hop is low. absurd (omega arith);
        own_too = λ tag changed next_hop is low. absurd (own_not_learned next_hop is);
        unmarked_too = λ r holds. holds;
      }

  pub has_ended_kept : IsKept HasEnded
  has_ended_kept =
      record {
        lost_too = λ now r next_hop is. le_refl 16;
        own_too = λ tag changed next_hop is. absurd (own_not_learned next_hop is);
        unmarked_too = λ r holds. holds;
      }

  -- a lawful route can end
  pub lawful_can_end : (r : RouteValue) → IsRoute r → CanEnd r
  lawful_can_end r lawful next_hop is low = by_clock r.clock lawful.dying lawful.fixed
    where
      not_16 : (m : ℕ) → m < 16 → (m == 16) ≡ false
      not_16 m h = grind (arith, nat_tests)

      by_clock : (c : Clock) → is_dying c ≡ (r.metric == infinity) → is_fixed c ≡ (is_own r.origin && r.metric == 1) → (until : ℕ) × (c ≡ Live until)
      by_clock Fixed dying fixed = absurd (clash (fixed ∙ ap (λ o. is_own o && r.metric == 1) is))
      by_clock (Live until) dying fixed = (until, refl)
      by_clock (Dying until) dying fixed = absurd (clash (dying ∙ not_16 r.metric low))

  -- ---- offers

  -- one that is taken is live
  pub take_live : (g : Gateway) (o : Offer) (changed : Bool) → ⊤ → CanEnd (record (taken g o) { changed = changed })
  take_live g o changed any next_hop is low = (g.moment + 180_000, refl)

  -- one of another gateway is not of this one
  pub take_other : (g : Gateway) → (g.iface == iface && g.from == from) ≡ false → (o : Offer) (changed : Bool) → ⊤ → HasEnded (record (taken g o) { changed = changed })
  take_other g other o changed any next_hop is =
      absurd (clash (sym (ap₂ (λ a b. a && b) (eq-eqb g.iface iface (first g.iface g.from o.next_hop next_hop is)) (eq-eqb g.from from (second g.iface g.from o.next_hop next_hop is))) ∙ other))
    where
      first : (a b c d : ℕ) → Learned a b c ≡ Learned iface from d → a ≡ iface
      first a b c d e = cc

      second : (a b c d : ℕ) → Learned a b c ≡ Learned iface from d → b ≡ from
      second a b c d e = cc

  -- one of a loss is unreachable
  abbrev IsLost : Offer → Type 0
  IsLost o = o.metric ≡ infinity

  through_16 : (m cost : ℕ) → m ≡ 16 → min (m + cost) 16 ≡ 16
  through_16 m cost e = omega arith

  take_lost : (g : Gateway) (o : Offer) (changed : Bool) → IsLost o → HasEnded (record (taken g o) { changed = changed })
  take_lost g o changed is next_hop origin = subst (λ m. 16 ≤ m) (sym (through_16 o.metric g.cost is)) (le_refl 16)

  module _ (g : Gateway) (o : Offer) (is : IsLost o) where
    unreachable : is_reachable (metric_through g o) ≡ false
    unreachable = ap (λ m. nat_lt m 16) (through_16 o.metric g.cost is)

    none_new : adopted g None o ≡ None
    none_new = ap (λ b. cond b (Some (taken g o)) None) unreachable

    module _ (here : g.iface ≡ iface) (source : g.from ≡ from) where
      -- what cannot end otherwise is none of the gateway, or has ended
      not_live : (r : RouteValue) → CanEnd r → ((until : ℕ) → r.clock ≡ Live until → ⊥) → HasEnded r
      not_live r can none next_hop origin = by_test (nat_lt r.metric 16) refl
        where
          high : (m : ℕ) → nat_lt m 16 ≡ false → 16 ≤ m
          high m e = grind (arith, nat_tests)

          by_test : (b : Bool) → nat_lt r.metric 16 ≡ b → infinity ≤ r.metric
          by_test true e = let live = can next_hop origin (ltb-true r.metric 16 e) in absurd (none live.0 live.1)
          by_test false e = high r.metric e

      by_clock : (r : RouteValue) → CanEnd r → (c : Clock) → r.clock ≡ c → HasEnded (adopted_by_clock g o r c)
      by_clock r can Fixed clock = not_live r can (λ until live. other until (sym clock ∙ live))
        where
          other : (until : ℕ) → Fixed ≡ Live until → ⊥
          other until e = cc
      by_clock r can (Live until) clock = by_through (is_through g r.origin) refl (is_preferred g o r.metric until)
        where
          through : (next_hop : ℕ) → r.origin ≡ Learned iface from next_hop → is_through g r.origin ≡ true
          through next_hop origin = ap (is_through g) origin ∙ ap₂ (λ a b. a && b) (eq-eqb iface g.iface (sym here)) (eq-eqb from g.from (sym source))

          by_through : (b : Bool) → is_through g r.origin ≡ b → (c : Bool) → HasEnded (cond b (refreshed g o r) (cond c (taken g o) r))
          by_through true e c =
              subst (λ x. HasEnded (cond x (record (taken g o) { changed = r.changed || not (is_repeated g o r) }) (lost g.moment r))) (sym unreachable) (λ next_hop origin. le_refl 16)
          by_through false e true = take_lost g o true is
          by_through false e false = λ next_hop origin. absurd (clash (sym (through next_hop origin) ∙ e))
      by_clock r can (Dying until) clock =
          subst (λ b. HasEnded (cond b (taken g o) r)) (sym unreachable) (not_live r can (λ u live. other u (sym clock ∙ live)))
        where
          other : (u : ℕ) → Dying until ≡ Live u → ⊥
          other u e = cc

      -- a loss that is heard of the gateway ends its route
      pub ends : (old : Option RouteValue) → OfRoute CanEnd old → OfRoute HasEnded (adopted g old o)
      ends None can = subst (OfRoute HasEnded) (sym none_new) tt
      ends (Some r) can = by_clock r can r.clock refl

  -- ---- a Response of losses

  abbrev pub AllLosses : List Rte → Type 0
  AllLosses entries = AllByRecursion (λ e. e.metric ≡ infinity) entries

  module _ (h : Hearing) (after : Table) (heard : Heard h after) (losses : AllLosses h.entries) (here : h.gateway.iface ≡ iface) (source : h.gateway.from ≡ from) where
    abbrev at_place : ℕ → Rte → Offer
    at_place place e = offer_at h.config h.gateway.from h.entries place e

    each_lost : (place : ℕ) (e : Rte) → slice_get h.entries place ≡ Some e → IsLost (at_place place e)
    each_lost place e is = each_at_place (λ x. x.metric ≡ infinity) h.entries losses place e is

    pub losses_keep : (p : Prefix6) → OfRoute HasEnded (map_of.get h.before p) → OfRoute HasEnded (map_of.get after p)
    losses_keep p = heard_keeps HasEnded has_ended_kept h IsLost (take_lost h.gateway) each_lost p after heard

    -- an entry that names a prefix which may be told
    module _ (p : Prefix6) (short : p.len ≤ 128) (routable : is_routable p ≡ true) (place : ℕ) (e : Rte) (is : slice_get h.entries place ≡ Some e) (names : prefix_named e ≡ p) where
      inside : place < length h.entries
      inside = slice_get_within h.entries place e is

      metric : e.metric ≡ 16
      metric = each_lost place e is

      not_next_hop : is_next_hop e ≡ false
      not_next_hop = ap (λ m. m == 255) metric

      no_flaw : flaw e ≡ None
      no_flaw =
          ap₂ (λ x y. cond x (Some BadLength) (cond y (Some BadPrefix) (cond (e.metric == 0 || nat_lt 16 e.metric) (Some BadMetric) None)))
          (length_ok e.len (ap (λ (q : Prefix6). q.len) names)) (ap (λ q. not (is_routable q)) names ∙ ap not routable)
          ∙ ap (λ m. cond (m == 0 || nat_lt 16 m) (Some BadMetric) None) metric
        where
          length_ok : (l : ℕ) → l ≡ p.len → nat_lt 128 l ≡ false
          length_ok l a = grind (arith, nat_tests)

      offered : is_offer e ≡ true
      offered = ap₂ (λ a b. not a && is_none b) not_next_hop no_flaw

      adds_none : would_add h place e ≡ false
      adds_none =
          ap (λ o. is_offer e && is_none (route_after h place (prefix_named e)) && is_some o) (none_new h.gateway (at_place place e) metric)
          ∙ and_false (is_offer e) (is_none (route_after h place (prefix_named e)))
        where
          and_false : (a b : Bool) → (a && b && false) ≡ false
          and_false true true = refl
          and_false true false = refl
          and_false false b = refl

      -- no filter keeps a loss out
      not_refused : would_bring h place e ≡ false → is_refused h place ≡ false
      not_refused none = ap is_refusal (sym (one_of_one (note_at h place) allowed))
        where
          passes : refusal_at h place e ≡ None
          passes = takes_withdrawal h.config h.gateway.iface e (would_bring h place e) (brought_after h place) (ap (λ m. nat_lt m 16) metric) none

          allowed : Contains (None ∷ []) (note_at h place)
          allowed =
              subst (λ (a : List (Option NoteKind)). Contains a (note_at h place))
              (ap₂ (λ b f. cond b (None ∷ []) (notes_of_offer h place e f)) not_next_hop no_flaw
              ∙ ap (notes_by_refusal h place e) passes
              ∙ ap (λ b. cond b (notes_of_new h place) (None ∷ [])) adds_none)
              (heard.noted place e is)

          one_of_one : (x : Option NoteKind) → Contains (None ∷ []) x → None ≡ x
          one_of_one x (zero, h, e) = e
          one_of_one x (suc k, h, e) = absurd (omega arith)

      meant : (b : Bool) → is_refused h place ≡ b → ((is_offer e && same_prefix (prefix_named e) p) && not (is_refused h place)) ≡ not b
      meant b = ap₂ (λ a b. a && not b) (ap₂ (λ a b. a && b) offered (ap (λ q. same_prefix q p) names ∙ same_prefix-itself p))

      -- a limit refuses it only where no route of the interface is held
      not_by : is_refused h place ≡ true → OfRoute HasEnded (route_after h place p)
      not_by refused = subst (λ q. OfRoute HasEnded (route_after h place q)) names (by_route (route_after h place (prefix_named e)) (brings (would_bring h place e) refl))
        where
          middle : (a b c : Bool) → (a && not b && c) ≡ true → b ≡ false
          middle true true c t = absurd (clash (sym t))
          middle true false c t = refl
          middle false b c t = absurd (clash (sym t))

          brings : (b : Bool) → would_bring h place e ≡ b → is_by h.gateway.iface (route_after h place (prefix_named e)) ≡ false
          brings true is = middle (is_offer e) (is_by h.gateway.iface (route_after h place (prefix_named e))) _ is
          brings false is = absurd (clash (sym refused ∙ not_refused is))

          by_route : (old : Option RouteValue) → is_by h.gateway.iface old ≡ false → OfRoute HasEnded old
          by_route None none = tt
          by_route (Some r) none = λ next_hop origin. absurd (clash (sym (ap (is_learned_on h.gateway.iface) origin ∙ eq-eqb iface h.gateway.iface (sym here)) ∙ none))

      ended_here : OfRoute CanEnd (map_of.get h.before p) → OfRoute HasEnded (route_after h (place + 1) p)
      ended_here can = by (is_refused h place) refl
        where
          none : (n : ℕ) → 0 + n ≡ n
          none n = omega arith

          before : OfRoute CanEnd (route_after h place p)
          before =
              subst (λ n. OfRoute CanEnd (route_after h n p)) (none place)
              (entries_keep CanEnd can_end_kept h (λ o. ⊤) (take_live h.gateway) (λ place e is. tt) p 0 place (omega (arith, inside)) (subst (OfRoute CanEnd) (sym (before_all h p)) can))

          either : (b : Bool) → is_refused h place ≡ b → OfRoute HasEnded (cond (not b) (adopted h.gateway (route_after h place p) (at_place place e)) (route_after h place p))
          either true refused = not_by refused
          either false refused = ends h.gateway (at_place place e) metric here source (route_after h place p) before

          by : (b : Bool) → is_refused h place ≡ b → OfRoute HasEnded (route_after h (place + 1) p)
          by b refused =
              subst (OfRoute HasEnded)
              (sym (after_one h place e p is ∙ ap (λ t. cond t (adopted h.gateway (route_after h place p) (at_place place e)) (route_after h place p)) (meant b refused)))
              (either b refused)

      pub loss_ends : OfRoute CanEnd (map_of.get h.before p) → OfRoute HasEnded (map_of.get after p)
      loss_ends can =
          subst (OfRoute HasEnded) (sym (heard.routes p))
          (subst (λ n. OfRoute HasEnded (route_after h n p)) (whole place (length h.entries) inside)
          (entries_keep HasEnded has_ended_kept h IsLost (take_lost h.gateway) each_lost p (place + 1) (length h.entries - (place + 1)) (omega (arith, inside)) (ended_here can)))
        where
          whole : (k n : ℕ) → k < n → k + 1 + (n - (k + 1)) ≡ n
          whole k n h = omega arith
