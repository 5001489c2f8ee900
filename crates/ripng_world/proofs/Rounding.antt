-- Steps towards convergence: what one offer does to a metric, and how long a usable walk is.
use Rattle.std.proofs.Common.{◌≡◌, ℕ, suc, ◌+◌, ◌<◌, ◌≤◌, ◌⊎◌, inl, inr, Bool, true, false, cond, not, ◌&&◌, ◌||◌, ◌==◌, nat_lt, nat_le, List, [], ◌∷◌, length, Option, option_map, unwrap_or, refl, sym, subst, arith, le_refl}
use Rattle.std.specs.Prelude.{⊤}
use Rattle.std.proofs.lemmas.Bool.{lt-ltb}
use Rattle.std.proofs.lemmas.Bool.Decides.{nat_tests}
use Rattle.route_table.specs.Route.{RouteValue, infinity}
use Rattle.route_table.specs.declared.route.Origin.TheVariants.{Own, Learned}
use Rattle.route_table.specs.declared.route.Clock.{Clock}
use Rattle.route_table.specs.declared.route.Clock.TheVariants.{Fixed, Live, Dying}
use Rattle.router_core.specs.Offers.{Offer}
use Rattle.router_core.specs.Adoption.{Gateway, adopted_by_clock, refreshed, taken, lost, metric_through, is_reachable, is_through, is_preferred, is_repeated}
use Rattle.router_core.specs.Timers.{half_timeout}
use Rattle.ripng_world.specs.declared.network.NetInterface.{NetInterface}
use Rattle.ripng_world.specs.Network.{Network}
use Rattle.ripng_world.specs.Walks.{Hop, IsWalk, cost, cost_of_interface}
use Rattle.ripng_world.specs.Network.{IsUsable}

-- ---- a walk of cost at most 15 has at most 14 hops

cost_at_least : (net : Network) → IsUsable net → (at : ℕ) (walk : List Hop) → IsWalk net at walk → length walk + 1 ≤ cost net at walk
cost_at_least net usable at [] is = omega arith
cost_at_least net usable at (h ∷ walk) is =
    let rest : length walk + 1 ≤ cost net h.router walk = cost_at_least net usable h.router walk is.1 in
    let here : 1 ≤ cost_of_interface net at h.iface =
    subst (λ (o : Option NetInterface). 1 ≤ unwrap_or (option_map (λ i. i.interface.cost) o) infinity) (sym is.0.1.here_is) (usable.costs at h.iface is.0.1.here is.0.1.here_is).0 in
    one_more (length walk) (cost_of_interface net at h.iface) (cost net h.router walk) here rest
  where
    one_more : (n c w : ℕ) → 1 ≤ c → n + 1 ≤ w → suc n + 1 ≤ c + w
    one_more n c w a b = omega arith

pub short_walks : (net : Network) → IsUsable net → (at : ℕ) (walk : List Hop) → IsWalk net at walk → cost net at walk < infinity → length walk ≤ 14
short_walks net usable at walk is low = let h = cost_at_least net usable at walk is in omega arith

-- ---- one offer

-- a route that is not dying
abbrev pub IsStanding : Clock → Type 0
IsStanding Fixed = ⊤
IsStanding (Live until) = ⊤
IsStanding (Dying until) = ⊥

-- the new route is the old one, or is through the gateway at the gateway's metric; either way it is at most both, and still stands
pub record Improves (g : Gateway) (o : Offer) (old new : RouteValue) : Type 0 where
  pub no_rise : new.metric ≤ old.metric
  pub at_most : new.metric ≤ metric_through g o
  pub tight : (new ≡ old) ⊎ ((new.metric ≡ metric_through g o) × (new.origin ≡ Learned g.iface g.from o.next_hop))
  pub stands : IsStanding new.clock

module _ (g : Gateway) (o : Offer) (low : metric_through g o < infinity) where
  unchanged : (r : RouteValue) → IsStanding r.clock → r.metric ≤ metric_through g o → Improves g o r r
  unchanged r stands below = record { no_rise = le_refl _; at_most = below; tight = inl refl; stands = stands }

  is_low : is_reachable (metric_through g o) ≡ true
  is_low = lt-ltb (metric_through g o) infinity low

  -- the gateway's metric has not risen above the route's, if the route is through it
  improves_live : (r : RouteValue) (until : ℕ) → r.clock ≡ Live until → (is_through g r.origin ≡ true → metric_through g o ≤ r.metric) → Improves g o r (adopted_by_clock g o r (Live until))
  improves_live r until clock not_risen = by_gateway (is_through g r.origin) refl
    where
      stands : IsStanding r.clock
      stands = subst IsStanding (sym clock) tt

      same_metric : (m a : ℕ) → (nat_lt m a || (m == a && nat_le until (g.moment + half_timeout))) ≡ true → m ≤ a
      same_metric m a e = grind (arith, nat_tests)

      not_preferred : (m a : ℕ) → (nat_lt m a || (m == a && nat_le until (g.moment + half_timeout))) ≡ false → a ≤ m
      not_preferred m a e = grind (arith, nat_tests)

      by_preference : (b : Bool) → is_preferred g o r.metric until ≡ b → Improves g o r (cond b (taken g o) r)
      by_preference true e = record { no_rise = same_metric (metric_through g o) r.metric e; at_most = le_refl _; tight = inr (refl, refl); stands = tt }
      by_preference false e = unchanged r stands (not_preferred (metric_through g o) r.metric e)

      by_gateway : (b : Bool) → is_through g r.origin ≡ b → Improves g o r (cond b (refreshed g o r) (cond (is_preferred g o r.metric until) (taken g o) r))
      by_gateway true e =
          subst (λ b. Improves g o r (cond b (record (taken g o) { changed = r.changed || not (is_repeated g o r) }) (lost g.moment r))) (sym is_low)
          (record { no_rise = not_risen e; at_most = le_refl _; tight = inr (refl, refl); stands = tt })
      by_gateway false e = by_preference (is_preferred g o r.metric until) refl

  pub improves : (r : RouteValue) → IsStanding r.clock → (r.origin ≡ Own → r.metric ≤ metric_through g o)
      → (is_through g r.origin ≡ true → metric_through g o ≤ r.metric) → (r.clock ≡ Fixed → r.origin ≡ Own)
      → (c : Clock) → r.clock ≡ c → Improves g o r (adopted_by_clock g o r c)
  improves r stands own not_risen fixed Fixed clock = unchanged r stands (own (fixed clock))
  improves r stands own not_risen fixed (Live until) clock = improves_live r until clock not_risen
  improves r stands own not_risen fixed (Dying until) clock = absurd (subst IsStanding clock stands)
