-- What the updates of a round make of one route, whatever it was when the round's ticks were over.
use Rattle.std.proofs.Common.{◌≡◌, ◌≢◌, ◌⊎◌, inl, inr, ℕ, ◌+◌, min, ◌<◌, ◌≤◌, Bool, true, false, cond, not, ◌&&◌, ◌||◌, ◌==◌, nat_lt, nat_le, Option, Some, None, option_map, refl, ap, ap₂, sym, subst, ◌∙◌, arith, le_refl, le_trans}
use Rattle.std.proofs.lemmas.Bool.{ltb-true, eqb-true}
use Rattle.std.proofs.lemmas.Bool.Decides.{nat_tests}
use Rattle.prefix6.specs.Prefix.{Prefix6}
use Rattle.route_table.specs.Route.{RouteValue, infinity}
use Rattle.route_table.specs.declared.route.Origin.{Origin}
use Rattle.route_table.specs.declared.route.Origin.TheVariants.{Own, Learned}
use Rattle.route_table.specs.declared.route.Clock.{Clock}
use Rattle.route_table.specs.declared.route.Clock.TheVariants.{Fixed, Live, Dying}
use Rattle.route_table.proofs.TableLaws.{Some-same, None-Some}
use Rattle.router_core.specs.Offers.{Offer}
use Rattle.router_core.specs.Adoption.{Gateway, adopted, adopted_by_clock, refreshed, taken, lost, metric_through, is_reachable, is_through, is_preferred, is_repeated}
use Rattle.router_core.specs.Timers.{timeout, half_timeout, garbage_time}
use Rattle.router_core.specs.Output.{is_learned_on}
use Rattle.ripng_world.specs.Network.{Network, AreLinked, interface_at, HasDistinctAddresses}
use Rattle.ripng_world.specs.Walks.{cost_of_interface}
use Rattle.ripng_world.specs.World.{World}
use Rattle.ripng_world.proofs.Improving.{RouteAt, one_route}
use Rattle.ripng_world.proofs.RoundDeliveries.{gateway_at}
use Rattle.ripng_world.proofs.RoundNeighbors.{one_sender}

-- a neighbor tells this metric of its route
pub record IsTold (net : Network) (mid : World) (router : ℕ) (p : Prefix6) (iface from metric : ℕ) : Type 0 where
  pub sender : ℕ
  pub sender_iface : ℕ
  pub route : RouteValue
  pub linked : AreLinked net router iface sender sender_iface
  pub apart : router ≢ sender
  pub from_is : option_map (λ i. i.interface.addr) (interface_at net sender sender_iface) ≡ Some from
  pub at : RouteAt mid sender p route
  pub positive : 1 ≤ route.metric
  pub in_range : route.metric ≤ infinity
  pub told : metric ≡ cond (is_learned_on sender_iface route.origin) infinity route.metric

-- a gateway tells one metric of a prefix
pub one_told : (net : Network) → HasDistinctAddresses net → (mid : World) (router : ℕ) (p : Prefix6) (iface from m n : ℕ)
    → IsTold net mid router p iface from m → IsTold net mid router p iface from n → m ≡ n
one_told net distinct mid router p iface from m n x y =
    let one = one_sender net distinct router iface from x.sender x.sender_iface y.sender y.sender_iface x.linked y.linked x.from_is y.from_is in
    let same : x.route ≡ y.route = one_route mid y.sender p x.route y.route (subst (λ s. RouteAt mid s p x.route) one.0 x.at) y.at in
    x.told ∙ ap₂ (λ i (r : RouteValue). cond (is_learned_on i r.origin) infinity r.metric) one.1 same ∙ sym y.told

-- as an offer through an interface
abbrev pub through : Network → ℕ → ℕ → ℕ → ℕ
through net router iface metric = min (metric + cost_of_interface net router iface) infinity

module _ (net : Network) (distinct : HasDistinctAddresses net) (mid : World) (known : Prefix6 → Type 0) (router since : ℕ) (p : Prefix6) where
  -- the route was set by what its gateway tells in this round
  pub record IsHeard (r : RouteValue) : Type 0 where
    pub iface : ℕ
    pub from : ℕ
    pub next_hop : ℕ
    pub until : ℕ
    pub metric : ℕ
    pub origin : r.origin ≡ Learned iface from next_hop
    pub clock : r.clock ≡ Live until
    pub timely : since + timeout ≤ until
    pub told : IsTold net mid router p iface from metric
    pub metric_is : r.metric ≡ through net router iface metric
    pub low : r.metric < infinity

  -- by its clock, a route is as it was, or heard, or lost in this round
  abbrev pub IsByClock : Option RouteValue → RouteValue → Clock → Type 0
  IsByClock a r Fixed = (a ≡ Some r) × (r.metric ≡ 1)
  IsByClock a r (Live until) = ((a ≡ Some r) × (r.metric < infinity)) ⊎ IsHeard r
  IsByClock a r (Dying until) = (r.metric ≡ infinity) × ((a ≡ Some r) ⊎ (since + garbage_time ≤ until))

  pub record IsRowOf (a : Option RouteValue) (r : RouteValue) : Type 0 where
    pub is_known : known p
    pub positive : 1 ≤ r.metric
    pub in_range : r.metric ≤ infinity
    pub by_clock : IsByClock a r r.clock
    pub fixed : (q : RouteValue) → a ≡ Some q → q.clock ≡ Fixed → r ≡ q

  -- a route once was this one, and now is that one
  abbrev pub IsRow : Option RouteValue → Option RouteValue → Type 0
  IsRow a None = a ≡ None
  IsRow a (Some r) = IsRowOf a r

  -- the route was at most the bound, and its own gateway has raised it
  pub record IsRaised (a : Option RouteValue) (m : ℕ) : Type 0 where
    pub route : RouteValue
    pub was : a ≡ Some route
    pub below : route.metric ≤ m
    pub iface : ℕ
    pub from : ℕ
    pub next_hop : ℕ
    pub until : ℕ
    pub metric : ℕ
    pub origin : route.origin ≡ Learned iface from next_hop
    pub clock : route.clock ≡ Live until
    pub told : IsTold net mid router p iface from metric
    pub above : route.metric < through net router iface metric

  abbrev pub IsAtMost : Option RouteValue → Option RouteValue → ℕ → Type 0
  IsAtMost a b m = ((r : RouteValue) × (b ≡ Some r) × (r.metric ≤ m)) ⊎ IsRaised a m

  -- if the route is live through the gateway, it was heard in this round
  abbrev pub HasHeard : ℕ → ℕ → Option RouteValue → Type 0
  HasHeard iface from b = (r : RouteValue) (until : ℕ) → b ≡ Some r → r.clock ≡ Live until → is_through (gateway_at iface from) r.origin ≡ true → IsHeard r

  -- what a part of the round does
  pub record IsPart (a b c : Option RouteValue) : Type 0 where
    pub row : IsRow a c
    pub at_most : (m : ℕ) → m < infinity → IsAtMost a b m → IsAtMost a c m
    pub heard : (iface from : ℕ) → HasHeard iface from b → HasHeard iface from c

  pub part_refl : (a b : Option RouteValue) → IsRow a b → IsPart a b b
  part_refl a b row = record { row = row; at_most = λ m low was. was; heard = λ i f was. was }

  pub part_trans : (a b c d : Option RouteValue) → IsPart a b c → IsPart a c d → IsPart a b d
  part_trans a b c d x y = record { row = y.row; at_most = λ m low was. y.at_most m low (x.at_most m low was); heard = λ i f was. y.heard i f (x.heard i f was) }

  module _ (is_known : known p) (g : Gateway) (cost_is : g.cost ≡ cost_of_interface net router g.iface) (later : since ≤ g.moment)
      (o : Offer) (told : IsTold net mid router p g.iface g.from o.metric) where
    pub record IsOffered (a b c : Option RouteValue) : Type 0 where
      pub part : IsPart a b c
      pub here : HasHeard g.iface g.from c
      pub bound : metric_through g o < infinity → IsAtMost a c (metric_through g o)

    abbrev M : ℕ
    M = metric_through g o

    M_is : M ≡ through net router g.iface o.metric
    M_is = ap (λ c. min (o.metric + c) infinity) cost_is

    told_positive : 1 ≤ o.metric
    told_positive = by_poison (is_learned_on told.sender_iface told.route.origin) told.told told.positive
      where
        by_poison : (b : Bool) → o.metric ≡ cond b 16 told.route.metric → 1 ≤ told.route.metric → 1 ≤ o.metric
        by_poison true e h = omega arith
        by_poison false e h = omega arith

    M_positive : 1 ≤ M
    M_positive = go o.metric g.cost told_positive
      where
        go : (m c : ℕ) → 1 ≤ m → 1 ≤ min (m + c) 16
        go m c h = omega arith

    heard_taken : (changed : Bool) → M < infinity → IsHeard (record (taken g o) { changed = changed })
    heard_taken changed low =
        record {
          iface = g.iface;
          from = g.from;
          next_hop = o.next_hop;
          until = g.moment + timeout;
          metric = o.metric;
          origin = refl;
          clock = refl;
          timely = later_by later;
          told = told;
          metric_is = M_is;
          low = low;
        }
      where
        later_by : {a b : ℕ} → a ≤ b → a + timeout ≤ b + timeout
        later_by h = omega arith

    -- the offer is taken
    takes : (a b : Option RouteValue) (changed : Bool) → ((q : RouteValue) → a ≡ Some q → q.clock ≡ Fixed → ⊥) → M < infinity → ((m : ℕ) → m < infinity → IsAtMost a b m → (M ≤ m) ⊎ IsRaised a m)
        → IsOffered a b (Some (record (taken g o) { changed = changed }))
    takes a b changed loose low at_most =
        let h = heard_taken changed low in
        let r : RouteValue = record (taken g o) { changed = changed } in
        let all : (i f : ℕ) → HasHeard i f (Some r) = λ i f s until is clock through. subst IsHeard (Some-same r s is) h in
        record {
          part = record {
            row = record { is_known = is_known; positive = M_positive; in_range = as_le low; by_clock = inr h; fixed = λ q is f. absurd (loose q is f) };
            at_most = λ m small was. elim (at_most m small was) [ inl e ↦ inl (r, refl, e) | inr e ↦ inr e ];
            heard = λ i f was. all i f;
          };
          here = all g.iface g.from;
          bound = λ _. inl (r, refl, le_refl M);
        }
      where
        as_le : {a : ℕ} → a < 16 → a ≤ 16
        as_le h = omega arith

    -- nothing changes
    stays : (a b : Option RouteValue) → IsRow a b → HasHeard g.iface g.from b → (M < infinity → IsAtMost a b M) → IsOffered a b b
    stays a b row here bound = record { part = part_refl a b row; here = here; bound = bound }

    clash : true ≡ false → ⊥
    clash e = cc

    reach_low : is_reachable M ≡ true → M < infinity
    reach_low e = ltb-true M infinity e

    reach_high : is_reachable M ≡ false → M ≡ infinity
    reach_high e = go o.metric g.cost e
      where
        go : (m c : ℕ) → nat_lt (min (m + c) 16) 16 ≡ false → min (m + c) 16 ≡ 16
        go m c e = grind (arith, nat_tests)

    -- a route that ages was no fixed one
    loose_live : (a : Option RouteValue) (r : RouteValue) (until : ℕ) → IsRowOf a r → r.clock ≡ Live until → (q : RouteValue) → a ≡ Some q → q.clock ≡ Fixed → ⊥
    loose_live a r until row clock q is f = no (sym clock ∙ ap (λ (x : RouteValue). x.clock) (row.fixed q is f) ∙ f)
      where
        no : Live until ≡ Fixed → ⊥
        no e = cc

    loose_dying : (a : Option RouteValue) (r : RouteValue) (until : ℕ) → IsRowOf a r → r.clock ≡ Dying until → (q : RouteValue) → a ≡ Some q → q.clock ≡ Fixed → ⊥
    loose_dying a r until row clock q is f = no (sym clock ∙ ap (λ (x : RouteValue). x.clock) (row.fixed q is f) ∙ f)
      where
        no : Dying until ≡ Fixed → ⊥
        no e = cc

    -- the gateway of the route speaks
    module _ (a : Option RouteValue) (r : RouteValue) (until : ℕ) (row : IsRowOf a r) (clock : r.clock ≡ Live until)
        (iface from next_hop : ℕ) (origin : r.origin ≡ Learned iface from next_hop) (i_is : iface ≡ g.iface) (f_is : from ≡ g.from)
        (live : ((a ≡ Some r) × (r.metric < infinity)) ⊎ IsHeard r) where
      heard_same : IsHeard r → r.metric ≡ M
      heard_same h =
          let same : Learned h.iface h.from h.next_hop ≡ Learned iface from next_hop = sym h.origin ∙ origin in
          let i : h.iface ≡ g.iface = first h.iface h.from h.next_hop iface from next_hop same ∙ i_is in
          let f : h.from ≡ g.from = second h.iface h.from h.next_hop iface from next_hop same ∙ f_is in
          let t : IsTold net mid router p g.iface g.from h.metric = subst (λ x. IsTold net mid router p g.iface x h.metric) f (subst (λ x. IsTold net mid router p x h.from h.metric) i h.told) in
          h.metric_is ∙ ap₂ (through net router) i (one_told net distinct mid router p g.iface g.from h.metric o.metric t told) ∙ sym M_is
        where
          first : (a b c d e f : ℕ) → Learned a b c ≡ Learned d e f → a ≡ d
          first a b c d e f h = cc

          second : (a b c d e f : ℕ) → Learned a b c ≡ Learned d e f → b ≡ e
          second a b c d e f h = cc

      raised : (m : ℕ) → r.metric ≤ m → a ≡ Some r → r.metric < M → IsRaised a m
      raised m below was above =
          record {
            route = r;
            was = was;
            below = below;
            iface = g.iface;
            from = g.from;
            next_hop = next_hop;
            until = until;
            metric = o.metric;
            origin = origin ∙ ap₂ (λ i f. Learned i f next_hop) i_is f_is;
            clock = clock;
            told = told;
            above = subst (λ n. r.metric < n) M_is above;
          }

      follows : (m : ℕ) → IsAtMost a (Some r) m → (M ≤ m) ⊎ IsRaised a m
      follows m (inr e) = inr e
      follows m (inl e) =
          let below : r.metric ≤ m = subst (λ (x : RouteValue). x.metric ≤ m) (sym (Some-same r e.0 e.1)) e.2 in
          elim live [
            | inl was ↦ elim (split r.metric M) [
              | inl le ↦ inl (le_trans le below)
              | inr lt ↦ inr (raised m below was.0 lt)
            ]
            | inr h ↦ inl (subst (λ n. n ≤ m) (heard_same h) below)
          ]
        where
          split : (a b : ℕ) → (b ≤ a) ⊎ (a < b)
          split a b = grind arith

      fades : (m : ℕ) → m < infinity → M ≡ infinity → IsAtMost a (Some r) m → IsRaised a m
      fades m small high was =
          elim (follows m was) [
            | inl le ↦ absurd (no M m high small le)
            | inr e ↦ e
          ]
        where
          no : (a m : ℕ) → a ≡ 16 → m < 16 → a ≤ m → ⊥
          no a m e f h = omega arith

      speaks : (b : Bool) → is_reachable M ≡ b → IsOffered a (Some r) (Some (cond b (record (taken g o) { changed = r.changed || not (is_repeated g o r) }) (lost g.moment r)))
      speaks true e = takes a (Some r) (r.changed || not (is_repeated g o r)) (loose_live a r until row clock) (reach_low e) (λ m small was. follows m was)
      speaks false e =
          let gone : RouteValue = lost g.moment r in
          let none : (i f : ℕ) → HasHeard i f (Some gone) = λ i f s u is c through. absurd (dead u (ap (λ (x : RouteValue). x.clock) (Some-same gone s is) ∙ c)) in
          record {
            part = record {
              row = record { is_known = is_known; positive = omega arith; in_range = le_refl 16; by_clock = (refl, inr (later_by later)); fixed = λ q is f. absurd (loose_live a r until row clock q is f) };
              at_most = λ m small was. inr (fades m small (reach_high e) was);
              heard = λ i f was. none i f;
            };
            here = none g.iface g.from;
            bound = λ low. absurd (no M (reach_high e) low);
          }
        where
          later_by : {a b : ℕ} → a ≤ b → a + garbage_time ≤ b + garbage_time
          later_by h = omega arith

          no : (m : ℕ) → m ≡ 16 → m < 16 → ⊥
          no m e f = omega arith

          dead : (u : ℕ) → Dying (g.moment + garbage_time) ≡ Live u → ⊥
          dead u e = cc

    and_left : (a b : Bool) → (a && b) ≡ true → a ≡ true
    and_left true b e = refl
    and_left false b e = e

    and_right : (a b : Bool) → (a && b) ≡ true → b ≡ true
    and_right true b e = e
    and_right false b e = absurd (cc)

    preferred_low : (until m a : ℕ) → (nat_lt m a || (m == a && nat_le until (g.moment + half_timeout))) ≡ true → m ≤ a
    preferred_low until m a e = grind (arith, nat_tests)

    not_preferred : (until m a : ℕ) → (nat_lt m a || (m == a && nat_le until (g.moment + half_timeout))) ≡ false → a ≤ m
    not_preferred until m a e = grind (arith, nat_tests)

    live_offered : (a : Option RouteValue) (r : RouteValue) (until : ℕ) → IsRowOf a r → r.clock ≡ Live until → ((a ≡ Some r) × (r.metric < infinity)) ⊎ IsHeard r
        → IsOffered a (Some r) (Some (adopted_by_clock g o r (Live until)))
    live_offered a r until row clock live = by_gateway (is_through g r.origin) refl
      where
        low : r.metric < infinity
        low = elim live [ inl x ↦ x.1 | inr h ↦ h.low ]

        by_origin : (x : Origin) → r.origin ≡ x → is_through g x ≡ true → IsOffered a (Some r) (Some (refreshed g o r))
        by_origin Own is e = absurd (cc)
        by_origin (Learned iface from next_hop) is e =
            speaks a r until row clock iface from next_hop is (eqb-true iface g.iface (and_left (iface == g.iface) (from == g.from) e)) (eqb-true from g.from (and_right (iface == g.iface) (from == g.from) e)) live
            (is_reachable M) refl

        by_preference : (b : Bool) → is_preferred g o r.metric until ≡ b → is_through g r.origin ≡ false → IsOffered a (Some r) (Some (cond b (taken g o) r))
        by_preference true e other =
            let le : M ≤ r.metric = preferred_low until M r.metric e in
            takes a (Some r) true (loose_live a r until row clock) (below le low)
            (λ m small was. elim was [ inl x ↦ inl (le_trans le (subst (λ (y : RouteValue). y.metric ≤ m) (sym (Some-same r x.0 x.1)) x.2)) | inr x ↦ inr x ])
          where
            below : {a b : ℕ} → a ≤ b → b < 16 → a < 16
            below h k = omega arith
        by_preference false e other =
            stays a (Some r) row
            (λ s u is c through. absurd (clash (sym (sym (ap (λ (y : RouteValue). is_through g y.origin) (Some-same r s is)) ∙ other) ∙ through_too s is through)))
            (λ _. inl (r, refl, not_preferred until M r.metric e))
          where
            clash : false ≡ true → ⊥
            clash e = cc

            through_too : (s : RouteValue) → Some r ≡ Some s → is_through (gateway_at g.iface g.from) s.origin ≡ true → is_through g s.origin ≡ true
            through_too s is e = go s.origin e
              where
                go : (x : Origin) → is_through (gateway_at g.iface g.from) x ≡ true → is_through g x ≡ true
                go Own e = e
                go (Learned i f n) e = e

        by_gateway : (b : Bool) → is_through g r.origin ≡ b → IsOffered a (Some r) (Some (cond b (refreshed g o r) (cond (is_preferred g o r.metric until) (taken g o) r)))
        by_gateway true e = by_origin r.origin refl e
        by_gateway false e = by_preference (is_preferred g o r.metric until) refl e

    pub offered : (a b : Option RouteValue) → IsRow a b → IsOffered a b (adopted g b o)
    offered a None row = by_reach (is_reachable M) refl
      where
        by_reach : (x : Bool) → is_reachable M ≡ x → IsOffered a None (cond x (Some (taken g o)) None)
        by_reach true e = takes a None true (λ q is f. absurd (None-Some q (sym row ∙ is))) (reach_low e) (λ m small was. elim was [ inl x ↦ absurd (None-Some x.0 x.1) | inr x ↦ inr x ])
        by_reach false e = stays a None row (λ s u is c t. absurd (None-Some s is)) (λ low. absurd (no M (reach_high e) low))
          where
            no : (m : ℕ) → m ≡ 16 → m < 16 → ⊥
            no m e f = omega arith
    offered a (Some r) row = by_clock r.clock refl row.by_clock
      where
        by_clock : (c : Clock) → r.clock ≡ c → IsByClock a r c → IsOffered a (Some r) (Some (adopted_by_clock g o r c))
        by_clock Fixed is k =
            stays a (Some r) row (λ s u e c t. absurd (fixed u (sym is ∙ ap (λ (x : RouteValue). x.clock) (Some-same r s e) ∙ c))) (λ _. inl (r, refl, least r.metric M k.1 M_positive))
          where
            fixed : (u : ℕ) → Fixed ≡ Live u → ⊥
            fixed u e = cc

            least : (a m : ℕ) → a ≡ 1 → 1 ≤ m → a ≤ m
            least a m e f = omega arith
        by_clock (Live until) is k = live_offered a r until row is k
        by_clock (Dying until) is k = by_reach (is_reachable M) refl
          where
            dead : (u : ℕ) → Dying until ≡ Live u → ⊥
            dead u e = cc

            no : (m : ℕ) → m ≡ 16 → m < 16 → ⊥
            no m e f = omega arith

            high : (a m : ℕ) → a ≡ 16 → a ≤ m → m < 16 → ⊥
            high a m e f h = omega arith

            by_reach : (x : Bool) → is_reachable M ≡ x → IsOffered a (Some r) (Some (cond x (taken g o) r))
            by_reach true e =
                takes a (Some r) true (loose_dying a r until row is) (reach_low e)
                (λ m small was. elim was [ inl x ↦ absurd (high r.metric m k.0 (subst (λ (y : RouteValue). y.metric ≤ m) (sym (Some-same r x.0 x.1)) x.2) small) | inr x ↦ inr x ])
            by_reach false e =
                stays a (Some r) row (λ s u h c t. absurd (dead u (sym is ∙ ap (λ (x : RouteValue). x.clock) (Some-same r s h) ∙ c))) (λ low. absurd (no M (reach_high e) low))
