-- Along a phase a route that is no dearer than a walk stays, where all that is held is backed and all that is told is found.
use Rattle.std.proofs.Common.{◌≡◌, ◌≢◌, ◌⊎◌, inl, inr, ℕ, zero, suc, ◌+◌, max, ◌<◌, ◌≤◌, true, false, cond, nat_le, List, ◌∷◌, ◌++◌, length, Some, option_and_then, slice_get, refl, ap, sym, subst, ◌∙◌, arith, le_trans}
use Rattle.std.specs.FinMap as map_of
use Rattle.std.proofs.lemmas.Bool.Decides.{nat_tests}
use Rattle.std.proofs.lemmas.Option.{slice_get_within}
use Rattle.prefix6.specs.Prefix.{Prefix6}
use Rattle.ripng_wire.specs.declared.rte.Rte.{Rte}
use Rattle.route_table.specs.Route.{RouteValue, infinity}
use Rattle.route_table.specs.declared.route.Clock.{Clock}
use Rattle.route_table.specs.declared.route.Clock.TheVariants.{Fixed, Live, Dying}
use Rattle.route_table.specs.declared.route.Origin.TheVariants.{Own}
use Rattle.route_table.proofs.TableLaws.{Some-same}
use Rattle.router_core.specs.Adoption.{Gateway, lost, is_through}
use Rattle.router_core.specs.Ageing.{aged, aged_by_clock, without_mark}
use Rattle.router_core.specs.Machine.{State, gateway_of, hearing_of}
use Rattle.router_core.specs.Offers.{prefix_named}
use Rattle.router_core.specs.Timers.{timeout, garbage_time}
use Rattle.router_core.specs.declared.answer.Answer.{Answer}
use Rattle.ripng_world.specs.Network.{Network, AreLinked, HasDistinctAddresses}
use Rattle.ripng_world.specs.Rounds.{router_of, moment_of}
use Rattle.ripng_world.specs.Truth.{IsNeighbor}
use Rattle.ripng_world.specs.Walks.{Hop, Reaches, cost_of_interface}
use Rattle.ripng_world.specs.World.{World, Event, Deliver, Happens, address_at, arrival_of}
use Rattle.ripng_world.proofs.HealPlain.{IsClocked}
use Rattle.ripng_world.proofs.Members.{At}
use Rattle.ripng_world.proofs.RoundNeighbors.{neighbor, is_another, one_sender}
use Rattle.ripng_world.proofs.RoundStays.{event_stays}
use Rattle.ripng_world.proofs.WorldRuns.{not_own}
use Rattle.ripng_phases.specs.Phases.{Step, IsOrdinary, Before, reached}
use Rattle.ripng_phases.proofs.Along.{along}
use Rattle.ripng_phases.proofs.Bounding.{SaidAbove}
use Rattle.ripng_phases.proofs.Calm.{Within, near_now, recent_now, orderly_here, orderly_next, tells_here, held_all, at_next}
use Rattle.ripng_phases.proofs.Fresh.{address_is, one_gateway, linked_back}
use Rattle.ripng_phases.proofs.Held.{AllHeld, still_ahead}
use Rattle.ripng_phases.proofs.Lower.{IsPositive, NoneOld, IsLow, low_at}
use Rattle.ripng_phases.proofs.Moving.{IsStep, HearsHere, step_of}
use Rattle.ripng_phases.proofs.Orderly.{IsOrderly, IsOrderlyBy}
use Rattle.ripng_phases.proofs.Resting.{IsAbove, IsRestingOn}
use Rattle.ripng_phases.proofs.Updating.{IsCalmPart}
use Rattle.ripng_phases.proofs.Upper.{HasBetter, cheaper, Has, Found, SaidFull, WalkFrom, backed_by, heard_stays, told_full}

-- ---- one event

module _ (net : Network) (known : Prefix6 → Type 0) (positive : IsPositive net) (distinct : HasDistinctAddresses net) (v v' : World) (e : Event) (answer : Answer) (plain : IsOrdinary e) (h : Happens net v e answer v')
    (orderly : IsOrderly net known v) (first : ℕ) (moments : ℕ → ℕ → Type 0) (held : AllHeld net v first moments NoneOld) (near : (x : ℕ) → moments (router_of e) x → moment_of e < x + garbage_time)
    (m : ℕ) (said : SaidAbove net v first m) (recent : (datagram router iface now : ℕ) → e ≡ Deliver datagram router iface now → first ≤ datagram)
    (X : Type 0) (router : ℕ) (p : Prefix6) (bound : ℕ) (low : bound < infinity) (few : bound ≤ m)
    (full : (s t : State) → slice_get v.states router ≡ Some s → (here : HearsHere net v e answer router s t) (entry : Rte) → At here.hears.entries entry → prefix_named entry ≡ p → (z tag : ℕ) (walk : List Hop) → Reaches net here.sent.router p z tag walk
    → cost_of_interface net router here.iface + z ≤ bound → (entry.metric ≤ z) ⊎ X) where
  dead : (a b : ℕ) → a ≡ 16 → a ≤ b → b < 16 → ⊥
  dead a b e f g = omega arith

  small : (a b : ℕ) → a ≤ b → b < 16 → a < 16
  small a b e f = omega arith

  module _ (s t : State) (s_is : slice_get v.states router ≡ Some s) (t_is : slice_get v'.states router ≡ Some t) (step : IsStep net v e answer router s t) (r : RouteValue) (r_is : map_of.get s.table p ≡ Some r) (le : r.metric ≤ bound) where
    not_lost : (until : ℕ) → r.clock ≡ Dying until → ⊥
    not_lost until is = dead r.metric bound (subst (IsClocked r.metric) is ((orderly.states router s s_is).plain p r r_is).clocked) le low

    -- it ages
    ages : aged t.last r ≡ Some r
    ages = by_clock r.clock refl
      where
        by_clock : (c : Clock) → r.clock ≡ c → aged t.last r ≡ Some r
        by_clock Fixed is = ap (aged_by_clock t.last r) is
        by_clock (Dying until) is = absurd (not_lost until is)
        by_clock (Live until) is = ap (aged_by_clock t.last r) is ∙ ap (λ b. cond b (Some (lost t.last r)) (Some r)) (not_yet until t.last ahead)
          where
            below : (n s u : ℕ) → n < s + garbage_time → s + timeout ≤ u → n < u
            below n s u a b = omega arith

            not_yet : (u n : ℕ) → n < u → nat_le u n ≡ false
            not_yet u n k = grind (arith, nat_tests)

            ahead : t.last < until
            ahead = elim (held router p r until (s, s_is, r_is) is) [
              | inl x ↦ still_ahead net v e answer router s t step until x.ahead (λ here. below (moment_of e) x.since until (near x.since (subst (λ k. moments k x.since) (sym here) x.since_is)) x.within)
              | inr x ↦ absurd x
            ]

    -- it hears a datagram
    module _ (here : HearsHere net v e answer router s t) where
      abbrev n : ℕ
      n = max s.last here.now

      abbrev g : Gateway
      g = gateway_of s (max s.last here.now) (arrival_of net here.sent here.iface here.now)

      other : router ≢ here.sent.router
      other =
          let o = orderly.states router s s_is in
          is_another net orderly.zoned here.sent router here.iface s o.node o.node_is o.config_is here.linked (not_own s.config (arrival_of net here.sent here.iface here.now) here.clean here.response)

      neighbors : IsNeighbor net router (gateway_of s (max s.last here.now) (arrival_of net here.sent here.iface here.now)) here.sent.router here.sent.iface
      neighbors = let o = orderly.states router s s_is in neighbor net here.sent router here.iface n here.now s o.node o.node_is o.config_is here.linked other

      some : 1 ≤ (gateway_of s (max s.last here.now) (arrival_of net here.sent here.iface here.now)).cost
      some = subst (λ c. 1 ≤ c) (sym neighbors.cost) (positive router here.iface here.linked.there here.linked.there_is)

      from_gateway : is_through g r.origin ≡ true → WalkFrom net known positive (gateway_of s (max s.last here.now) (arrival_of net here.sent here.iface here.now)).cost here.sent.router p r.metric
      from_gateway goes = by_clock r.clock refl ((orderly.states router s s_is).by_clock p r r_is)
        where
          not_own_route : is_through g Own ≡ true → ⊥
          not_own_route f = cc

          by_rests : (x : IsRestingOn net v first router p r) → WalkFrom net known positive (gateway_of s (max s.last here.now) (arrival_of net here.sent here.iface here.now)).cost here.sent.router p r.metric
          by_rests x =
              let same = one_gateway net here.iface (address_at net here.sent.router here.sent.iface) x.iface (address_at net x.sent.router x.sent.iface) x.next_hop (sym (ap (is_through g) x.origin) ∙ goes) in
              let sender = one_sender net distinct router here.iface (address_at net here.sent.router here.sent.iface) x.sent.router x.sent.iface here.sent.router here.sent.iface
              (subst (λ i. AreLinked net router i x.sent.router x.sent.iface) same.0 x.linked) (linked_back net here.sent.router here.sent.iface router here.iface here.linked)
              (address_is net x.sent.router x.sent.iface x.linked.there x.linked.there_is ∙ ap Some same.1) (address_is net here.sent.router here.sent.iface here.linked.here here.linked.here_is) in
              subst (λ c. WalkFrom net known positive c here.sent.router p r.metric) (ap (cost_of_interface net router) same.0 ∙ sym neighbors.cost)
              (subst (λ k. WalkFrom net known positive (cost_of_interface net router x.iface) k p r.metric) sender.0
              (backed_by net known positive v orderly first moments held m said router p r (small r.metric bound le low) (le_trans le few) x))

          by_clock : (c : Clock) → r.clock ≡ c → IsOrderlyBy net router s.last p r c → WalkFrom net known positive (gateway_of s (max s.last here.now) (arrival_of net here.sent here.iface here.now)).cost here.sent.router p r.metric
          by_clock Fixed is own = absurd (not_own_route (sym (ap (is_through g) own.0) ∙ goes))
          by_clock (Dying until) is own = absurd (not_lost until is)
          by_clock (Live until) is own = elim (held router p r until (s, s_is, r_is) is) [ inl x ↦ by_rests x.rests | inr x ↦ absurd x ]

      heard : Has v' router p bound ⊎ X
      heard =
          elim (heard_stays net known positive here.sent.router g some p bound m low few X (hearing_of s (max s.last here.now) (arrival_of net here.sent here.iface here.now) here.hears.entries answer.notes) refl here.hears.table
          (λ entry stands names. record {
            above = λ lw. subst (λ q. IsAbove net m here.sent.router q entry.metric) names
                (said here.datagram here.sent (recent here.datagram router here.iface here.now here.event) here.sent_is here.hears.entries here.hears.read entry stands lw);
            full = λ z tag walk reach sum. full s t s_is here entry stands names z tag walk reach (subst (λ c. c + z ≤ bound) neighbors.cost sum);
          })
          here.hears.heard (inl (r, r_is, record { le = le; up = not_lost; from = from_gateway }))) [
            | inl x ↦ inl (x.0, (t, t_is, ap (λ (y : State). map_of.get y.table p) here.hears.state ∙ x.1), x.2.le)
            | inr x ↦ inr x
          ]

    by_step : Has v' router p bound ⊎ X
    by_step = by step
      where
        by : IsStep net v e answer router s t → Has v' router p bound ⊎ X
        by (inl waits) = inl (r, (t, t_is, ap (λ x. map_of.get x p) waits.table ∙ r_is), le)
        by (inr (inl ageing)) = elim (ageing.row p) [
          | inl row ↦ inl (r, (t, t_is, row ∙ ap (option_and_then (aged t.last)) r_is ∙ ages), le)
          | inr row ↦ inl (record r { changed = false }, (t, t_is, row ∙ ap (λ o. option_and_then without_mark (option_and_then (aged t.last) o)) r_is ∙ ap (option_and_then without_mark) ages), le)
        ]
        by (inr (inr here)) = heard here

  pub step_found : Has v router p bound → Has v' router p bound ⊎ X
  step_found f =
      let t = event_stays net v v' e answer h router f.1.0 f.1.1 in
      let from = step_of net v v' e answer plain h router t.0 t.1 in
      let same : f.1.0 ≡ from.0 = Some-same f.1.0 from.0 (sym f.1.1 ∙ from.1) in
      by_step from.0 t.0 from.1 t.1 from.2 f.0 (ap (λ (x : State). map_of.get x.table p) (sym same) ∙ f.1.2) f.2

-- ---- a phase

module _ (net : Network) (known : Prefix6 → Type 0) (positive : IsPositive net) (past : Before) (w : World) (steps : List Step) (w' : World) (calm : IsCalmPart net known past w steps w')
    (le : past.first ≤ length w.sent) (held : AllHeld net w past.first past.moments NoneOld) (m : ℕ) (said : SaidAbove net w past.first m)
    (d f : ℕ) (f_le : f ≤ d) (d_le : d ≤ f + 1) (few : d ≤ m) where
  -- all walks of at most that cost are found, and told in this phase; up to another cost they were told since the one before
  pub record IsFoundAt (v : World) : Type 0 where
    pub found : Found net v d
    pub full : SaidFull net v past.first f
    pub told : SaidFull net v (length w.sent) d

  fewer : (v : World) → Found net v d → Found net v f
  fewer v found router p metric tag walk reach small low = found router p metric tag walk reach (le_trans small f_le) low

  module _ (before : List Step) (s : Step) (after : List Step) (parts : steps ≡ before ++ s ∷ after) (plain : IsOrdinary s.event) (h : Happens net (reached w before) s.event s.answer s.after) (now : IsFoundAt (reached w before)) where
    one : (router : ℕ) (p : Prefix6) (metric : ℕ) → metric ≤ d → metric < infinity → Has (reached w before) router p metric → Has s.after router p metric ⊎ HasBetter net router p metric
    one router p metric small low =
        step_found net known positive calm.distinct (reached w before) s.after s.event s.answer plain h (orderly_here net known past w steps w' calm before s after parts) past.first (Within past steps)
        (held_all net known past w steps w' calm le NoneOld held before (s ∷ after) parts) (near_now net known past w steps w' calm before s after parts)
        m (low_at net known positive past w steps w' calm m held said before (s ∷ after) parts).said (recent_now net known past w steps w' calm before s after parts)
        (HasBetter net router p metric) router p metric low (le_trans small few)
        (λ x t x_is here entry stands names z tag walk reach sum.
        elim (now.full here.datagram here.sent (recent_now net known past w steps w' calm before s after parts here.datagram router here.iface here.now here.event) here.sent_is here.hears.entries here.hears.read entry stands z tag walk
        (subst (λ q. Reaches net here.sent.router q z tag walk) (sym names) reach)
        (less (cost_of_interface net router here.iface) z metric d f (positive router here.iface here.linked.there here.linked.there_is) sum small d_le) (below (cost_of_interface net router here.iface) z metric sum low)) [
          | inl y ↦ inl y
          | inr y ↦ inr (cheaper net router p metric (cost_of_interface net router here.iface + z) sum
              (subst (λ q. HasBetter net router q (cost_of_interface net router here.iface + z)) names (y router here.iface (linked_back net here.sent.router here.sent.iface router here.iface here.linked))))
        ])
      where
        less : (c z n d f : ℕ) → 1 ≤ c → c + z ≤ n → n ≤ d → d ≤ f + 1 → z ≤ f
        less c z n d f a b e g = omega arith

        below : (c z n : ℕ) → c + z ≤ n → n < 16 → z < 16
        below c z n a b = omega arith

    again : (fuel router : ℕ) (p : Prefix6) (metric tag : ℕ) (walk : List Hop) → metric < fuel → Reaches net router p metric tag walk → metric ≤ d → metric < infinity → Has s.after router p metric
    again zero router p metric tag walk enough reach small low = absurd (omega (arith, enough))
    again (suc fuel) router p metric tag walk enough reach small low =
        elim (one router p metric small low (now.found router p metric tag walk reach small low)) [
          | inl x ↦ x
          | inr b ↦
              let x = again fuel router p b.0 b.1 b.2 (fewer_left b.0 metric fuel b.4 enough) b.3 (as_small b.0 metric d b.4 small) (as_small_too b.0 metric b.4 low) in
              (x.0, x.1, no_dearer x.0.metric b.0 metric x.2 b.4)
        ]
      where
        fewer_left : (a b n : ℕ) → a < b → b < suc n → a < n
        fewer_left a b n e f = omega arith

        as_small : (a b d : ℕ) → a < b → b ≤ d → a ≤ d
        as_small a b d e f = omega arith

        as_small_too : (a b : ℕ) → a < b → b < 16 → a < 16
        as_small_too a b e f = omega arith

        no_dearer : (x a b : ℕ) → x ≤ a → a < b → x ≤ b
        no_dearer x a b e f = omega arith

    found_next : Found net s.after d
    found_next router p metric tag walk reach small low = again (suc metric) router p metric tag walk (one_more metric) reach small low
      where
        one_more : (n : ℕ) → n < suc n
        one_more n = omega arith

    next : IsFoundAt s.after
    next =
        let tells = tells_here net known past w steps w' calm before s after parts plain h in
        let orderly = orderly_next net known past w steps w' calm before s after parts in
        let held' = at_next net known past w steps w' calm before s after parts (λ v. AllHeld net v past.first (Within past steps) NoneOld) (held_all net known past w steps w' calm le NoneOld held) in
        let low = at_next net known past w steps w' calm before s after parts (IsLow net known positive past w steps w' calm past.first m (length w.sent)) (low_at net known positive past w steps w' calm m held said) in
        record {
          found = found_next;
          full = told_full net known positive s.after orderly past.first (Within past steps) held' m low.said calm.fits (reached w before) tells past.first f (le_trans f_le few) (fewer s.after found_next) now.full;
          told = told_full net known positive s.after orderly past.first (Within past steps) held' m low.said calm.fits (reached w before) tells (length w.sent) d few found_next now.told;
        }

  pub found_at : Found net w d → SaidFull net w past.first f → (before after : List Step) → steps ≡ before ++ after → IsFoundAt (reached w before)
  found_at found full before after parts =
      along net w w' steps calm.begun.takes (λ _ v. IsFoundAt v) (λ b s a is plain h memory now. next b s a is plain h now) before after parts
      (record { found = found; full = full; told = none_told })
    where
      none_told : SaidFull net w (length w.sent) d
      none_told i x late is = absurd (no i (length w.sent) late (slice_get_within w.sent i x is))
        where
          no : (i n : ℕ) → n ≤ i → i < n → ⊥
          no i n a b = omega arith
