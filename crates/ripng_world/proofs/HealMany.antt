-- Rounds one after another, from any state: thirteen until what was held before has run out, and then thirteen in which all that
-- no walk backs counts to infinity, while every walk is found.
use Rattle.std.proofs.Common.{◌≡◌, ◌⊎◌, inl, inr, ℕ, suc, ◌+◌, ◌-◌, max, ◌<◌, ◌≤◌, List, [], ◌∷◌, length, Option, Some, option_map, unwrap_or, slice_get, refl, ap, sym, subst, ◌∙◌, arith, le_trans}
use Rattle.std.specs.FinMap as map_of
use Rattle.prefix6.specs.Prefix.{Prefix6}
use Rattle.route_table.specs.Route.{RouteValue, infinity}
use Rattle.route_table.specs.declared.route.Origin.{Origin}
use Rattle.route_table.specs.declared.route.Origin.TheVariants.{Own, Learned}
use Rattle.route_table.specs.declared.route.Clock.{Clock}
use Rattle.route_table.specs.declared.route.Clock.TheVariants.{Fixed, Live, Dying}
use Rattle.route_table.proofs.TableLaws.{Some-same}
use Rattle.router_core.specs.Timers.{garbage_time}
use Rattle.router_core.specs.Machine.{State}
use Rattle.ripng_world.specs.declared.network.NetInterface.{NetInterface}
use Rattle.ripng_world.specs.Network.{Network, AreZoned, HasDistinctAddresses, IsUsable, interface_at}
use Rattle.ripng_world.specs.Walks.{BeginsAs, Hop, Reaches, IsLeast, cost, cost_of_interface}
use Rattle.ripng_world.specs.Convergence.{IsNeverQuiet}
use Rattle.ripng_world.specs.Healing.{IsTickOf, AreWithinGarbageTimeAfter, IsLed, IsHealed, AreHealed}
use Rattle.ripng_world.specs.World.{World}
use Rattle.ripng_world.specs.Rounds.{Round, IsMomentOf, IsSynchronousRound, SynchronousRounds}
use Rattle.ripng_world.proofs.Improving.{one_route}
use Rattle.ripng_world.proofs.HealHearing.{AreFew}
use Rattle.ripng_world.proofs.HealPlain.{IsClocked}
use Rattle.ripng_world.proofs.HealTicks.{IsPlain}
use Rattle.ripng_world.proofs.HealRounds.{IsRoundOf, round_done}
use Rattle.ripng_world.proofs.HealStates.{IsSteady, IsSteadyBy, IsSteadyState, IsTickMoment}
use Rattle.ripng_world.proofs.HealSteady.{steady_after}
use Rattle.ripng_world.proofs.HealExact.{AreFound, found_more, found_own}

-- the rounds that are left in which routes of before may be held, and what is told of unbacked routes, after so many rounds
abbrev pub left_after : ℕ → ℕ
left_after k = 13 - k

abbrev pub bound_after : ℕ → ℕ
bound_after k = 3 + (k - 12)

-- a learned route goes to the gateway that told it
abbrev pub IsToGateway : Origin → Type 0
IsToGateway Own = Unit {0}
IsToGateway (Learned iface from next_hop) = next_hop ≡ from

-- so do all routes below infinity
abbrev pub AreToGateways : World → Type 0
AreToGateways w =
    (router : ℕ) (s : State) → slice_get w.states router ≡ Some s → (p : Prefix6) (r : RouteValue) → map_of.get s.table p ≡ Some r → r.metric < infinity → IsToGateway r.origin

-- a router's moment is close to its last tick
abbrev pub AreSoon : World → (ℕ → ℕ → Type 0) → (ℕ → ℕ → Type 0) → Type 0
AreSoon w recent before =
    (router : ℕ) (s : State) (e : ℕ) → slice_get w.states router ≡ Some s → recent router e → (s.last < e + garbage_time) × ((x : ℕ) × before router x × (x ≤ e))

module _ (net : Network) (usable : IsUsable net) (noisy : IsNeverQuiet net) (distinct : HasDistinctAddresses net) (zoned : AreZoned net) (known : Prefix6 → Type 0) (fits : AreFew net known) where
  positive : (router iface : ℕ) (here : NetInterface) → interface_at net router iface ≡ Some here → 1 ≤ cost_of_interface net router iface
  positive router iface here is =
      subst (λ (o : Option NetInterface). 1 ≤ unwrap_or (option_map (λ i. i.interface.cost) o) infinity) (sym is) (usable.costs router iface here is).0

  reach_positive : (router : ℕ) (p : Prefix6) (metric tag : ℕ) (walk : List Hop) → Reaches net router p metric tag walk → 1 ≤ metric
  reach_positive router p metric tag [] reach = as_le reach.costs
    where
      as_le : {m : ℕ} → 1 ≡ m → 1 ≤ m
      as_le e = omega arith
  reach_positive router p metric tag (h ∷ rest) reach =
      at_least (cost_of_interface net router h.iface) (cost net h.router rest) metric (positive router h.iface reach.is_walk.0.1.here reach.is_walk.0.1.here_is) reach.costs
    where
      at_least : (c v m : ℕ) → 1 ≤ c → c + v ≡ m → 1 ≤ m
      at_least c v m a e = omega arith

  fewer_found : (w : World) (recent : ℕ → ℕ → Type 0) (d d' : ℕ) → d' ≤ d → AreFound net w recent d → AreFound net w recent d'
  fewer_found w recent d d' le found router p metric tag walk reach few low = found router p metric tag walk reach (le_trans few le) low

  -- ---- one round more

  module _ (k : ℕ) (recent before : ℕ → ℕ → Type 0) (w w' : World) (round : Round) (synchronous : IsSynchronousRound net w round w')
      (steady : IsSteady net known w recent (left_after k) (bound_after k)) (found : AreFound net w recent (k - 11)) (soon : AreSoon w recent before)
      (ticks_close : (router x y : ℕ) → before router x → IsTickOf round router y → y < x + garbage_time)
      (close : (router x y : ℕ) → IsTickOf round router x → IsMomentOf round router y → y < x + garbage_time) where
    abbrev pub mid : World
    mid = synchronous.after_ticks

    plain : (router : ℕ) (s : State) → slice_get w.states router ≡ Some s → IsPlain net usable noisy known fits mid router s
    plain router s is = let t = steady.states router s is in record { node = t.node; node_is = t.node_is; config_is = t.config_is; rows = t.plain }

    did : IsRoundOf net distinct known w mid w' round
    did = round_done net usable noisy distinct zoned known fits w w' round synchronous close plain

    near : (router : ℕ) (s : State) (now e : ℕ) → slice_get w.states router ≡ Some s → IsTickOf round router now → recent router e → max s.last now < e + garbage_time
    near router s now e is tick recently =
        let a = soon router s e is recently in
        both s.last now e a.1.0 a.0 (ticks_close router a.1.0 now a.1.1 tick) a.1.2
      where
        both : (l n e x : ℕ) → l < e + garbage_time → n < x + garbage_time → x ≤ e → max l n < e + garbage_time
        both l n e x a b c = omega arith

    pub steady_next : IsSteady net known w' (IsTickMoment mid) (left_after (suc k)) (bound_after (suc k))
    steady_next =
        subst (λ left. IsSteady net known w' (IsTickMoment mid) left (bound_after (suc k))) (fewer k)
        (steady_after net distinct positive known w mid w' round did recent (left_after k) (bound_after k) steady near (bound_after (suc k)) (one_more k) (at_first k))
      where
        fewer : (k : ℕ) → (13 - k) - 1 ≡ 13 - suc k
        fewer k = omega arith

        one_more : (k : ℕ) → 3 + (suc k - 12) ≤ 3 + (k - 12) + 1
        one_more k = omega arith

        at_first : (k : ℕ) → 1 ≤ 13 - k - 1 → 3 + (suc k - 12) ≤ 3
        at_first k h = omega arith

    pub found_next : AreFound net w' (IsTickMoment mid) (suc k - 11)
    found_next = by_stage (split k)
      where
        split : (k : ℕ) → (k < 12) ⊎ (12 ≤ k)
        split k = grind arith

        early : (k : ℕ) → k < 12 → suc k - 11 ≤ 1
        early k h = omega arith

        none_left : (k : ℕ) → 12 ≤ k → 1 ≤ 13 - k - 1 → ⊥
        none_left k h e = omega arith

        below : (k : ℕ) → 12 ≤ k → k - 11 + 1 < 3 + (k - 12)
        below k h = omega arith

        more : (k : ℕ) → 12 ≤ k → k - 11 + 1 ≡ suc k - 11
        more k h = omega arith

        fewer : (k : ℕ) → 13 - suc k ≡ (13 - k) - 1
        fewer k = omega arith

        by_stage : (k < 12) ⊎ (12 ≤ k) → AreFound net w' (IsTickMoment mid) (suc k - 11)
        by_stage (inl h) =
            fewer_found w' (IsTickMoment mid) 1 (suc k - 11) (early k h)
            (found_own net positive known w' (IsTickMoment mid) (left_after (suc k)) (bound_after (suc k)) steady_next reach_positive)
        by_stage (inr h) =
            subst (AreFound net w' (IsTickMoment mid)) (more k h)
            (found_more net distinct positive known w mid w' round did recent (left_after k) (bound_after k) steady near (none_left k h) (k - 11) (below k h) found
            (bound_after (suc k)) (subst (λ left. IsSteady net known w' (IsTickMoment mid) left (bound_after (suc k))) (fewer k) steady_next))

    pub soon_next : AreSoon w' (IsTickMoment mid) (IsTickOf round)
    soon_next router s e is recently =
        let h = did.heard router s is in
        let same : h.old ≡ recently.0 = Some-same h.old recently.0 (sym h.old_is ∙ recently.1) in
        let came = did.came router recently.0 recently.1 in
        let t = did.ticked router came.0 came.1 in
        let same_tick : t.after ≡ recently.0 = Some-same t.after recently.0 (sym t.after_is ∙ recently.1) in (
          moved s.last h.old.last e h.soon (sym (recently.2 ∙ ap (λ (x : State). x.last) (sym same))),
          (t.now, t.tick, after came.0.last t.now e (recently.2 ∙ ap (λ (x : State). x.last) (sym same_tick) ∙ t.ticked.last)),
        )
      where
        moved : (l o e : ℕ) → l < o + garbage_time → o ≡ e → l < e + garbage_time
        moved l o e a b = omega arith

        after : (l n e : ℕ) → e ≡ max l n → n ≤ e
        after l n e a = omega arith

  -- ---- all rounds

  pub record IsAt (k : ℕ) (w : World) : Type 1 where
    pub recent : ℕ → ℕ → Type 0
    pub steady : IsSteady net known w recent (left_after k) (bound_after k)
    pub found : AreFound net w recent (k - 11)

  pub rounds_on : (rounds : List Round) (k : ℕ) (recent before : ℕ → ℕ → Type 0) (w w' : World) → IsSteady net known w recent (left_after k) (bound_after k) → AreFound net w recent (k - 11) → AreSoon w recent before
      → AreWithinGarbageTimeAfter before rounds → SynchronousRounds net w rounds w' → IsAt (k + length rounds) w'
  rounds_on [] k recent before w w' steady found soon close is =
      subst (λ n. IsAt n w') (zero_more k) (subst (IsAt k) (sym is) (record { recent = recent; steady = steady; found = found }))
    where
      zero_more : (n : ℕ) → n ≡ n + 0
      zero_more n = omega arith
  rounds_on (round ∷ rounds) k recent before w w' steady found soon close run =
      subst (λ n. IsAt n w') (shifted k (length rounds))
      (rounds_on rounds (suc k) (IsTickMoment run.1.after_ticks) (IsTickOf round) run.0 w'
      (steady_next k recent before w run.0 round run.1 steady found soon close.0 close.1)
      (found_next k recent before w run.0 round run.1 steady found soon close.0 close.1)
      (soon_next k recent before w run.0 round run.1 steady found soon close.0 close.1) close.2 run.2)
    where
      shifted : (a b : ℕ) → suc a + b ≡ a + suc b
      shifted a b = omega arith

  -- ---- what is left in the end

  module _ (k : ℕ) (many : 26 ≤ k) (w : World) (here : IsAt k w) (to_gateways : AreToGateways w) where
    no_more : {k : ℕ} → 26 ≤ k → 1 ≤ 13 - k → ⊥
    no_more e f = omega arith

    no_high : (k a : ℕ) → 26 ≤ k → 3 + (k - 12) ≤ a → a < 16 → ⊥
    no_high k a e f g = omega arith

    few : (k c : ℕ) → 26 ≤ k → c < 16 → c ≤ k - 11
    few k c e f = omega arith

    small : (a b : ℕ) → a ≤ b → b < 16 → a < 16
    small a b e f = omega arith

    same : (a b : ℕ) → a ≤ b → b ≤ a → a ≡ b
    same a b e f = omega arith

    module _ (router : ℕ) (s : State) (is : slice_get w.states router ≡ Some s) where
      state : IsSteadyState net known w here.recent (left_after k) (bound_after k) router s
      state = here.steady.states router s is

      -- no walk is missed
      no_dearer : (p : Prefix6) (r : RouteValue) → map_of.get s.table p ≡ Some r → (metric tag : ℕ) (walk : List Hop) → Reaches net router p metric tag walk → metric < infinity → r.metric ≤ metric
      no_dearer p r at metric tag walk reach low =
          let f = here.found router p metric tag walk reach (few k metric many low) low in
          subst (λ (x : RouteValue). x.metric ≤ metric) (one_route w router p f.0 r f.1 (s, is, at)) f.2

      -- a route below infinity is backed by a walk that is no dearer, and begins as its origin says
      backed : (p : Prefix6) (r : RouteValue) → map_of.get s.table p ≡ Some r → r.metric < infinity
          → (c : ℕ) × (tag : ℕ) × (walk : List Hop) × Reaches net router p c tag walk × (c ≤ r.metric) × BeginsAs net r.origin walk
      backed p r at low = by_clock r.clock (state.plain p r at).clocked (state.steady p r at)
        where
          as_le : (a : ℕ) → a ≡ 1 → 1 ≤ a
          as_le a e = omega arith

          dead : (a : ℕ) → a ≡ 16 → a < 16 → ⊥
          dead a e f = omega arith

          by_clock : (c : Clock) → IsClocked r.metric c → IsSteadyBy net w here.recent (left_after k) (bound_after k) router (max s.last s.regular) p r c
              → (c : ℕ) × (tag : ℕ) × (walk : List Hop) × Reaches net router p c tag walk × (c ≤ r.metric) × BeginsAs net r.origin walk
          by_clock Fixed e row = (1, row.1.0, [], record { is_walk = tt; costs = refl; owner = row.1.1 }, as_le r.metric e, subst (λ o. BeginsAs net o []) (sym row.0) tt)
          by_clock (Dying until) e row = absurd (dead r.metric e low)
          by_clock (Live until) e row =
              elim row.4 [
                | inl x ↦ absurd (no_more many x.some)
                | inr x ↦ elim x.above [
                  | inl y ↦ absurd (no_high k r.metric many y low)
                  | inr y ↦ (
                    cost_of_interface net router row.0 + y.0,
                    y.1,
                    record { iface = row.0; router = x.sender; router_iface = x.sender_iface } ∷ y.2,
                    record { is_walk = ((x.apart, x.linked), y.3.is_walk); costs = ap (λ n. cost_of_interface net router row.0 + n) y.3.costs; owner = y.3.owner },
                    y.4,
                    subst (λ o. BeginsAs net o (record { iface = row.0; router = x.sender; router_iface = x.sender_iface } ∷ y.2)) (sym row.3)
                        (refl, x.from_is, subst IsToGateway row.3 (to_gateways router s is p r at low)),
                  )
                ]
              ]

      is_led : IsLed net router s.table
      is_led p r at low =
          let b = backed p r at low in
          (b.2, (b.1, subst (λ n. Reaches net router p n b.1 b.2) (same b.0 r.metric b.4 (no_dearer p r at b.0 b.1 b.2 b.3 (small b.0 r.metric b.4 low))) b.3), b.5)

      is_least : (p : Prefix6) (r : RouteValue) → map_of.get s.table p ≡ Some r → r.metric < infinity → IsLeast net router p r.metric
      is_least p r at low =
          let l = is_led p r at low in
          record {
            reached = (l.1.0, l.0, l.1.1);
            least = λ metric tag walk reach. by_size metric tag walk reach;
          }
        where
          split : (n : ℕ) → (n < 16) ⊎ (16 ≤ n)
          split n = grind arith

          above : (a b : ℕ) → a < 16 → 16 ≤ b → a ≤ b
          above a b e f = omega arith

          by_size : (metric tag : ℕ) (walk : List Hop) → Reaches net router p metric tag walk → r.metric ≤ metric
          by_size metric tag walk reach = elim (split metric) [
            | inl e ↦ no_dearer p r at metric tag walk reach e
            | inr e ↦ above r.metric metric low e
          ]

      pub is_healed : IsHealed net router s.table
      is_healed =
          record {
            least = is_least;
            led = is_led;
            found = λ p metric l low. all_found p metric l low;
          }
        where
          all_found : (p : Prefix6) (metric : ℕ) → IsLeast net router p metric → metric < infinity → (r : RouteValue) × (map_of.get s.table p ≡ Some r) × (r.metric ≡ metric)
          all_found p metric l low =
              let f = here.found router p metric l.reached.0 l.reached.1 l.reached.2 (few k metric many low) low in
              let at : map_of.get s.table p ≡ Some f.0 = ap (λ (x : State). map_of.get x.table p) (Some-same s f.1.0 (sym is ∙ f.1.1)) ∙ f.1.2 in
              let b = is_least p f.0 at (small f.0.metric metric f.2 low) in
              (f.0, at, same f.0.metric metric f.2 (l.least f.0.metric b.reached.0 b.reached.1 b.reached.2))

    pub all_healed : AreHealed net w
    all_healed router s is = is_healed router s is

  -- from a steady network
  pub heals : (rounds : List Round) (w w' : World) → IsSteady net known w (λ _ _. ⊥) 13 3 → AreWithinGarbageTimeAfter (λ _ _. ⊥) rounds → SynchronousRounds net w rounds w' → 26 ≤ length rounds → AreToGateways w' → AreHealed net w'
  heals rounds w w' steady close run many to_gateways =
      all_healed (0 + length rounds) (at_least (length rounds) many) w'
      (rounds_on rounds 0 (λ _ _. ⊥) (λ _ _. ⊥) w w' steady
      (fewer_found w (λ _ _. ⊥) 1 0 (omega arith) (found_own net positive known w (λ _ _. ⊥) 13 3 steady reach_positive))
      (λ router s e is none. absurd none) close run)
      to_gateways
    where
      at_least : (n : ℕ) → 26 ≤ n → 26 ≤ 0 + n
      at_least n h = omega arith
