-- A round finds the walks that cost one more: where what is held below the bound is backed, none is missed.
use Rattle.std.proofs.Common.{◌≡◌, ◌⊎◌, inl, inr, ℕ, zero, suc, ◌+◌, ◌-◌, min, max, ◌<◌, ◌≤◌, ◌==◌, Bool, true, false, cond, nat_le, List, [], ◌∷◌, Some, option_map, option_and_then, slice_get, refl, ap, sym, subst, ◌∙◌, arith, le_trans}
use Rattle.std.specs.FinMap as map_of
use Rattle.std.proofs.lemmas.Bool.{eq-eqb, eqb-true}
use Rattle.std.proofs.lemmas.Bool.Decides.{nat_tests}
use Rattle.prefix6.specs.Prefix.{Prefix6}
use Rattle.route_table.specs.Route.{RouteValue, infinity}
use Rattle.route_table.specs.declared.route.Origin.TheVariants.{Own, Learned}
use Rattle.route_table.specs.declared.route.Clock.{Clock}
use Rattle.route_table.specs.declared.route.Clock.TheVariants.{Fixed, Live, Dying}
use Rattle.route_table.proofs.TableLaws.{Some-same}
use Rattle.router_core.specs.Ageing.{aged, aged_by_clock, without_mark}
use Rattle.router_core.specs.Adoption.{lost}
use Rattle.router_core.specs.Output.{is_learned_on}
use Rattle.router_core.specs.Timers.{timeout, garbage_time}
use Rattle.router_core.specs.Machine.{State}
use Rattle.ripng_world.specs.declared.network.NetInterface.{NetInterface}
use Rattle.ripng_world.specs.Network.{Network, AreLinked, HasDistinctAddresses, interface_at}
use Rattle.ripng_world.specs.Walks.{Hop, Reaches, cost, cost_of_interface}
use Rattle.ripng_world.specs.Healing.{IsTickOf}
use Rattle.ripng_world.specs.World.{World, address_at}
use Rattle.ripng_world.specs.Rounds.{Round}
use Rattle.ripng_world.proofs.Improving.{RouteAt, one_route}
use Rattle.ripng_world.proofs.HealRows.{IsRaised, through}
use Rattle.ripng_world.proofs.HealPlain.{IsClocked}
use Rattle.ripng_world.proofs.HealRounds.{IsRoundOf, HasTickedOnce, HasHeardOf}
use Rattle.ripng_world.proofs.HealStates.{IsSteady, IsSteadyBy, IsTickMoment}
use Rattle.ripng_world.proofs.HealSteady.{IsMidBy, IsMidFresh, mid_rows}
use Rattle.ripng_world.proofs.RoundNeighbors.{one_sender}

-- the route does not run out before the next tick
abbrev pub IsGoing : (ℕ → ℕ → Type 0) → ℕ → Clock → Type 0
IsGoing recent router clock = (clock ≡ Fixed) ⊎ ((until : ℕ) × (e : ℕ) × (clock ≡ Live until) × recent router e × (e + timeout ≤ until))

-- a route that is no dearer, and goes on
abbrev pub IsFound : World → (ℕ → ℕ → Type 0) → ℕ → Prefix6 → ℕ → Type 0
IsFound w recent router p metric = (r : RouteValue) × RouteAt w router p r × (r.metric ≤ metric) × IsGoing recent router r.clock

-- for each walk of at most that cost there is one
abbrev pub AreFound : Network → World → (ℕ → ℕ → Type 0) → ℕ → Type 0
AreFound net w recent d =
    (router : ℕ) (p : Prefix6) (metric tag : ℕ) (walk : List Hop) → Reaches net router p metric tag walk → metric ≤ d → metric < infinity → IsFound w recent router p metric

module _ (net : Network) (distinct : HasDistinctAddresses net) (positive : (router iface : ℕ) (here : NetInterface) → interface_at net router iface ≡ Some here → 1 ≤ cost_of_interface net router iface)
    (known : Prefix6 → Type 0) (w mid w' : World) (round : Round) (did : IsRoundOf net distinct known w mid w' round) (recent : ℕ → ℕ → Type 0) (left m : ℕ) (steady : IsSteady net known w recent left m)
    (close : (router : ℕ) (s : State) (now e : ℕ) → slice_get w.states router ≡ Some s → IsTickOf round router now → recent router e → max s.last now < e + garbage_time)
    (none_left : 1 ≤ left - 1 → ⊥) (d : ℕ) (below : d + 1 < m) (found : AreFound net w recent d) where
  abbrev Mid : ℕ → ℕ → Prefix6 → RouteValue → Clock → Type 0
  Mid router limit p r c = IsMidBy net distinct positive known w mid w' round did recent left m steady close router limit p r c

  abbrev MidFresh : ℕ → Prefix6 → ℕ → ℕ → ℕ → Type 0
  MidFresh router p metric iface from = IsMidFresh net distinct positive known w mid w' round did recent left m steady close router p metric iface from

  row_at : (router : ℕ) (p : Prefix6) (r : RouteValue) (at : RouteAt mid router p r) → Mid router at.0.regular p r r.clock
  row_at router p r at = mid_rows net distinct positive known w mid w' round did recent left m steady close router at.0 at.1 p r at.2

  clock_at : (router : ℕ) (p : Prefix6) (r : RouteValue) (at : RouteAt mid router p r) → IsClocked r.metric r.clock
  clock_at router p r at = (did.plain router at.0 p r at.1 at.2).clocked

  -- what is found is there after the tick
  mid_found : (router : ℕ) (p : Prefix6) (metric tag : ℕ) (walk : List Hop) → Reaches net router p metric tag walk → metric ≤ d → metric < infinity → (q : RouteValue) × RouteAt mid router p q × (q.metric ≤ metric)
  mid_found router p metric tag walk reach few low =
      let f = found router p metric tag walk reach few low in
      let t = did.ticked router f.1.0 f.1.1 in (
        record f.0 { changed = false },
        (t.after, t.after_is, t.ticked.table p ∙ ap (λ o. option_and_then without_mark (option_and_then (aged t.after.last) o)) f.1.2 ∙ ap (option_and_then without_mark) (kept f.0 f.1.0 f.1.1 t f.3)),
        f.2,
      )
    where
      kept : (r : RouteValue) (s : State) → slice_get w.states router ≡ Some s → (t : HasTickedOnce mid round router s) → IsGoing recent router r.clock → aged t.after.last r ≡ Some r
      kept r s is t (inl fixed) = ap (aged_by_clock t.after.last r) fixed
      kept r s is t (inr going) =
          ap (aged_by_clock t.after.last r) going.2
          ∙ ap (λ b. cond b (Some (lost t.after.last r)) (Some r)) (not_yet going.0 t.after.last (max s.last t.now) going.1 t.ticked.last (close router s t.now going.1 is t.tick going.3) going.4)
        where
          not_yet : (u n k e : ℕ) → n ≡ k → k < e + garbage_time → e + timeout ≤ u → nat_le u n ≡ false
          not_yet u n k e a b c = later u n (omega arith)
            where
              later : (u n : ℕ) → n < u → nat_le u n ≡ false
              later u n h = grind (arith, nat_tests)

  across : (a i b j c l : ℕ) → AreLinked net a i b j → AreLinked net b j c l → AreLinked net a i c l
  across a i b j c l x y =
      let same : x.there ≡ y.here = Some-same x.there y.here (sym x.there_is ∙ y.here_is) in
      record { here = x.here; there = y.there; here_is = x.here_is; there_is = y.there_is; same_link = x.same_link ∙ ap (λ (i : NetInterface). i.link) same ∙ y.same_link }

  back : (a i b j : ℕ) → AreLinked net a i b j → AreLinked net b j a i
  back a i b j l = record { here = l.there; there = l.here; here_is = l.there_is; there_is = l.here_is; same_link = sym l.same_link }

  abbrev HasBetter : ℕ → Prefix6 → ℕ → Type 0
  HasBetter router p bound = (c : ℕ) × (tag : ℕ) × (walk : List Hop) × Reaches net router p c tag walk × (c < bound)

  -- where a neighbor's route is hidden, it goes out on the link, so a better walk is there
  hidden : (router iface : ℕ) (p : Prefix6) (sender sender_iface x : ℕ) → AreLinked net router iface sender sender_iface → (q : RouteValue) → RouteAt mid sender p q → q.metric ≤ x → x ≤ d → x < infinity
      → is_learned_on sender_iface q.origin ≡ true → HasBetter router p (cost_of_interface net router iface + x)
  hidden router iface p sender sender_iface x linked q at le few low poisoned = by_clock q.clock (clock_at sender p q at) (row_at sender p q at)
    where
      not_learned : q.origin ≡ Own → ⊥
      not_learned e = no (sym poisoned ∙ ap (is_learned_on sender_iface) e)
        where
          no : true ≡ false → ⊥
          no e = cc

      dead : (a b : ℕ) → a ≡ 16 → a ≤ b → b < 16 → ⊥
      dead a b e f g = omega arith

      by_clock : (c : Clock) → IsClocked q.metric c → Mid sender at.0.regular p q c → HasBetter router p (cost_of_interface net router iface + x)
      by_clock Fixed k row = absurd (not_learned row.0)
      by_clock (Dying until) k row = absurd (dead q.metric x k le low)
      by_clock (Live until) k row = elim row.4 [ inl y ↦ absurd (none_left y.some) | inr y ↦ by_above row.0 row.1 row.2 row.3 y ]
        where
          by_above : (i f n : ℕ) → q.origin ≡ Learned i f n → MidFresh sender p q.metric i f → HasBetter router p (cost_of_interface net router iface + x)
          by_above i f n origin y = elim y.above [ inl z ↦ absurd (no m q.metric x d z le few below) | inr z ↦ by_router (router == y.sender) refl z ]
            where
              no : (m a x d : ℕ) → m ≤ a → a ≤ x → x ≤ d → d + 1 < m → ⊥
              no m a x d e f g h = omega arith

              same : i ≡ sender_iface
              same = eqb-true i sender_iface (sym (ap (is_learned_on sender_iface) origin) ∙ poisoned)

              linked_on : AreLinked net sender sender_iface y.sender y.sender_iface
              linked_on = subst (λ j. AreLinked net sender j y.sender y.sender_iface) same y.linked

              one : 1 ≤ cost_of_interface net sender i
              one = positive sender i y.linked.here y.linked.here_is

              less : (c k v q x : ℕ) → 1 ≤ k → k + v ≤ q → q ≤ x → v < c + x
              less c k v q x a b e = omega arith

              less_by : (c k v q x : ℕ) → 1 ≤ k → k + v ≤ q → q ≤ x → c + v < c + x
              less_by c k v q x a b e = omega arith

              by_router : (b : Bool) → (router == y.sender) ≡ b → ((v : ℕ) × (tag : ℕ) × (walk : List Hop) × Reaches net y.sender p v tag walk × (cost_of_interface net sender i + v ≤ q.metric))
                  → HasBetter router p (cost_of_interface net router iface + x)
              by_router true e z =
                  (z.0, z.1, z.2, subst (λ r. Reaches net r p z.0 z.1 z.2) (sym (eqb-true router y.sender e)) z.3, less (cost_of_interface net router iface) (cost_of_interface net sender i) z.0 q.metric x one z.4 le)
              by_router false e z = (
                cost_of_interface net router iface + z.0,
                z.1,
                record { iface = iface; router = y.sender; router_iface = y.sender_iface } ∷ z.2,
                record {
                  is_walk = ((λ (s : router ≡ y.sender). clash (sym (eq-eqb router y.sender s) ∙ e), across router iface sender sender_iface y.sender y.sender_iface linked linked_on), z.3.is_walk);
                  costs = ap (λ c. cost_of_interface net router iface + c) z.3.costs;
                  owner = z.3.owner;
                },
                less_by (cost_of_interface net router iface) (cost_of_interface net sender i) z.0 q.metric x one z.4 le,
              )
                where
                  clash : true ≡ false → ⊥
                  clash e = cc

  module _ (m' : ℕ) (after : IsSteady net known w' (IsTickMoment mid) (left - 1) m') where
    abbrev Found : ℕ → Prefix6 → ℕ → Type 0
    Found router p metric = IsFound w' (IsTickMoment mid) router p metric

    -- a route below infinity of the end goes on
    goes_on : (router : ℕ) (p : Prefix6) (r : RouteValue) → RouteAt w' router p r → r.metric < infinity → IsGoing (IsTickMoment mid) router r.clock
    goes_on router p r at low =
        let s = after.states router at.0 at.1 in
        by_clock r.clock (s.plain p r at.2).clocked (s.steady p r at.2)
      where
        dead : (a : ℕ) → a ≡ 16 → a < 16 → ⊥
        dead a e f = omega arith

        by_clock : (c : Clock) → IsClocked r.metric c → IsSteadyBy net w' (IsTickMoment mid) (left - 1) m' router (max at.0.last at.0.regular) p r c → IsGoing (IsTickMoment mid) router c
        by_clock Fixed k row = inl refl
        by_clock (Dying until) k row = absurd (dead r.metric k low)
        by_clock (Live until) k row = elim row.4 [ inl x ↦ absurd (none_left x.some) | inr x ↦ inr (until, x.since, refl, x.since_is, x.timely) ]

    -- the gateway of a route has raised it: then there was a better walk
    raised : (router : ℕ) (old : State) → slice_get mid.states router ≡ Some old → (p : Prefix6) (bound : ℕ) → bound ≤ d + 1 → bound < infinity → IsRaised net distinct mid known router old.last p (map_of.get old.table p) bound
        → HasBetter router p bound
    raised router old old_is p bound few low x = by_row (subst (Mid router old.regular p x.route) x.clock (row_at router p x.route (old, old_is, x.was)))
      where
        no : (m a b d : ℕ) → m ≤ a → a ≤ b → b ≤ d + 1 → d + 1 < m → ⊥
        no m a b d e f g h = omega arith

        first : (a b c d e f : ℕ) → Learned a b c ≡ Learned d e f → a ≡ d
        first a b c d e f h = cc

        second : (a b c d e f : ℕ) → Learned a b c ≡ Learned d e f → b ≡ e
        second a b c d e f h = cc

        by_row : Mid router old.regular p x.route (Live x.until) → HasBetter router p bound
        by_row row = elim row.4 [ inl y ↦ absurd (none_left y.some) | inr y ↦ elim y.above [ inl z ↦ absurd (no m x.route.metric bound d z x.below few below) | inr z ↦ by_told y z ] ]
          where
            i_is : row.0 ≡ x.iface
            i_is = first row.0 row.1 row.2 x.iface x.from x.next_hop (sym row.3 ∙ x.origin)

            f_is : row.1 ≡ x.from
            f_is = second row.0 row.1 row.2 x.iface x.from x.next_hop (sym row.3 ∙ x.origin)

            one : 1 ≤ cost_of_interface net router row.0
            one = subst (λ i. 1 ≤ cost_of_interface net router i) (sym i_is) (positive router x.iface x.told.linked.here x.told.linked.here_is)

            small : (c y r b d : ℕ) → 1 ≤ c → c + y ≤ r → r ≤ b → b ≤ d + 1 → y ≤ d
            small c y r b d e f g h = omega arith

            low_one : (c y r b : ℕ) → c + y ≤ r → r ≤ b → b < 16 → y < 16
            low_one c y r b f g h = omega arith

            by_told : (y : MidFresh router p x.route.metric row.0 row.1)
                → ((v : ℕ) × (tag : ℕ) × (walk : List Hop) × Reaches net y.sender p v tag walk × (cost_of_interface net router row.0 + v ≤ x.route.metric)) → HasBetter router p bound
            by_told y z =
                let same = one_sender net distinct router x.iface x.from y.sender y.sender_iface x.told.sender x.told.sender_iface
                (subst (λ i. AreLinked net router i y.sender y.sender_iface) i_is y.linked) x.told.linked
                (subst (λ f. option_map (λ (i : NetInterface). i.interface.addr) (interface_at net y.sender y.sender_iface) ≡ Some f) f_is y.from_is) x.told.from_is in
                let reach : Reaches net x.told.sender p z.0 z.1 z.2 = subst (λ s. Reaches net s p z.0 z.1 z.2) same.0 z.3 in
                let z_few = small (cost_of_interface net router row.0) z.0 x.route.metric bound d one z.4 x.below few in
                let z_low = low_one (cost_of_interface net router row.0) z.0 x.route.metric bound z.4 x.below low in
                let q = mid_found x.told.sender p z.0 z.1 z.2 reach z_few z_low in
                let is : q.0 ≡ x.told.route = one_route mid x.told.sender p q.0 x.told.route q.1 x.told.at in
                let q_le : x.told.route.metric ≤ z.0 = subst (λ (v : RouteValue). v.metric ≤ z.0) is q.2 in
                by_poison (is_learned_on x.told.sender_iface x.told.route.origin) refl x.told.told z_few z_low q_le (subst (λ i. cost_of_interface net router i + z.0 ≤ x.route.metric) i_is z.4)
              where
                above_all : (mt r c v q : ℕ) → mt ≡ r → r ≤ v → c + v ≤ q → q < min (mt + c) 16 → ⊥
                above_all mt r c v q a b e f = omega arith

                at_most : (a c v q b : ℕ) → a < c + v → c + v ≤ q → q ≤ b → a < b
                at_most a c v q b e f g = omega arith

                by_poison : (b : Bool) → is_learned_on x.told.sender_iface x.told.route.origin ≡ b → x.metric ≡ cond b 16 x.told.route.metric → z.0 ≤ d → z.0 < 16 → x.told.route.metric ≤ z.0
                    → cost_of_interface net router x.iface + z.0 ≤ x.route.metric → HasBetter router p bound
                by_poison false e t few' low' le sum = absurd (above_all x.metric x.told.route.metric (cost_of_interface net router x.iface) z.0 x.route.metric t le sum x.above)
                by_poison true e t few' low' le sum =
                    let h = hidden router x.iface p x.told.sender x.told.sender_iface z.0 x.told.linked x.told.route x.told.at le few' low' e in
                    (h.0, h.1, h.2, h.3, at_most h.0 (cost_of_interface net router x.iface) z.0 x.route.metric bound h.4 sum x.below)

    -- by what the walk costs
    found_by : (n : ℕ) (router : ℕ) (p : Prefix6) (metric tag : ℕ) (walk : List Hop) → metric < n → Reaches net router p metric tag walk → metric ≤ d + 1 → metric < infinity → Found router p metric
    found_by zero router p metric tag walk fuel reach few low = absurd (omega arith)
    found_by (suc n) router p metric tag [] fuel reach few low =
        let s = after.everyone router reach.owner.node reach.owner.node_is in
        let t = after.states router s.0 s.1 in
        let o = t.owned p tag reach.owner in
        (o.0, (s.0, s.1, o.1), as_le o.0.metric metric (subst (IsClocked o.0.metric) o.2 (t.plain p o.0 o.1).clocked) reach.costs, inl o.2)
      where
        as_le : (a m : ℕ) → a ≡ 1 → 1 ≡ m → a ≤ m
        as_le a m e f = omega arith
    found_by (suc n) router p metric tag (h ∷ rest) fuel reach few low =
        let here = mid_found h.router p (cost net h.router rest) tag rest (record { is_walk = reach.is_walk.1; costs = refl; owner = reach.owner })
        (small (cost_of_interface net router h.iface) (cost net h.router rest) metric d one reach.costs few) (low_rest (cost_of_interface net router h.iface) (cost net h.router rest) metric reach.costs low) in
        by_poison (better (λ c t v. found_by n router p c t v)) here.0 here.1 here.2 (is_learned_on h.router_iface here.0.origin) refl
      where
        one : 1 ≤ cost_of_interface net router h.iface
        one = positive router h.iface reach.is_walk.0.1.here reach.is_walk.0.1.here_is

        small : (c v m d : ℕ) → 1 ≤ c → c + v ≡ m → m ≤ d + 1 → v ≤ d
        small c v m d a e f = omega arith

        low_rest : (c v m : ℕ) → c + v ≡ m → m < 16 → v < 16
        low_rest c v m e f = omega arith

        fewer : (c m n : ℕ) → c < m → m < suc n → c < n
        fewer c m n e f = omega arith

        as_few : (c m d : ℕ) → c < m → m ≤ d + 1 → c ≤ d + 1
        as_few c m d e f = omega arith

        as_low : (c m : ℕ) → c < m → m < 16 → c < 16
        as_low c m e f = omega arith

        no_dearer : (a c m : ℕ) → a ≤ c → c < m → a ≤ m
        no_dearer a c m e f = omega arith

        better : ((c t : ℕ) (v : List Hop) → c < n → Reaches net router p c t v → c ≤ d + 1 → c < infinity → Found router p c) → HasBetter router p metric → Found router p metric
        better again b =
            let f = again b.0 b.1 b.2 (fewer b.0 metric n b.4 fuel) b.3 (as_few b.0 metric d b.4 few) (as_low b.0 metric b.4 low) in
            (f.0, f.1, no_dearer f.0.metric b.0 metric f.2 b.4, f.3)

        by_poison : (HasBetter router p metric → Found router p metric) → (q : RouteValue) → RouteAt mid h.router p q → q.metric ≤ cost net h.router rest → (b : Bool) → is_learned_on h.router_iface q.origin ≡ b → Found router p metric
        by_poison again q at le true e =
            again (subst (HasBetter router p) reach.costs
            (hidden router h.iface p h.router h.router_iface (cost net h.router rest) reach.is_walk.0.1 q at le
            (small (cost_of_interface net router h.iface) (cost net h.router rest) metric d one reach.costs few) (low_rest (cost_of_interface net router h.iface) (cost net h.router rest) metric reach.costs low) e))
        by_poison again q at le false e =
            let told : HasHeardOf net distinct mid known w' router p h.iface (address_at net h.router h.router_iface) (cond (is_learned_on h.router_iface q.origin) infinity q.metric) =
            did.told h.router h.router_iface p q at router h.iface (back router h.iface h.router h.router_iface reach.is_walk.0.1) reach.is_walk.0.0 in
            let plain : HasHeardOf net distinct mid known w' router p h.iface (address_at net h.router h.router_iface) q.metric =
            subst (λ b. HasHeardOf net distinct mid known w' router p h.iface (address_at net h.router h.router_iface) (cond b infinity q.metric)) e told in
            let M_low : through net router h.iface q.metric < infinity = sum_low q.metric (cost_of_interface net router h.iface) (cost net h.router rest) metric le reach.costs low in
            let M_le : through net router h.iface q.metric ≤ metric = sum_le q.metric (cost_of_interface net router h.iface) (cost net h.router rest) metric le reach.costs in
            elim (plain.bound M_low) [
              | inl x ↦ (
                x.0,
                (plain.state, plain.state_is, x.1),
                le_trans x.2 M_le,
                goes_on router p x.0 (plain.state, plain.state_is, x.1) (under x.0.metric (through net router h.iface q.metric) x.2 M_low),
              )
              | inr x ↦
                  let b = raised router plain.old plain.old_is p (through net router h.iface q.metric) (le_trans M_le few) M_low x in
                  again (b.0, b.1, b.2, b.3, at_last b.0 (through net router h.iface q.metric) metric b.4 M_le)
            ]
          where
            sum_low : (q c v m : ℕ) → q ≤ v → c + v ≡ m → m < 16 → min (q + c) 16 < 16
            sum_low q c v m a e f = omega arith

            sum_le : (q c v m : ℕ) → q ≤ v → c + v ≡ m → min (q + c) 16 ≤ m
            sum_le q c v m a e = omega arith

            under : (a b : ℕ) → a ≤ b → b < 16 → a < 16
            under a b e f = omega arith

            at_last : (a b c : ℕ) → a < b → b ≤ c → a < c
            at_last a b c e f = omega arith

    pub found_more : AreFound net w' (IsTickMoment mid) (d + 1)
    found_more router p metric tag walk reach few low = found_by (suc metric) router p metric tag walk (one_more metric) reach few low
      where
        one_more : (n : ℕ) → n < suc n
        one_more n = omega arith

-- what a router owns, it has
pub found_own : (net : Network) (positive : (router iface : ℕ) (here : NetInterface) → interface_at net router iface ≡ Some here → 1 ≤ cost_of_interface net router iface)
    (known : Prefix6 → Type 0) (w : World) (recent : ℕ → ℕ → Type 0) (left m : ℕ) → IsSteady net known w recent left m → ((router : ℕ) (p : Prefix6) (metric tag : ℕ) (walk : List Hop) → Reaches net router p metric tag walk → 1 ≤ metric)
    → AreFound net w recent 1
found_own net positive known w recent left m steady some router p metric tag [] reach few low =
    let s = steady.everyone router reach.owner.node reach.owner.node_is in
    let t = steady.states router s.0 s.1 in
    let o = t.owned p tag reach.owner in
    (o.0, (s.0, s.1, o.1), as_le o.0.metric metric (subst (IsClocked o.0.metric) o.2 (t.plain p o.0 o.1).clocked) reach.costs, inl o.2)
  where
    as_le : (a m : ℕ) → a ≡ 1 → 1 ≡ m → a ≤ m
    as_le a m e f = omega arith
found_own net positive known w recent left m steady some router p metric tag (h ∷ rest) reach few low =
    absurd (no (cost_of_interface net router h.iface) (cost net h.router rest) metric (positive router h.iface reach.is_walk.0.1.here reach.is_walk.0.1.here_is)
    (some h.router p (cost net h.router rest) tag rest (record { is_walk = reach.is_walk.1; costs = refl; owner = reach.owner })) reach.costs few)
  where
    no : (c v m : ℕ) → 1 ≤ c → 1 ≤ v → c + v ≡ m → m ≤ 1 → ⊥
    no c v m a b e f = omega arith
