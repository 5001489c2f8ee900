-- A round keeps what holds between rounds.
use Rattle.std.proofs.Common.{◌≡◌, ◌≢◌, ◌⊎◌, inl, inr, ℕ, ◌+◌, ◌-◌, ◌*◌, min, max, ◌<◌, ◌≤◌, Bool, true, false, cond, nat_le, [], ◌∷◌, Option, Some, None, option_map, option_and_then, unwrap_or, slice_get, refl, ap, ap₂, sym, subst, ◌∙◌, arith, ◌&&◌}
use Rattle.std.specs.Prelude.{⊤}
use Rattle.std.specs.FinMap as map_of
use Rattle.std.proofs.lemmas.Bool.{eq-eqb}
use Rattle.std.proofs.lemmas.Bool.Decides.{nat_tests}
use Rattle.prefix6.specs.Prefix.{Prefix6}
use Rattle.route_table.specs.Route.{RouteValue, infinity}
use Rattle.route_table.specs.declared.route.Origin.TheVariants.{Own, Learned}
use Rattle.route_table.specs.declared.route.Clock.{Clock}
use Rattle.route_table.specs.declared.route.Clock.TheVariants.{Fixed, Live, Dying}
use Rattle.route_table.proofs.TableLaws.{Some-same, None-Some}
use Rattle.router_core.specs.Adoption.{is_through, lost}
use Rattle.router_core.specs.Ageing.{aged, aged_by_clock, without_mark}
use Rattle.router_core.specs.Output.{is_learned_on}
use Rattle.router_core.specs.Timers.{timeout, garbage_time}
use Rattle.router_core.specs.Machine.{State}
use Rattle.ripng_world.specs.declared.network.NetInterface.{NetInterface}
use Rattle.ripng_world.specs.Network.{Network, AreLinked, Owns, HasDistinctAddresses, interface_at}
use Rattle.ripng_world.specs.Walks.{cost_of_interface}
use Rattle.ripng_world.specs.Healing.{IsTickOf}
use Rattle.ripng_world.specs.World.{World, address_at}
use Rattle.ripng_world.specs.Rounds.{Round}
use Rattle.ripng_world.proofs.Improving.{RouteAt}
use Rattle.ripng_world.proofs.RoundDeliveries.{gateway_at}
use Rattle.ripng_world.proofs.HealRows.{IsTold, IsRow, IsRowOf, IsByClock, IsHeard, through}
use Rattle.ripng_world.proofs.HealPlain.{IsPlainRow, IsClocked}
use Rattle.ripng_world.proofs.HealStates.{IsAboveBy, IsLasting, IsFresh, IsStale, IsSteadyBy, IsSteady, IsTickMoment}
use Rattle.ripng_world.proofs.HealRounds.{IsRoundOf, HasTickedOnce, HasHeardRound, HasHeardOf}

module _ (net : Network) (distinct : HasDistinctAddresses net) (positive : (router iface : ℕ) (here : NetInterface) → interface_at net router iface ≡ Some here → 1 ≤ cost_of_interface net router iface)
    (known : Prefix6 → Type 0) (w mid w' : World) (round : Round) (did : IsRoundOf net distinct known w mid w' round) (recent : ℕ → ℕ → Type 0) (left m : ℕ) (steady : IsSteady net known w recent left m)
    (close : (router : ℕ) (s : State) (now e : ℕ) → slice_get w.states router ≡ Some s → IsTickOf round router now → recent router e → max s.last now < e + garbage_time) where
  -- ---- after the ticks

  pub record IsMidFresh (router : ℕ) (p : Prefix6) (metric iface from : ℕ) : Type 0 where
    pub sender : ℕ
    pub sender_iface : ℕ
    pub linked : AreLinked net router iface sender sender_iface
    pub apart : router ≢ sender
    pub from_is : option_map (λ i. i.interface.addr) (interface_at net sender sender_iface) ≡ Some from
    pub gateway : RouteValue
    pub at : RouteAt mid sender p gateway
    pub above : IsAboveBy net m router p iface sender metric

  abbrev pub IsMidBy : ℕ → ℕ → Prefix6 → RouteValue → Clock → Type 0
  IsMidBy router limit p r Fixed = (r.origin ≡ Own) × ((tag : ℕ) × Owns net router p tag)
  IsMidBy router limit p r (Dying until) = ⊤
  IsMidBy router limit p r (Live until) =
      (iface : ℕ) × (from : ℕ) × (next_hop : ℕ) × (r.origin ≡ Learned iface from next_hop)
      × (IsStale (left - 1) limit until r.metric ⊎ IsMidFresh router p r.metric iface from)

  -- a lasting route is there after the tick
  still_there : (router : ℕ) (s : State) (is : slice_get w.states router ≡ Some s) (p : Prefix6) (r : RouteValue) → map_of.get s.table p ≡ Some r → IsLasting recent router r.clock → (q : RouteValue) × RouteAt mid router p q
  still_there router s is p r at lasting =
      let t = did.ticked router s is in
      let after = by_clock t r.clock refl lasting in
      (record after.0 { changed = false }, (t.after, t.after_is, t.ticked.table p ∙ ap (λ o. option_and_then without_mark (option_and_then (aged t.after.last) o)) at ∙ ap (option_and_then without_mark) after.1))
    where
      by_clock : (t : HasTickedOnce mid round router s) → (c : Clock) → r.clock ≡ c → IsLasting recent router c → (q : RouteValue) × (aged t.after.last r ≡ Some q)
      by_clock t Fixed e l = (r, ap (aged_by_clock t.after.last r) e)
      by_clock t (Live until) e l = by_test (nat_le until t.after.last) refl
        where
          by_test : (b : Bool) → nat_le until t.after.last ≡ b → (q : RouteValue) × (aged t.after.last r ≡ Some q)
          by_test true f = (lost t.after.last r, ap (aged_by_clock t.after.last r) e ∙ ap (λ b. cond b (Some (lost t.after.last r)) (Some r)) f)
          by_test false f = (r, ap (aged_by_clock t.after.last r) e ∙ ap (λ b. cond b (Some (lost t.after.last r)) (Some r)) f)
      by_clock t (Dying until) e l =
          (r, ap (aged_by_clock t.after.last r) e ∙ ap (λ b. cond b None (Some r)) (not_yet until t.after.last (max s.last t.now) l.0 t.ticked.last (close router s t.now l.0 is t.tick l.1) l.2))
        where
          not_yet : (u n k e : ℕ) → n ≡ k → k < e + garbage_time → e + garbage_time ≤ u → nat_le u n ≡ false
          not_yet u n k e a b c = below u n (omega arith)
            where
              below : (u n : ℕ) → n < u → nat_le u n ≡ false
              below u n h = grind (arith, nat_tests)

  -- each route that is left
  mid_row : (router : ℕ) (s : State) (is : slice_get w.states router ≡ Some s) (t : HasTickedOnce mid round router s) (p : Prefix6) (r : RouteValue) → map_of.get t.after.table p ≡ Some r
      → IsMidBy router t.after.regular p r r.clock
  mid_row router s is t p r at = by_value (map_of.get s.table p) refl (sym (t.ticked.table p) ∙ at)
    where
      n : ℕ
      n = t.after.last

      by_value : (o : Option RouteValue) → map_of.get s.table p ≡ o → option_and_then without_mark (option_and_then (aged t.after.last) o) ≡ Some r → IsMidBy router t.after.regular p r r.clock
      by_value None here e = absurd (None-Some r e)
      by_value (Some q) here e = by_clock q.clock refl e ((steady.states router s is).steady p q here)
        where
          unmarked : RouteValue → RouteValue
          unmarked x = record x { changed = false }

          by_clock : (c : Clock) → q.clock ≡ c → option_and_then without_mark (aged_by_clock t.after.last q c) ≡ Some r → IsSteadyBy net w recent left m router (max s.last s.regular) p q c
              → IsMidBy router t.after.regular p r r.clock
          by_clock Fixed c f k =
              subst (λ (x : RouteValue). IsMidBy router t.after.regular p x x.clock) (Some-same (record q { changed = false }) r f)
              (subst (λ x. IsMidBy router t.after.regular p (record q { changed = false }) x) (sym c) k)
          by_clock (Dying until) c f k = by_test (nat_le until t.after.last) f
            where
              by_test : (b : Bool) → option_and_then without_mark (cond b None (Some q)) ≡ Some r → IsMidBy router t.after.regular p r r.clock
              by_test true f = absurd (None-Some r f)
              by_test false f =
                  subst (λ (x : RouteValue). IsMidBy router t.after.regular p x x.clock) (Some-same (record q { changed = false }) r f)
                  (subst (λ x. IsMidBy router t.after.regular p (record q { changed = false }) x) (sym c) tt)
          by_clock (Live until) c f k = by_test (nat_le until t.after.last) refl f
            where
              ahead : (u n : ℕ) → nat_le u n ≡ false → n < u
              ahead u n e = grind (arith, nat_tests)

              stale : nat_le until t.after.last ≡ false → IsStale left (max s.last s.regular) until q.metric → IsStale (left - 1) t.after.regular until q.metric
              stale late x =
                  let a = later (max s.last s.regular) s.last s.regular t.after.last t.now t.ticked.last t.ticked.due refl in
                  record {
                    some = more left until t.after.last (max s.last s.regular) x.soon (ahead until t.after.last late) a;
                    soon = left_soon left until t.after.last (max s.last s.regular) t.after.regular x.soon (ahead until t.after.last late) a t.ticked.regular;
                    two = x.two;
                  }
                where
                  later : (f l r n k : ℕ) → n ≡ max l k → r ≤ n → f ≡ max l r → f ≤ n
                  later f l r n k a b c = omega arith

                  more : (left u n f : ℕ) → u + 15_000 ≤ f + 15_000 * left → n < u → f ≤ n → 1 ≤ left - 1
                  more left u n f a b c = omega arith

                  left_soon : (left u n f g : ℕ) → u + 15_000 ≤ f + 15_000 * left → n < u → f ≤ n → n + 15_000 ≤ g → u + 15_000 ≤ g + 15_000 * (left - 1)
                  left_soon left u n f g a b c d = omega arith

              fresh : (iface from : ℕ) → IsFresh net w recent m router p q.metric iface from until → IsMidFresh router p q.metric iface from
              fresh iface from x =
                  let there = still_there x.sender x.at.0 x.at.1 p x.gateway x.at.2 x.lasting in
                  record { sender = x.sender; sender_iface = x.sender_iface; linked = x.linked; apart = x.apart; from_is = x.from_is; gateway = there.0; at = there.1; above = x.above }

              kept : nat_le until t.after.last ≡ false → IsMidBy router t.after.regular p (record q { changed = false }) (Live until)
              kept late = (k.0, k.1, k.2, k.3, elim k.4 [ inl x ↦ inl (stale late x) | inr x ↦ inr (fresh k.0 k.1 x) ])

              by_test : (b : Bool) → nat_le until t.after.last ≡ b → option_and_then without_mark (cond b (Some (lost t.after.last q)) (Some q)) ≡ Some r → IsMidBy router t.after.regular p r r.clock
              by_test true late f = subst (λ (x : RouteValue). IsMidBy router t.after.regular p x x.clock) (Some-same (record (lost t.after.last q) { changed = false }) r f) tt
              by_test false late f =
                  subst (λ (x : RouteValue). IsMidBy router t.after.regular p x x.clock) (Some-same (record q { changed = false }) r f)
                  (subst (λ x. IsMidBy router t.after.regular p (record q { changed = false }) x) (sym c) (kept late))

  pub mid_rows : (router : ℕ) (t : State) → slice_get mid.states router ≡ Some t → (p : Prefix6) (r : RouteValue) → map_of.get t.table p ≡ Some r → IsMidBy router t.regular p r r.clock
  mid_rows router t is p r at =
      let s = did.came router t is in
      let once = did.ticked router s.0 s.1 in
      let same : once.after ≡ t = Some-same once.after t (sym once.after_is ∙ is) in
      subst (λ (x : State). (r : RouteValue) → map_of.get x.table p ≡ Some r → IsMidBy router x.regular p r r.clock) same (mid_row router s.0 s.1 once p) r at

  -- ---- what a gateway tells

  unpoisoned : (router : ℕ) (p : Prefix6) (iface from metric : ℕ) (t : IsTold net mid router p iface from metric) → through net router iface metric < infinity
      → (is_learned_on t.sender_iface t.route.origin ≡ false) × (t.route.metric < infinity) × (cost_of_interface net router iface + t.route.metric ≡ through net router iface metric)
  unpoisoned router p iface from metric t low = by_poison (is_learned_on t.sender_iface t.route.origin) refl t.told
    where
      by_poison : (b : Bool) → is_learned_on t.sender_iface t.route.origin ≡ b → metric ≡ cond b 16 t.route.metric
          → (is_learned_on t.sender_iface t.route.origin ≡ false) × (t.route.metric < 16) × (cost_of_interface net router iface + t.route.metric ≡ min (metric + cost_of_interface net router iface) 16)
      by_poison true is e = absurd (high metric (cost_of_interface net router iface) e low)
        where
          high : (m c : ℕ) → m ≡ 16 → min (m + c) 16 < 16 → ⊥
          high m c e h = omega arith
      by_poison false is e = (is, small metric t.route.metric (cost_of_interface net router iface) e low, sum metric t.route.metric (cost_of_interface net router iface) e low)
        where
          small : (m r c : ℕ) → m ≡ r → min (m + c) 16 < 16 → r < 16
          small m r c e h = omega arith

          sum : (m r c : ℕ) → m ≡ r → min (m + c) 16 < 16 → c + r ≡ min (m + c) 16
          sum m r c e h = omega arith

  -- what is told of a route below infinity is two or more, or backed; with a bound, one more than it, or backed
  pub told_above : (m' : ℕ) → m' ≤ m + 1 → (1 ≤ left - 1 → m' ≤ 3) → (router : ℕ) (p : Prefix6) (iface from metric : ℕ) (t : IsTold net mid router p iface from metric) → through net router iface metric < infinity
      → IsAboveBy net m' router p iface t.sender (through net router iface metric)
  told_above m' most few router p iface from metric t low =
      let u = unpoisoned router p iface from metric t low in
      let c : ℕ = cost_of_interface net router iface in
      let row = mid_rows t.sender t.at.0 t.at.1 p t.route t.at.2 in
      by_clock t.route.clock (did.plain t.sender t.at.0 p t.route t.at.1 t.at.2).clocked row u.1 u.2
    where
      c : ℕ
      c = cost_of_interface net router iface

      one : 1 ≤ cost_of_interface net router iface
      one = positive router iface t.linked.here t.linked.here_is

      by_clock : (k : Clock) → IsClocked t.route.metric k → IsMidBy t.sender t.at.0.regular p t.route k → t.route.metric < infinity
          → cost_of_interface net router iface + t.route.metric ≡ through net router iface metric → IsAboveBy net m' router p iface t.sender (through net router iface metric)
      by_clock Fixed k row small sum =
          inr (1, row.1.0, [], record { is_walk = tt; costs = refl; owner = row.1.1 }, as_le (cost_of_interface net router iface) t.route.metric (through net router iface metric) k sum)
        where
          as_le : (c r n : ℕ) → r ≡ 1 → c + r ≡ n → c + 1 ≤ n
          as_le c r n e f = omega arith
      by_clock (Dying until) k row small sum = absurd (no t.route.metric k small)
        where
          no : (r : ℕ) → r ≡ 16 → r < 16 → ⊥
          no r e f = omega arith
      by_clock (Live until) k row small sum =
          elim row.4 [
            | inl x ↦ inl (three m' (cost_of_interface net router iface) t.route.metric (through net router iface metric) (few x.some) one x.two sum)
            | inr x ↦ elim x.above [
              | inl y ↦ inl (next m' m (cost_of_interface net router iface) t.route.metric (through net router iface metric) most one y sum)
              | inr y ↦ inr (
                cost_of_interface net t.sender row.0 + y.0,
                y.1,
                record { iface = row.0; router = x.sender; router_iface = x.sender_iface } ∷ y.2,
                record { is_walk = ((x.apart, x.linked), y.3.is_walk); costs = ap (λ n. cost_of_interface net t.sender row.0 + n) y.3.costs; owner = y.3.owner },
                within (cost_of_interface net router iface) (cost_of_interface net t.sender row.0 + y.0) t.route.metric (through net router iface metric) y.4 sum,
              )
            ]
          ]
        where
          three : (m c r n : ℕ) → m ≤ 3 → 1 ≤ c → 2 ≤ r → c + r ≡ n → m ≤ n
          three m c r n a b d e = omega arith

          next : (m' m c r n : ℕ) → m' ≤ m + 1 → 1 ≤ c → m ≤ r → c + r ≡ n → m' ≤ n
          next m' m c r n a b d e = omega arith

          within : (c x r n : ℕ) → x ≤ r → c + r ≡ n → c + x ≤ n
          within c x r n a e = omega arith

  -- ---- after the deliveries

  -- a route that was below infinity after the tick is there at the end, and lasts
  lasting_after : (router : ℕ) (t : State) (is : slice_get mid.states router ≡ Some t) (p : Prefix6) (q : RouteValue) → map_of.get t.table p ≡ Some q → q.metric < infinity
      → (r : RouteValue) × RouteAt w' router p r × IsLasting (IsTickMoment mid) router r.clock
  lasting_after router t is p q at small =
      let s = did.went router t is in
      let h = did.heard router s.0 s.1 in
      let same : h.old ≡ t = Some-same h.old t (sym h.old_is ∙ is) in
      let row = subst (λ (x : State). IsRow net distinct mid known router x.last p (map_of.get x.table p) (map_of.get s.0.table p)) same (h.rows p) in
      by_value s.0 s.1 (map_of.get s.0.table p) refl row
    where
      by_value : (s : State) → slice_get w'.states router ≡ Some s → (o : Option RouteValue) → map_of.get s.table p ≡ o → IsRow net distinct mid known router t.last p (map_of.get t.table p) o
          → (r : RouteValue) × RouteAt w' router p r × IsLasting (IsTickMoment mid) router r.clock
      by_value s s_is None here row = absurd (None-Some q (sym row ∙ at))
      by_value s s_is (Some r) here row = (r, (s, s_is, here), by_clock r.clock refl row.by_clock)
        where
          by_clock : (c : Clock) → r.clock ≡ c → IsByClock net distinct mid known router t.last p (map_of.get t.table p) r c → IsLasting (IsTickMoment mid) router c
          by_clock Fixed e k = tt
          by_clock (Live until) e k = tt
          by_clock (Dying until) e k =
              elim k.1 [
                | inl was ↦ absurd (no q.metric r.metric (ap (λ (x : RouteValue). x.metric) (Some-same q r (sym at ∙ was))) k.0 small)
                | inr later ↦ (t.last, (t, is, refl), later)
              ]
            where
              no : (a b : ℕ) → a ≡ b → b ≡ 16 → a < 16 → ⊥
              no a b e f g = omega arith

  from_address : (sender iface from : ℕ) → option_map (λ (i : NetInterface). i.interface.addr) (interface_at net sender iface) ≡ Some from → address_at net sender iface ≡ from
  from_address sender iface from e = ap (λ o. unwrap_or o 0) e

  back : (a i b j : ℕ) → AreLinked net a i b j → AreLinked net b j a i
  back a i b j l = record { here = l.there; there = l.here; here_is = l.there_is; there_is = l.here_is; same_link = sym l.same_link }

  module _ (m' : ℕ) (most : m' ≤ m + 1) (few : 1 ≤ left - 1 → m' ≤ 3) where
    heard_fresh : (router : ℕ) (t : State) → slice_get mid.states router ≡ Some t → (p : Prefix6) (r : RouteValue) (until : ℕ) → r.clock ≡ Live until → (h : IsHeard net distinct mid known router t.last p r)
        → IsFresh net w' (IsTickMoment mid) m' router p r.metric h.iface h.from until
    heard_fresh router t is p r until clock h =
        let low : through net router h.iface h.metric < infinity = subst (λ n. n < infinity) h.metric_is h.low in
        let u = unpoisoned router p h.iface h.from h.metric h.told low in
        let g = lasting_after h.told.sender h.told.at.0 h.told.at.1 p h.told.route h.told.at.2 u.1 in
        record {
          sender = h.told.sender;
          sender_iface = h.told.sender_iface;
          linked = h.told.linked;
          apart = h.told.apart;
          from_is = h.told.from_is;
          gateway = g.0;
          at = g.1;
          lasting = g.2;
          above = subst (IsAboveBy net m' router p h.iface h.told.sender) (sym h.metric_is) (told_above m' most few router p h.iface h.from h.metric h.told low);
          since = t.last;
          since_is = (t, is, refl);
          timely = subst (λ n. t.last + timeout ≤ n) (same_until h.until until (sym h.clock ∙ clock)) h.timely;
        }
      where
        same_until : (a b : ℕ) → Live a ≡ Live b → a ≡ b
        same_until a b e = cc

    steady_row : (router : ℕ) (s : State) (is : slice_get w'.states router ≡ Some s) (h : HasHeardRound net distinct mid known router s) (p : Prefix6) (r : RouteValue) → map_of.get s.table p ≡ Some r
        → IsRowOf net distinct mid known router h.old.last p (map_of.get h.old.table p) r
        → IsSteadyBy net w' (IsTickMoment mid) (left - 1) m' router (max s.last s.regular) p r r.clock
    steady_row router s is h p r at row = by_clock r.clock refl row.by_clock
      where
        learned : (until : ℕ) → r.clock ≡ Live until → IsHeard net distinct mid known router h.old.last p r
            → IsSteadyBy net w' (IsTickMoment mid) (left - 1) m' router (max s.last s.regular) p r (Live until)
        learned until clock x = (x.iface, x.from, x.next_hop, x.origin, inr (heard_fresh router h.old h.old_is p r until clock x))

        by_clock : (c : Clock) → r.clock ≡ c → IsByClock net distinct mid known router h.old.last p (map_of.get h.old.table p) r c
            → IsSteadyBy net w' (IsTickMoment mid) (left - 1) m' router (max s.last s.regular) p r c
        by_clock Fixed clock k = subst (IsMidBy router h.old.regular p r) clock (mid_rows router h.old h.old_is p r k.0)
        by_clock (Dying until) clock k = tt
        by_clock (Live until) clock (inr x) = learned until clock x
        by_clock (Live until) clock (inl was) =
            let row : IsMidBy router h.old.regular p r (Live until) = subst (IsMidBy router h.old.regular p r) clock (mid_rows router h.old h.old_is p r was.0) in
            elim row.4 [
              | inl x ↦ (row.0, row.1, row.2, row.3, inl (record { some = x.some; soon = up until (left - 1) h.old.regular s.last s.regular h.regular x.soon; two = x.two }))
              | inr x ↦ learned until clock (heard_now row.0 row.1 row.2 row.3 x)
            ]
          where
            up : (u k g l r : ℕ) → r ≡ g → u + 15_000 ≤ g + 15_000 * k → u + 15_000 ≤ max l r + 15_000 * k
            up u k g l r e f = omega arith

            heard_now : (iface from next_hop : ℕ) → r.origin ≡ Learned iface from next_hop → IsMidFresh router p r.metric iface from → IsHeard net distinct mid known router h.old.last p r
            heard_now iface from next_hop origin x =
                let d : HasHeardOf net distinct mid known w' router p iface (address_at net x.sender x.sender_iface) (cond (is_learned_on x.sender_iface x.gateway.origin) infinity x.gateway.metric) =
                did.told x.sender x.sender_iface p x.gateway x.at router iface (back router iface x.sender x.sender_iface x.linked) x.apart in
                let same_old : d.old ≡ h.old = Some-same d.old h.old (sym d.old_is ∙ h.old_is) in
                let same_state : d.state ≡ s = Some-same d.state s (sym d.state_is ∙ is) in
                subst (λ (o : State). IsHeard net distinct mid known router o.last p r) same_old
                (d.here r until (ap (λ (v : State). map_of.get v.table p) same_state ∙ at) clock
                (ap (is_through (gateway_at iface (address_at net x.sender x.sender_iface))) origin
                ∙ ap₂ (λ a b. a && b) (eq-eqb iface iface refl) (eq-eqb from (address_at net x.sender x.sender_iface) (sym (from_address x.sender x.sender_iface from x.from_is)))))

    pub steady_after : IsSteady net known w' (IsTickMoment mid) (left - 1) m'
    steady_after =
        record {
          states = λ router s is. let h = did.heard router s is in
              record {
                node = h.node;
                node_is = h.node_is;
                config_is = h.config_is;
                plain = λ p r at. plain_of router s h p r (subst (IsRow net distinct mid known router h.old.last p (map_of.get h.old.table p)) at (h.rows p));
                steady = λ p r at. steady_row router s is h p r at (subst (IsRow net distinct mid known router h.old.last p (map_of.get h.old.table p)) at (h.rows p));
                owned = λ p tag owns. owned_after router s h p tag owns;
              };
          everyone = λ router node node_is.
              let s = steady.everyone router node node_is in
              let t = did.ticked router s.0 s.1 in
              did.went router t.after t.after_is;
        }
      where
        plain_of : (router : ℕ) (s : State) (h : HasHeardRound net distinct mid known router s) (p : Prefix6) (r : RouteValue) → IsRowOf net distinct mid known router h.old.last p (map_of.get h.old.table p) r → IsPlainRow known p r
        plain_of router s h p r row = record { is_known = row.is_known; positive = row.positive; in_range = row.in_range; clocked = by_clock r.clock row.by_clock }
          where
            by_clock : (c : Clock) → IsByClock net distinct mid known router h.old.last p (map_of.get h.old.table p) r c → IsClocked r.metric c
            by_clock Fixed k = k.1
            by_clock (Live until) k = elim k [ inl x ↦ x.1 | inr x ↦ x.low ]
            by_clock (Dying until) k = k.0

        owned_after : (router : ℕ) (s : State) (h : HasHeardRound net distinct mid known router s) (p : Prefix6) (tag : ℕ) → Owns net router p tag → (r : RouteValue) × (map_of.get s.table p ≡ Some r) × (r.clock ≡ Fixed)
        owned_after router s h p tag owns =
            let before = did.came router h.old h.old_is in
            let t = did.ticked router before.0 before.1 in
            let o = (steady.states router before.0 before.1).owned p tag owns in
            let same : t.after ≡ h.old = Some-same t.after h.old (sym t.after_is ∙ h.old_is) in
            let kept : map_of.get h.old.table p ≡ Some (record o.0 { changed = false }) =
            ap (λ (x : State). map_of.get x.table p) (sym same) ∙ t.ticked.table p ∙ ap (λ x. option_and_then without_mark (option_and_then (aged t.after.last) x)) o.1
            ∙ ap (λ c. option_and_then without_mark (aged_by_clock t.after.last o.0 c)) o.2 in
            by_value (record o.0 { changed = false }) o.2 kept (map_of.get s.table p) refl (h.rows p)
          where
            by_value : (q : RouteValue) → q.clock ≡ Fixed → map_of.get h.old.table p ≡ Some q → (x : Option RouteValue) → map_of.get s.table p ≡ x → IsRow net distinct mid known router h.old.last p (map_of.get h.old.table p) x
                → (r : RouteValue) × (map_of.get s.table p ≡ Some r) × (r.clock ≡ Fixed)
            by_value q fixed was None here row = absurd (None-Some q (sym row ∙ was))
            by_value q fixed was (Some r) here row = (r, here, ap (λ (x : RouteValue). x.clock) (row.fixed q was fixed) ∙ fixed)
