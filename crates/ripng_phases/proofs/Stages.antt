-- From phase to phase: after the first, thirteen until nothing old is held, and then fourteen in which all that no walk backs counts to
-- infinity, while every walk is found.
use Rattle.std.proofs.Common.{◌≡◌, ◌⊎◌, inl, inr, ℕ, zero, suc, ◌+◌, ◌-◌, ◌*◌, max, ◌<◌, ◌≤◌, List, [], ◌∷◌, ◌++◌, length, Some, slice_get, refl, sym, subst, ◌∙◌, arith}
use Rattle.std.proofs.lemmas.Option.{slice_get_within}
use Rattle.prefix6.specs.Prefix.{Prefix6}
use Rattle.route_table.specs.Route.{RouteValue, infinity}
use Rattle.route_table.specs.declared.route.Clock.TheVariants.{Live}
use Rattle.route_table.proofs.TableLaws.{Some-same}
use Rattle.router_core.specs.Machine.{State}
use Rattle.router_core.specs.Timers.{timeout}
use Rattle.router_core.specs.Offers.{prefix_named}
use Rattle.router_core.proofs.HearingSteps.{at_place}
use Rattle.ripng_world.specs.Network.{Network, Node}
use Rattle.ripng_world.specs.Walks.{Hop, Reaches, cost, cost_of_interface}
use Rattle.ripng_world.specs.World.{World}
use Rattle.ripng_world.proofs.HealPlain.{IsClocked}
use Rattle.ripng_world.proofs.Improving.{RouteAt}
use Rattle.ripng_phases.specs.Phases.{Step, IsMomentIn, Before, before_next, reached}
use Rattle.ripng_phases.proofs.Bounding.{SaidAbove}
use Rattle.ripng_phases.proofs.Calm.{lasts_at, held_all, at_last}
use Rattle.ripng_phases.proofs.Coming.{near_found}
use Rattle.ripng_phases.proofs.Expiring.{put_off, outlasting}
use Rattle.ripng_phases.proofs.Finding.{IsFoundAt, found_at}
use Rattle.ripng_phases.proofs.Fresh.{fresh_after}
use Rattle.ripng_phases.proofs.Held.{AllHeld}
use Rattle.ripng_phases.proofs.Lasting.{SaidLasts}
use Rattle.ripng_phases.proofs.Lower.{IsPositive, NoneOld, IsLow, low_at, told_two}
use Rattle.ripng_phases.proofs.Orderly.{IsOrderlyBy}
use Rattle.ripng_phases.proofs.Updating.{IsCalmPart, IsCalmPhase, orderly_first, orderly_last, takes_grows, no_fewer}
use Rattle.ripng_phases.proofs.Upper.{HasBetter, Has, Found, SaidFull}

-- phases of an orderly network, and what has happened since
abbrev pub CalmBegun : Network → (Prefix6 → Type 0) → Before → World → List (List Step) → List Step → World → Type 0
CalmBegun net known past w [] since w' = IsCalmPart net known past w since w'
CalmBegun net known past w (steps ∷ phases) since w' = (mid : World) × IsCalmPhase net known past w steps mid × CalmBegun net known (before_next w steps) mid phases since w'

-- what was live in some world
abbrev pub OldOf : World → ℕ → ℕ → Type 0
OldOf from router until = (s : State) → slice_get from.states router ≡ Some s → until ≤ s.last + timeout

-- since then each router's regular update was put off so many times
abbrev pub PutOff : World → ℕ → World → Type 0
PutOff from n w = (router : ℕ) (s t : State) → slice_get from.states router ≡ Some s → slice_get w.states router ≡ Some t → s.last + 15_000 * n ≤ max t.last t.regular

module _ (net : Network) (known : Prefix6 → Type 0) (positive : IsPositive net) where
  pub reach_positive : (router : ℕ) (p : Prefix6) (metric tag : ℕ) (walk : List Hop) → Reaches net router p metric tag walk → 1 ≤ metric
  reach_positive router p metric tag [] reach = as_le reach.costs
    where
      as_le : {m : ℕ} → 1 ≡ m → 1 ≤ m
      as_le e = omega arith
  reach_positive router p metric tag (h ∷ rest) reach =
      at_least (cost_of_interface net router h.iface) (cost net h.router rest) metric (positive router h.iface reach.is_walk.0.1.here reach.is_walk.0.1.here_is) reach.costs
    where
      at_least : (c v m : ℕ) → 1 ≤ c → c + v ≡ m → 1 ≤ m
      at_least c v m a e = omega arith

  -- ---- between phases

  pub record IsKept (old : ℕ → ℕ → Type 0) (past : Before) (w : World) : Type 0 where
    pub within : past.first ≤ length w.sent
    pub lasts : SaidLasts past.moments w past.first
    pub held : AllHeld net w past.first past.moments old
    pub two : SaidAbove net w past.first 2

  -- with so much found and told
  pub record IsHealing (f : ℕ) (past : Before) (w : World) : Type 0 where
    pub kept : IsKept NoneOld past w
    pub said : SaidAbove net w past.first (f + 2)
    pub found : Found net w (f + 1)
    pub full : SaidFull net w past.first f

  pub record IsAging (n : ℕ) (past : Before) (w : World) : Type 0 where
    pub from : World
    pub kept : IsKept (OldOf from) past w
    pub put : PutOff from n w
    pub there : (router : ℕ) → router < length net → (s : State) × (slice_get from.states router ≡ Some s)

  -- before the first phase; with old routes; healing
  abbrev pub IsAt : ℕ → Before → World → Type 0
  IsAt k past w = (k ≡ 0) ⊎ (((1 ≤ k) × (k ≤ 13) × IsAging (k - 1) past w) ⊎ ((14 ≤ k) × IsHealing (k - 14) past w))

  module _ (past : Before) (w : World) (steps : List Step) (w' : World) (calm : IsCalmPhase net known past w steps w') where
    within_next : length w.sent ≤ length w'.sent
    within_next = no_fewer w w' (takes_grows net steps w w' calm.phase.takes)

    lasts_next : SaidLasts (IsMomentIn steps) w' (length w.sent)
    lasts_next =
        at_last net known past w steps w' calm.part (λ v. SaidLasts (IsMomentIn steps) v (length w.sent))
        (lasts_at net known past w steps w' calm.part (IsMomentIn steps) (λ _ _ m. m) (λ _ _ m. inr m) (length w.sent) (λ i d late is. absurd (no i (length w.sent) late (slice_get_within w.sent i d is))))
      where
        no : (i n : ℕ) → n ≤ i → i < n → ⊥
        no i n a b = omega arith

    two_next : SaidAbove net w' (length w.sent) 2
    two_next = at_last net known past w steps w' calm.part (λ v. SaidAbove net v (length w.sent) 2) (told_two net known positive past w steps w' calm.part)

    kept_first : IsKept (OldOf w') (before_next w steps) w'
    kept_first =
        record {
          within = within_next;
          lasts = lasts_next;
          held = λ router p r until at clock. inr (λ s is. subst (λ (t : State). until ≤ t.last + timeout) (Some-same at.0 s (sym at.1 ∙ is)) (soon router p r until at clock));
          two = two_next;
        }
      where
        soon : (router : ℕ) (p : Prefix6) (r : RouteValue) (until : ℕ) (at : RouteAt w' router p r) → r.clock ≡ Live until → until ≤ at.0.last + timeout
        soon router p r until at clock =
            let row : IsOrderlyBy net router at.0.last p r (Live until) = subst (IsOrderlyBy net router at.0.last p r) clock (((orderly_last net known past w steps w' calm.part).states router at.0 at.1).by_clock p r at.2) in
            row.1

    kept_next : (old : ℕ → ℕ → Type 0) → IsKept old past w → IsKept old (before_next w steps) w'
    kept_next old kept = record { within = within_next; lasts = lasts_next; held = fresh_after net known past w steps w' calm old kept.held kept.lasts; two = two_next }

    -- a router of the beginning
    router_in : (router : ℕ) (t : State) → slice_get w'.states router ≡ Some t → (router < length net) × ((s : State) × (slice_get w.states router ≡ Some s))
    router_in router t is =
        let o = (orderly_last net known past w steps w' calm.part).states router t is in
        (slice_get_within net router o.node o.node_is, (orderly_first net known past w steps w' calm.part).everyone router o.node o.node_is)

    put_next : (from : World) (n : ℕ) → PutOff from n w → PutOff from (n + 1) w'
    put_next from n put router s t s_is t_is =
        let r = router_in router t t_is in
        total s.last n r.1.0.last r.1.0.regular t.last t.regular (put router s r.1.0 s_is r.1.1) (put_off net known past w steps w' calm router r.0 r.1.0 r.1.1 t t_is)
      where
        total : (a n l r k t : ℕ) → a + 15_000 * n ≤ max l r → max l r + 15_000 ≤ t → a + 15_000 * (n + 1) ≤ max k t
        total a n l r k t e f = omega arith

    -- nothing old is left
    none_old : (from : World) → PutOff from 12 w → IsKept (OldOf from) past w → ((router : ℕ) (t : State) → slice_get w'.states router ≡ Some t → (s : State) × (slice_get from.states router ≡ Some s)) → IsKept NoneOld (before_next w steps) w'
    none_old from put kept there =
        let next = kept_next (OldOf from) kept in
        record {
          within = next.within;
          lasts = next.lasts;
          held = λ router p r until at clock. elim (next.held router p r until at clock) [
            | inl x ↦ inl x
            | inr x ↦ absurd (gone router p r until at clock (there router at.0 at.1) x)
          ];
          two = next.two;
        }
      where
        gone : (router : ℕ) (p : Prefix6) (r : RouteValue) (until : ℕ) (at : RouteAt w' router p r) → r.clock ≡ Live until → ((s : State) × (slice_get from.states router ≡ Some s)) → OldOf from router until → ⊥
        gone router p r until at clock s old =
            let k = router_in router at.0 at.1 in
            over s.0.last until (old s.0 s.1)
            (outlasting net known past w steps w' calm router k.0 k.1.0 k.1.1 (s.0.last + timeout) (early s.0.last k.1.0.last k.1.0.regular (put router s.0 k.1.0 s.1 k.1.1)) at.0 at.1 p r until at.2 clock)
          where
            over : (a u : ℕ) → u ≤ a + timeout → a + timeout < u → ⊥
            over a u e f = omega arith

            early : (a l r : ℕ) → a + 15_000 * 12 ≤ max l r → a + timeout ≤ max l r
            early a l r e = omega arith

    healing_first : IsKept NoneOld (before_next w steps) w' → IsHealing 0 (before_next w steps) w'
    healing_first kept =
        record {
          kept = kept;
          said = kept.two;
          found = λ router p metric tag walk reach few low. found_own router p metric tag walk reach few;
          full = λ i x late is entries spelled e stands c tag walk reach few low. absurd (no c few (reach_positive x.router (prefix_named e) c tag walk reach));
        }
      where
        no : (c : ℕ) → c ≤ 0 → 1 ≤ c → ⊥
        no c e f = omega arith

        found_own : (router : ℕ) (p : Prefix6) (metric tag : ℕ) (walk : List Hop) → Reaches net router p metric tag walk → metric ≤ 1 → Has w' router p metric
        found_own router p metric tag [] reach few =
            let s = (orderly_last net known past w steps w' calm.part).everyone router reach.owner.node reach.owner.node_is in
            let o = (orderly_last net known past w steps w' calm.part).states router s.0 s.1 in
            let r = o.owned p tag reach.owner in
            (r.0, (s.0, s.1, r.1), as_le r.0.metric metric (subst (IsClocked r.0.metric) r.2 (o.plain p r.0 r.1).clocked) reach.costs)
          where
            as_le : (a m : ℕ) → a ≡ 1 → 1 ≡ m → a ≤ m
            as_le a m e f = omega arith
        found_own router p metric tag (h ∷ rest) reach few =
            absurd (too_few (cost_of_interface net router h.iface) (cost net h.router rest) metric (positive router h.iface reach.is_walk.0.1.here reach.is_walk.0.1.here_is)
            (reach_positive h.router p (cost net h.router rest) tag rest (record { is_walk = reach.is_walk.1; costs = refl; owner = reach.owner })) reach.costs few)
          where
            too_few : (c v m : ℕ) → 1 ≤ c → 1 ≤ v → c + v ≡ m → m ≤ 1 → ⊥
            too_few c v m a b e f = omega arith

    -- in a phase of healing
    module _ (f : ℕ) (now : IsHealing f past w) where
      pub one_less : f ≤ f + 1
      one_less = omega arith

      pub as_many : f + 1 ≤ f + 1
      as_many = omega arith

      pub enough : f + 1 ≤ f + 2
      enough = omega arith

      enough_more : f + 1 + 1 ≤ f + 2
      enough_more = omega arith

      pub low_along : (before after : List Step) → steps ≡ before ++ after → IsLow net known positive past w steps w' calm.part past.first (f + 2) (length w.sent) (reached w before)
      low_along = low_at net known positive past w steps w' calm.part (f + 2) now.kept.held now.said

      pub found_along : (before after : List Step) → steps ≡ before ++ after
          → IsFoundAt net known positive past w steps w' calm.part now.kept.within now.kept.held (f + 2) now.said (f + 1) f one_less as_many enough (reached w before)
      found_along = found_at net known positive past w steps w' calm.part now.kept.within now.kept.held (f + 2) now.said (f + 1) f one_less as_many enough now.found now.full

      one_found : (router : ℕ) (p : Prefix6) (metric tag : ℕ) (walk : List Hop) → Reaches net router p metric tag walk → metric ≤ f + 1 + 1 → metric < infinity → Has w' router p metric ⊎ HasBetter net router p metric
      one_found router p metric tag walk reach few low =
          near_found net known positive past w steps w' calm (held_all net known past w steps w' calm.part now.kept.within NoneOld now.kept.held) (f + 2) (λ b a parts. (low_along b a parts).said)
          (f + 1) enough_more (λ b a parts. (found_along b a parts).found) (λ b a parts. (found_along b a parts).told) router p metric few low tag walk reach

      again : (fuel router : ℕ) (p : Prefix6) (metric tag : ℕ) (walk : List Hop) → metric < fuel → Reaches net router p metric tag walk → metric ≤ f + 1 + 1 → metric < infinity → Has w' router p metric
      again zero router p metric tag walk fits reach few low = absurd (omega (arith, fits))
      again (suc fuel) router p metric tag walk fits reach few low =
          elim (one_found router p metric tag walk reach few low) [
            | inl x ↦ x
            | inr b ↦
                let x = again fuel router p b.0 b.1 b.2 (fewer b.0 metric fuel b.4 fits) b.3 (as_few b.0 metric (f + 1 + 1) b.4 few) (as_low b.0 metric b.4 low) in
                (x.0, x.1, no_dearer x.0.metric b.0 metric x.2 b.4)
          ]
        where
          fewer : (a b n : ℕ) → a < b → b < suc n → a < n
          fewer a b n e g = omega arith

          as_few : (a b d : ℕ) → a < b → b ≤ d → a ≤ d
          as_few a b d e g = omega arith

          as_low : (a b : ℕ) → a < b → b < 16 → a < 16
          as_low a b e g = omega arith

          no_dearer : (x a b : ℕ) → x ≤ a → a < b → x ≤ b
          no_dearer x a b e g = omega arith

      pub healing_next : IsHealing (f + 1) (before_next w steps) w'
      healing_next =
          record {
            kept = kept_next NoneOld now.kept;
            said = subst (SaidAbove net w' (length w.sent)) (shift f) (at_last net known past w steps w' calm.part (λ v. SaidAbove net v (length w.sent) (f + 2 + 1)) (λ b a parts. (low_along b a parts).told));
            found = λ router p metric tag walk reach few low. again (suc metric) router p metric tag walk (one_more metric) reach few low;
            full = at_last net known past w steps w' calm.part (λ v. SaidFull net v (length w.sent) (f + 1)) (λ b a parts. (found_along b a parts).told);
          }
        where
          shift : (f : ℕ) → f + 2 + 1 ≡ f + 1 + 2
          shift f = omega arith

          one_more : (n : ℕ) → n < suc n
          one_more n = omega arith

    -- ---- one phase more

    pub at_next : (k : ℕ) → IsAt k past w → IsAt (suc k) (before_next w steps) w'
    at_next k (inl none) =
        inr (inl (one k none, few k none, record { from = w'; kept = kept_first; put = λ router s t s_is t_is. begin s t k none (Some-same s t (sym s_is ∙ t_is)); there = λ router here. by_node router (at_place net router here) }))
      where
        by_node : (router : ℕ) → (node : Node) × (slice_get net router ≡ Some node) → (s : State) × (slice_get w'.states router ≡ Some s)
        by_node router node = (orderly_last net known past w steps w' calm.part).everyone router node.0 node.1

        one : (k : ℕ) → k ≡ 0 → 1 ≤ suc k
        one k e = omega arith

        few : (k : ℕ) → k ≡ 0 → suc k ≤ 13
        few k e = omega arith

        begin : (s t : State) (k : ℕ) → k ≡ 0 → s ≡ t → s.last + 15_000 * (suc k - 1) ≤ max t.last t.regular
        begin s t k none same = subst (λ (x : State). s.last + 15_000 * (suc k - 1) ≤ max x.last x.regular) same (at_first s.last s.regular k none)
          where
            at_first : (l r k : ℕ) → k ≡ 0 → l + 15_000 * (suc k - 1) ≤ max l r
            at_first l r k e = omega arith
    at_next k (inr (inl aging)) = by (split k)
      where
        split : (k : ℕ) → (13 ≤ k) ⊎ (k < 13)
        split k = grind arith

        state_of : (router : ℕ) (t : State) → slice_get w'.states router ≡ Some t → (s : State) × (slice_get aging.2.from.states router ≡ Some s)
        state_of router t is = aging.2.there router (router_in router t is).0

        by : (13 ≤ k) ⊎ (k < 13) → IsAt (suc k) (before_next w steps) w'
        by (inr more) = inr (inl (one k, few k more, record { from = aging.2.from; kept = kept_next (OldOf aging.2.from) aging.2.kept; put = subst (λ n. PutOff aging.2.from n w') (same k aging.0) (put_next aging.2.from (k - 1) aging.2.put); there = aging.2.there }))
          where
            one : (k : ℕ) → 1 ≤ suc k
            one k = omega arith

            few : (k : ℕ) → k < 13 → suc k ≤ 13
            few k e = omega arith

            same : (k : ℕ) → 1 ≤ k → k - 1 + 1 ≡ suc k - 1
            same k e = omega arith
        by (inl done) =
            inr (inr (
              last k done,
              subst (λ n. IsHealing n (before_next w steps) w') (nought k done aging.1)
                  (healing_first (none_old aging.2.from (subst (λ n. PutOff aging.2.from n w) (twelve k done aging.1) aging.2.put) aging.2.kept state_of)),
            ))
          where
            last : (k : ℕ) → 13 ≤ k → 14 ≤ suc k
            last k e = omega arith

            nought : (k : ℕ) → 13 ≤ k → k ≤ 13 → 0 ≡ suc k - 14
            nought k e f = omega arith

            twelve : (k : ℕ) → 13 ≤ k → k ≤ 13 → k - 1 ≡ 12
            twelve k e f = omega arith
    at_next k (inr (inr healing)) =
        inr (inr (more k healing.0, subst (λ n. IsHealing n (before_next w steps) w') (shift k healing.0) (healing_next (k - 14) healing.1)))
      where
        more : (k : ℕ) → 14 ≤ k → 14 ≤ suc k
        more k e = omega arith

        shift : (k : ℕ) → 14 ≤ k → k - 14 + 1 ≡ suc k - 14
        shift k e = omega arith
