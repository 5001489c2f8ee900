-- After k synchronous rounds from a cold start every router has exactly the least costs within k hops.
use Rattle.std.proofs.Common.{◌≡◌, ◌⊎◌, inl, inr, ℕ, suc, ◌+◌, ◌<◌, ◌≤◌, List, [], ◌∷◌, map, length, Some, slice_get, refl, ap, sym, subst, ◌∙◌, arith, le_refl, add-zero}
use Rattle.std.specs.FinMap as map_of
use Rattle.prefix6.specs.Prefix.{Prefix6}
use Rattle.prefix6.proofs.PrefixLaws.{prefixes_total}
use Rattle.route_table.specs.Route.{RouteValue, infinity}
use Rattle.route_table.proofs.TableLaws.{Some-same, at_from_entries}
use Rattle.router_core.specs.Owning.{owned_route}
use Rattle.router_core.specs.Machine.{State, started, owned_table}
use Rattle.ripng_world.specs.Network.{Network, Node, config_of, Owns, OwnsPrefixes, AreZoned, HasDistinctAddresses}
use Rattle.ripng_world.specs.Walks.{Hop, Reaches}
use Rattle.ripng_world.specs.World.{World, IsCold}
use Rattle.ripng_world.specs.Rounds.{Round, SynchronousRounds, AreWithinTimeoutAfter, AreWithinTimeout, IsMomentOf}
use Rattle.ripng_world.specs.Network.{IsUsable}
use Rattle.ripng_world.specs.Convergence.{IsNeverQuiet, FitsTables, AreConverged}
use Rattle.ripng_world.proofs.Each.{each_mapped, each_from_places}
use Rattle.ripng_world.proofs.ColdStates.{cold_states, found_at}
use Rattle.ripng_world.proofs.Members.{at_map}
use Rattle.ripng_world.proofs.Improving.{RouteAt, one_route, IsFine}
use Rattle.ripng_world.proofs.RoundEnd.{IsSettled, next_settled}

-- a settled network has exactly the least costs
converged : (net : Network) (k : ℕ) (moments : ℕ → ℕ → Type 0) (w : World) → IsSettled net k moments w → AreConverged net k w
converged net k moments w settled router s is =
    record {
      least = λ p r at low. let f = (settled.states router s is).fine p r at in
          record {
            reached = (r.tag, f.walk, f.hops, f.reaches);
            least = λ metric tag walk hops reach. not_below p r at low metric tag walk hops reach;
            usable = low;
          };
      found = λ p metric within.
          let q = settled.complete router p metric within.reached.0 within.reached.1 within.reached.3 within.reached.2 within.usable in
          let at : map_of.get s.table p ≡ Some q.0 = ap (λ (x : State). map_of.get x.table p) (Some-same s q.1.0 (sym is ∙ q.1.1)) ∙ q.1.2 in
          let f = (settled.states router s is).fine p q.0 at in
          (q.0, at, both q.0.metric metric q.2 (within.least q.0.metric q.0.tag f.walk f.hops f.reaches));
    }
  where
    both : (a b : ℕ) → a ≤ b → b ≤ a → a ≡ b
    both a b e f = omega arith

    not_below : (p : Prefix6) (r : RouteValue) → map_of.get s.table p ≡ Some r → r.metric < infinity → (metric tag : ℕ) (walk : List Hop) → length walk ≤ k → Reaches net router p metric tag walk → r.metric ≤ metric
    not_below p r at low metric tag walk hops reach = by_size (split metric)
      where
        split : (m : ℕ) → (m < 16) ⊎ (16 ≤ m)
        split m = grind arith

        above : (a b : ℕ) → a < 16 → 16 ≤ b → a ≤ b
        above a b e f = omega arith

        by_size : (metric < 16) ⊎ (16 ≤ metric) → r.metric ≤ metric
        by_size (inl small) =
            let q = settled.complete router p metric tag walk reach hops small in
            subst (λ (x : RouteValue). x.metric ≤ metric) (one_route w router p q.0 r q.1 (s, is, at)) q.2
        by_size (inr large) = above r.metric metric low large

module _ (net : Network) (usable : IsUsable net) (owns : OwnsPrefixes net) (noisy : IsNeverQuiet net) (distinct : HasDistinctAddresses net) (zoned : AreZoned net) (fits : FitsTables net) where
  rounds_settle : (rounds : List Round) (k : ℕ) (previous : ℕ → ℕ → Type 0) (w w' : World) → IsSettled net k previous w → AreWithinTimeoutAfter previous rounds → SynchronousRounds net w rounds w' → AreConverged net (k + length rounds) w'
  rounds_settle [] k previous w w' settled close is = subst (λ n. AreConverged net n w') (sym (add-zero k)) (subst (AreConverged net k) (sym is) (converged net k previous w settled))
  rounds_settle (round ∷ rounds) k previous w w' settled close run =
      subst (λ n. AreConverged net n w') (shifted k (length rounds))
      (rounds_settle rounds (suc k) (IsMomentOf round) run.0 w' (next_settled net usable owns noisy distinct zoned fits k previous w run.0 settled round run.1 close.0) close.1 run.2)
    where
      shifted : (a b : ℕ) → suc a + b ≡ a + suc b
      shifted a b = omega arith

  -- ---- the cold start

  own_fine : (base : World) (moments : ℕ → Type 0) (router last : ℕ) (node : Node) → slice_get net router ≡ Some node → (p : Prefix6) (r : RouteValue) → map_of.get (owned_table (config_of node)) p ≡ Some r
      → IsFine net base 0 moments router last p r
  own_fine base moments router last node is =
      at_from_entries (λ (t : Prefix6 × RouteValue). IsFine net base 0 moments router last t.0 t.1) _
      (each_mapped (λ (t : Prefix6 × RouteValue). IsFine net base 0 moments router last t.0 t.1) (λ t. (t.0, owned_route t.1)) node.prefixes
      (each_from_places (λ (t : Prefix6 × ℕ). IsFine net base 0 moments router last t.0 (owned_route t.1)) node.prefixes own))
    where
      own : (place : ℕ) (t : Prefix6 × ℕ) → slice_get node.prefixes place ≡ Some t → IsFine net base 0 moments router last t.0 (owned_route t.1)
      own place t listed =
          let o : Owns net router t.0 t.1 = record { node = node; node_is = is; place = place; listed = listed } in
          record {
            is_prefix = (owns router t.0 t.1 o).clear;
            walk = [];
            hops = le_refl _;
            reaches = record { is_walk = tt; costs = refl; owner = o };
            low = omega arith;
            positive = le_refl _;
            shape = (refl, refl);
          }

  cold_settled : (moments : List ℕ) (cold : World) → IsCold net moments cold → IsSettled net 0 (λ _ _. ⊥) cold
  cold_settled moments cold is =
      let both = cold_states 0 net moments cold.states cold.sent is.starts in
      record {
        states = λ router s here. let t = both.0 router s here in
            record {
              node = t.0;
              node_is = t.2;
              config_is = ap (λ (x : State). x.config) t.3;
              fine = λ p r at. own_fine cold (λ _. ⊥) router s.last t.0 t.2 p r (sym (ap (λ (x : State). map_of.get x.table p) t.3) ∙ at);
            };
        everyone = both.1;
        complete = λ router p metric tag walk reach hops low. owned router p metric tag walk reach hops both.0 both.1;
      }
    where
      owned : (router : ℕ) (p : Prefix6) (metric tag : ℕ) (walk : List Hop) → Reaches net router p metric tag walk → length walk ≤ 0
          → ((i : ℕ) (s : State) → slice_get cold.states i ≡ Some s → (node : Node) × (now : ℕ) × (slice_get net i ≡ Some node) × (s ≡ started (config_of node) now))
          → ((i : ℕ) (node : Node) → slice_get net i ≡ Some node → (s : State) × (slice_get cold.states i ≡ Some s))
          → (r : RouteValue) × RouteAt cold router p r × (r.metric ≤ metric)
      owned router p metric tag (h ∷ walk) reach hops f g = absurd (omega arith)
      owned router p metric tag [] reach hops f g =
          let s = g router reach.owner.node reach.owner.node_is in
          let t = f router s.0 s.1 in
          let same : t.0 ≡ reach.owner.node = Some-same t.0 reach.owner.node (sym t.2 ∙ reach.owner.node_is) in
          let q = found_at (map (λ u. (u.0, owned_route u.1)) t.0.prefixes) p (owned_route tag)
          (at_map (λ (u : Prefix6 × ℕ). (u.0, owned_route u.1)) t.0.prefixes (p, tag) (reach.owner.place, ap (λ (n : Node). slice_get n.prefixes reach.owner.place) same ∙ reach.owner.listed)) in
          let at : map_of.get s.0.table p ≡ Some q.0 = ap (λ (x : State). map_of.get x.table p) t.3 ∙ map_of.get-from_entries prefixes_total _ p ∙ q.1 in
          let one : q.0.metric ≡ 1 = at_from_entries (λ (u : Prefix6 × RouteValue). u.1.metric ≡ 1) (map (λ u. (u.0, owned_route u.1)) t.0.prefixes)
          (each_mapped (λ (u : Prefix6 × RouteValue). u.1.metric ≡ 1) (λ u. (u.0, owned_route u.1)) t.0.prefixes (each_from_places (λ (u : Prefix6 × ℕ). (owned_route u.1).metric ≡ 1) t.0.prefixes (λ i u e. refl)))
          p q.0 (map_of.get-from_entries prefixes_total _ p ∙ q.1) in
          (q.0, (s.0, s.1, at), low q.0.metric metric one reach.costs)
        where
          low : (a m : ℕ) → a ≡ 1 → 1 ≡ m → a ≤ m
          low a m e f = omega arith

  pub converges : (moments : List ℕ) (rounds : List Round) (cold w : World) → IsCold net moments cold → SynchronousRounds net cold rounds w → AreWithinTimeout rounds → AreConverged net (length rounds) w
  converges moments rounds cold w is run close =
      subst (λ n. AreConverged net n w) (zero_first (length rounds)) (rounds_settle rounds 0 (λ _ _. ⊥) cold w (cold_settled moments cold is) close run)
    where
      zero_first : (n : ℕ) → 0 + n ≡ n
      zero_first n = omega arith
