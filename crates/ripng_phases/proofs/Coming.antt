-- At the end of a phase walks that cost one more are found: before it, a route that is no dearer is held, or such an update is to come.
use Rattle.std.proofs.Common.{◌≡◌, ◌≢◌, ◌⊎◌, inl, inr, ℕ, ◌+◌, min, max, ◌<◌, ◌≤◌, Bool, true, false, cond, List, [], ◌∷◌, ◌++◌, length, All, Some, slice_get, refl, ap, sym, subst, ◌∙◌, arith, append-nil, le_trans}
use Rattle.std.specs.FinMap as map_of
use Rattle.prefix6.specs.Prefix.{Prefix6}
use Rattle.ripng_wire.specs.declared.rte.Rte.{Rte}
use Rattle.route_table.specs.Route.{RouteValue, infinity}
use Rattle.route_table.specs.declared.route.Origin.TheVariants.{Learned}
use Rattle.router_core.specs.Machine.{State}
use Rattle.router_core.specs.Offers.{prefix_named}
use Rattle.router_core.specs.Output.{is_learned_on}
use Rattle.router_core.specs.declared.answer.NoteKind.TheVariants.{NoMemory}
use Rattle.ripng_world.specs.Network.{Network, AreLinked}
use Rattle.ripng_world.specs.Walks.{Hop, Reaches, cost, cost_of_interface}
use Rattle.ripng_world.specs.World.{World, Deliver, Delivers, Happens, address_at, arrival_of}
use Rattle.ripng_world.proofs.HealPlain.{IsClocked}
use Rattle.ripng_world.proofs.HealRows.{IsAtMost, IsRaised, through}
use Rattle.ripng_world.proofs.Improving.{one_route}
use Rattle.ripng_world.proofs.Members.{At}
use Rattle.ripng_world.proofs.RoundNeighbors.{is_another, one_sender}
use Rattle.ripng_world.proofs.WorldRuns.{not_own}
use Rattle.ripng_phases.specs.Phases.{Step, IsOrdinary, IsHeardUpdate, Takes, Before, reached}
use Rattle.ripng_phases.proofs.Along.{along, two_splits}
use Rattle.ripng_phases.proofs.Bounding.{SaidAbove}
use Rattle.ripng_phases.proofs.Calm.{Within, in_net, near_now, recent_now, orderly_here, at_next}
use Rattle.ripng_phases.proofs.Fresh.{address_is, linked_back, rest_takes, update_here, telling, apart_from, update_orderly}
use Rattle.ripng_phases.proofs.Held.{AllHeld}
use Rattle.ripng_phases.proofs.Finding.{step_found}
use Rattle.ripng_phases.proofs.Lower.{IsPositive, NoneOld}
use Rattle.ripng_phases.proofs.Moving.{HearsHere}
use Rattle.ripng_phases.proofs.Orderly.{IsOrderly}
use Rattle.ripng_phases.proofs.Resting.{IsRestingOn}
use Rattle.ripng_phases.proofs.Runs.{takes_rest, takes_reached}
use Rattle.ripng_phases.proofs.Updated.{update_bounds, update_moves}
use Rattle.ripng_phases.proofs.Updating.{IsCalmPhase, IsHeardOf, heard_of, orderly_last, takes_grows, still_sent}
use Rattle.ripng_phases.proofs.Upper.{HasBetter, cheaper, Has, Found, SaidFull, WalkFrom, backed_by, hidden}

split : (a b : ℕ) → (b ≤ a) ⊎ (a < b)
split a b = grind arith

module _ (net : Network) (known : Prefix6 → Type 0) (positive : IsPositive net) (past : Before) (w : World) (steps : List Step) (w' : World) (calm : IsCalmPhase net known past w steps w')
    (held : (before after : List Step) → steps ≡ before ++ after → AllHeld net (reached w before) past.first (Within past steps) NoneOld)
    (m : ℕ) (said : (before after : List Step) → steps ≡ before ++ after → SaidAbove net (reached w before) past.first m)
    (d : ℕ) (few : d + 1 ≤ m) (found : (before after : List Step) → steps ≡ before ++ after → Found net (reached w before) d)
    (told : (before after : List Step) → steps ≡ before ++ after → SaidFull net (reached w before) (length w.sent) d)
    (router : ℕ) (p : Prefix6) (bound : ℕ) (small : bound ≤ d + 1) (low : bound < infinity) where
  less : (c z n d : ℕ) → 1 ≤ c → c + z ≤ n → n ≤ d + 1 → z ≤ d
  less c z n d a b e = omega arith

  below : (c z n : ℕ) → c + z ≤ n → n < 16 → z < 16
  below c z n a b = omega arith

  as_few : (z d m : ℕ) → z ≤ d → d + 1 ≤ m → z ≤ m
  as_few z d m a b = omega arith

  -- an update of the phase that tells a route that is no dearer
  pub record IsTight (teller : ℕ) (here : teller < length net) (teller_iface iface : ℕ) : Type 0 where
    pub metric : ℕ
    pub heard : IsHeardOf net known w steps w' (calm.phase.told teller here).tick.after teller teller_iface router iface p metric
    pub le : through net router iface metric ≤ bound

  -- the update of the next router on a walk is such a one, or there is a better walk
  tight : (teller : ℕ) (here : teller < length net) (teller_iface iface : ℕ) → AreLinked net router iface teller teller_iface → router ≢ teller
      → (z tag : ℕ) (walk : List Hop) → Reaches net teller p z tag walk → cost_of_interface net router iface + z ≤ bound → IsTight teller here teller_iface iface ⊎ HasBetter net router p bound
  tight teller here teller_iface iface linked other z tag walk reach sum = by (is_learned_on teller_iface f.0.origin) refl
    where
      u : IsHeardUpdate net w steps teller
      u = calm.phase.told teller here

      z_few : z ≤ d
      z_few = less (cost_of_interface net router iface) z bound d (positive router iface linked.here linked.here_is) sum small

      z_low : z < infinity
      z_low = below (cost_of_interface net router iface) z bound sum low

      next : (Q : World → Type 0) → ((b a : List Step) → steps ≡ b ++ a → Q (reached w b)) → Q (calm.phase.told teller here).tick.after
      next Q all = at_next net known past w steps w' calm.part (calm.phase.told teller here).before (calm.phase.told teller here).tick (calm.phase.told teller here).after (calm.phase.told teller here).parts Q all

      f : Has (calm.phase.told teller here).tick.after teller p z
      f = next (λ v. Found net v d) found teller p z tag walk reach z_few z_low

      no_more : (q c z b : ℕ) → q ≤ z → c + z ≤ b → min (q + c) 16 ≤ b
      no_more q c z b a e = omega arith

      by : (b : Bool) → is_learned_on teller_iface f.0.origin ≡ b → IsTight teller here teller_iface iface ⊎ HasBetter net router p bound
      by true learned =
          inr (cheaper net router p bound (cost_of_interface net router iface + z) sum
          (hidden net known positive (calm.phase.told teller here).tick.after (next (IsOrderly net known) calm.part.orderly) past.first (Within past steps)
          (next (λ v. AllHeld net v past.first (Within past steps) NoneOld) held) m (next (λ v. SaidAbove net v past.first m) said) teller teller_iface p z (as_few z d m z_few few) z_low f.0 f.1 f.2 learned router iface linked))
      by false learned =
          inl (record {
            metric = f.0.metric;
            heard = subst (λ b. IsHeardOf net known w steps w' (calm.phase.told teller here).tick.after teller teller_iface router iface p (cond b infinity f.0.metric)) learned
                (heard_of net known past w steps w' calm teller here p f.0 f.1 teller_iface router iface (linked_back net router iface teller teller_iface linked) other);
            le = no_more f.0.metric (cost_of_interface net router iface) z bound f.2 sum;
          })

  -- it is still to come
  pub record IsComing (rest : List Step) : Type 0 where
    pub teller : ℕ
    pub here : teller < length net
    pub teller_iface : ℕ
    pub iface : ℕ
    pub other : router ≢ teller
    pub update : IsTight teller here teller_iface iface
    pub between : List Step
    pub to_come : rest ≡ between ++ update.heard.delivery ∷ update.heard.after

  -- it has come
  came : (teller : ℕ) (here : teller < length net) (teller_iface iface : ℕ) → router ≢ teller → (k : IsTight teller here teller_iface iface) → Has k.heard.delivery.after router p bound ⊎ HasBetter net router p bound
  came teller here teller_iface iface other k =
      let t = telling net known past w steps w' calm mid teller teller_iface router iface p k.metric k.heard in
      let bounds = update_bounds net calm.part.usable calm.part.distinct known calm.part.fits mid (reached w k.heard.before) k.heard.delivery.after orderly k.heard.datagram router iface k.heard.now k.heard.delivery.answer memory h t.update
      (apart_from net known past w steps w' calm mid teller teller_iface router iface p k.metric k.heard other) in
      let same : through net router iface t.update.entry.metric ≡ through net router iface k.metric = ap (through net router iface) t.metric_is in
      let t_low : through net router iface t.update.entry.metric < infinity = under (through net router iface t.update.entry.metric) (through net router iface k.metric) bound same k.le low in
      let moves = update_moves net calm.part.usable calm.part.distinct known calm.part.fits mid (reached w k.heard.before) k.heard.delivery.after orderly k.heard.datagram router iface k.heard.now k.heard.delivery.answer memory h t.update
      (apart_from net known past w steps w' calm mid teller teller_iface router iface p k.metric k.heard other) in
      by_bound moves.0
      (subst (λ n. IsAtMost net calm.part.distinct mid known router (max h.moves.old.last k.heard.now) p (map_of.get h.moves.old.table p) (map_of.get h.moves.new.table p) n) same
      (subst (λ (q : Prefix6). IsAtMost net calm.part.distinct mid known router (max h.moves.old.last k.heard.now) q (map_of.get h.moves.old.table q) (map_of.get h.moves.new.table q) (through net router iface t.update.entry.metric)) t.names (bounds t_low)))
    where
      mid : World
      mid = (calm.phase.told teller here).tick.after

      h : Delivers net (reached w k.heard.before) k.heard.datagram router iface k.heard.now k.heard.delivery.answer k.heard.delivery.after
      h = update_here net known past w steps w' calm (calm.phase.told teller here).tick.after teller teller_iface router iface p k.metric k.heard

      memory : All (λ n. n.kind ≢ NoMemory) k.heard.delivery.answer.notes
      memory = (rest_takes net known past w steps w' calm (calm.phase.told teller here).tick.after teller teller_iface router iface p k.metric k.heard).2

      orderly : IsOrderly net known (reached w k.heard.before)
      orderly = update_orderly net known past w steps w' calm (calm.phase.told teller here).tick.after teller teller_iface router iface p k.metric k.heard

      under : (a b c : ℕ) → a ≡ b → b ≤ c → c < 16 → a < 16
      under a b c e f g = omega arith

      next : (Q : World → Type 0) → ((b a : List Step) → steps ≡ b ++ a → Q (reached w b)) → Q (calm.phase.told teller here).tick.after
      next Q all = at_next net known past w steps w' calm.part (calm.phase.told teller here).before (calm.phase.told teller here).tick (calm.phase.told teller here).after (calm.phase.told teller here).parts Q all

      -- its gateway has raised it
      by_raised : (x : IsRaised net calm.part.distinct (calm.phase.told teller here).tick.after known router (max h.moves.old.last k.heard.now) p (map_of.get h.moves.old.table p) (through net router iface k.metric)) → HasBetter net router p bound
      by_raised x = elim (held k.heard.before (k.heard.delivery ∷ k.heard.after) k.heard.parts router p x.route x.until (h.moves.old, h.moves.old_is, x.was) x.clock) [ inl y ↦ by_rests y.rests | inr y ↦ absurd y ]
        where
          le : x.route.metric ≤ bound
          le = le_trans x.below k.le

          lower : (a b : ℕ) → a ≤ b → b < 16 → a < 16
          lower a b e f = omega arith

          few_too : (a b d m : ℕ) → a ≤ b → b ≤ d + 1 → d + 1 ≤ m → a ≤ m
          few_too a b d m e f g = omega arith

          first : (a b c d e f : ℕ) → Learned a b c ≡ Learned d e f → a ≡ d
          first a b c d e f g = cc

          second : (a b c d e f : ℕ) → Learned a b c ≡ Learned d e f → b ≡ e
          second a b c d e f g = cc

          by_walk : WalkFrom net known positive (cost_of_interface net router x.iface) x.told.sender p x.route.metric → HasBetter net router p bound
          by_walk z = by_poison (is_learned_on x.told.sender_iface x.told.route.origin) refl x.told.told
            where
              sum : cost_of_interface net router x.iface + z.0 ≤ bound
              sum = le_trans z.4 le

              z_few : z.0 ≤ d
              z_few = less (cost_of_interface net router x.iface) z.0 bound d (positive router x.iface x.told.linked.here x.told.linked.here_is) sum small

              z_low : z.0 < infinity
              z_low = below (cost_of_interface net router x.iface) z.0 bound sum low

              f : Has (calm.phase.told teller here).tick.after x.told.sender p z.0
              f = next (λ v. Found net v d) found x.told.sender p z.0 z.1 z.2 z.3 z_few z_low

              q_le : x.told.route.metric ≤ z.0
              q_le = subst (λ (r : RouteValue). r.metric ≤ z.0) (one_route mid x.told.sender p f.0 x.told.route f.1 x.told.at) f.2

              above_all : (mt r c v q : ℕ) → mt ≡ r → r ≤ v → c + v ≤ q → q < min (mt + c) 16 → ⊥
              above_all mt r c v q a b e g = omega arith

              by_poison : (b : Bool) → is_learned_on x.told.sender_iface x.told.route.origin ≡ b → x.metric ≡ cond b 16 x.told.route.metric → HasBetter net router p bound
              by_poison false e t = absurd (above_all x.metric x.told.route.metric (cost_of_interface net router x.iface) z.0 x.route.metric t q_le z.4 x.above)
              by_poison true e t =
                  cheaper net router p bound (cost_of_interface net router x.iface + z.0) sum
                  (hidden net known positive mid (next (IsOrderly net known) calm.part.orderly) past.first (Within past steps)
                  (next (λ v. AllHeld net v past.first (Within past steps) NoneOld) held) m (next (λ v. SaidAbove net v past.first m) said) x.told.sender x.told.sender_iface p z.0 (as_few z.0 d m z_few few) z_low
                  x.told.route x.told.at q_le e router x.iface x.told.linked)

          by_rests : IsRestingOn net (reached w k.heard.before) past.first router p x.route → HasBetter net router p bound
          by_rests y =
              let same = sym x.origin ∙ y.origin in
              let i_is : x.iface ≡ y.iface = first x.iface x.from x.next_hop y.iface (address_at net y.sent.router y.sent.iface) y.next_hop same in
              let f_is : x.from ≡ address_at net y.sent.router y.sent.iface = second x.iface x.from x.next_hop y.iface (address_at net y.sent.router y.sent.iface) y.next_hop same in
              let sender = one_sender net calm.part.distinct router y.iface x.from y.sent.router y.sent.iface x.told.sender x.told.sender_iface
              y.linked (subst (λ i. AreLinked net router i x.told.sender x.told.sender_iface) i_is x.told.linked)
              (address_is net y.sent.router y.sent.iface y.linked.there y.linked.there_is ∙ ap Some (sym f_is)) x.told.from_is in
              by_walk (subst (λ i. WalkFrom net known positive (cost_of_interface net router i) x.told.sender p x.route.metric) (sym i_is)
              (subst (λ s. WalkFrom net known positive (cost_of_interface net router y.iface) s p x.route.metric) sender.0
              (backed_by net known positive (reached w k.heard.before) orderly past.first (Within past steps) (held k.heard.before (k.heard.delivery ∷ k.heard.after) k.heard.parts) m
              (said k.heard.before (k.heard.delivery ∷ k.heard.after) k.heard.parts) router p x.route (lower x.route.metric bound le low) (few_too x.route.metric bound d m le small few) y)))

      by_bound : slice_get k.heard.delivery.after.states router ≡ Some h.moves.new
          → IsAtMost net calm.part.distinct (calm.phase.told teller here).tick.after known router (max h.moves.old.last k.heard.now) p (map_of.get h.moves.old.table p) (map_of.get h.moves.new.table p) (through net router iface k.metric)
          → Has k.heard.delivery.after router p bound ⊎ HasBetter net router p bound
      by_bound there (inl x) = inl (x.0, (h.moves.new, there, x.1), le_trans x.2 k.le)
      by_bound there (inr x) = inr (by_raised x)

  -- ---- along the phase

  abbrev IsNear : List Step → World → Type 0
  IsNear rest v = Has v router p bound ⊎ (IsComing rest ⊎ HasBetter net router p bound)

  near_next : (before : List Step) (s : Step) (after : List Step) → steps ≡ before ++ s ∷ after → IsOrdinary s.event → Happens net (reached w before) s.event s.answer s.after
      → All (λ n. n.kind ≢ NoMemory) s.answer.notes → IsNear (s ∷ after) (reached w before) → IsNear after s.after
  near_next before s after parts plain h memory (inr (inr better)) = inr (inr better)
  near_next before s after parts plain h memory (inr (inl k)) = by k.between k.to_come
    where
      by : (between : List Step) → s ∷ after ≡ between ++ k.update.heard.delivery ∷ k.update.heard.after → IsNear after s.after
      by [] e = elim (subst (λ (x : Step). Has x.after router p bound ⊎ HasBetter net router p bound) (sym (head e)) (came k.teller k.here k.teller_iface k.iface k.other k.update)) [ inl x ↦ inl x | inr x ↦ inr (inr x) ]
        where
          head : s ∷ after ≡ k.update.heard.delivery ∷ k.update.heard.after → s ≡ k.update.heard.delivery
          head e = cc
      by (x ∷ between) e =
          inr (inl (record { teller = k.teller; here = k.here; teller_iface = k.teller_iface; iface = k.iface; other = k.other; update = k.update; between = between; to_come = tail e }))
        where
          tail : s ∷ after ≡ x ∷ (between ++ k.update.heard.delivery ∷ k.update.heard.after) → after ≡ between ++ k.update.heard.delivery ∷ k.update.heard.after
          tail e = cc
  near_next before s after parts plain h memory (inl has) =
      elim (step_found net known positive calm.part.distinct (reached w before) s.after s.event s.answer plain h (orderly_here net known past w steps w' calm.part before s after parts) past.first (Within past steps)
      (held before (s ∷ after) parts) (near_now net known past w steps w' calm.part before s after parts) m (said before (s ∷ after) parts) (recent_now net known past w steps w' calm.part before s after parts)
      (IsComing after ⊎ HasBetter net router p bound) router p bound low (le_trans small few) full has) [
        | inl x ↦ inl x
        | inr x ↦ inr x
      ]
    where
      full : (x t : State) → slice_get (reached w before).states router ≡ Some x → (here : HearsHere net (reached w before) s.event s.answer router x t) (entry : Rte) → At here.hears.entries entry → prefix_named entry ≡ p → (z tag : ℕ) (walk : List Hop)
          → Reaches net here.sent.router p z tag walk → cost_of_interface net router here.iface + z ≤ bound → (entry.metric ≤ z) ⊎ (IsComing after ⊎ HasBetter net router p bound)
      full x t x_is here entry stands names z tag walk reach sum = elim (split here.datagram (length w.sent)) [ inl late ↦ by_told late | inr early ↦ inr (by_tight early) ]
        where
          one : 1 ≤ cost_of_interface net router here.iface
          one = positive router here.iface here.linked.there here.linked.there_is

          back : AreLinked net router here.iface here.sent.router here.sent.iface
          back = linked_back net here.sent.router here.sent.iface router here.iface here.linked

          by_told : length w.sent ≤ here.datagram → (entry.metric ≤ z) ⊎ (IsComing after ⊎ HasBetter net router p bound)
          by_told late =
              elim (told before (s ∷ after) parts here.datagram here.sent late here.sent_is here.hears.entries here.hears.read entry stands z tag walk (subst (λ q. Reaches net here.sent.router q z tag walk) (sym names) reach)
              (less (cost_of_interface net router here.iface) z bound d one sum small) (below (cost_of_interface net router here.iface) z bound sum low)) [
                | inl y ↦ inl y
                | inr y ↦ inr (inr (cheaper net router p bound (cost_of_interface net router here.iface + z) sum
                    (subst (λ q. HasBetter net router q (cost_of_interface net router here.iface + z)) names (y router here.iface back))))
              ]

          other : router ≢ here.sent.router
          other =
              let all = orderly_here net known past w steps w' calm.part before s after parts in
              let o = all.states router x x_is in
              is_another net all.zoned here.sent router here.iface x o.node o.node_is o.config_is here.linked (not_own x.config (arrival_of net here.sent here.iface here.now) here.clean here.response)

          by_tight : here.datagram < length w.sent → IsComing after ⊎ HasBetter net router p bound
          by_tight early =
              let inside = in_net net here.sent.router here.sent.iface here.linked.here here.linked.here_is in
              elim (tight here.sent.router inside here.sent.iface here.iface back other z tag walk reach sum) [ inl k ↦ inl (by_place inside k) | inr y ↦ inr y ]
            where
              same_number : (a b r i n j k : ℕ) → Deliver a r i n ≡ Deliver b r j k → a ≡ b
              same_number a b r i n j k e = cc

              no : (a b c : ℕ) → a ≡ b → c ≤ b → a < c → ⊥
              no a b c e f g = omega arith

              too_old : (a c : ℕ) → c ≤ a → a < c → ⊥
              too_old a c e f = omega arith

              by_place : (inside : here.sent.router < length net) → IsTight here.sent.router inside here.sent.iface here.iface → IsComing after
              by_place inside k = elim (two_splits before s after k.heard.before k.heard.delivery k.heard.after (sym parts ∙ k.heard.parts)) [
                | inl y ↦ record { teller = here.sent.router; here = inside; teller_iface = here.sent.iface; iface = here.iface; other = other; update = k; between = y.0; to_come = y.1 }
                | inr y ↦ elim y [
                  | inl same ↦ absurd (no here.datagram k.heard.datagram (length w.sent)
                      (same_number here.datagram k.heard.datagram router here.iface here.now here.iface k.heard.now (sym here.event ∙ ap (λ (q : Step). q.event) same ∙ k.heard.event)) k.heard.recent early)
                  | inr z ↦ absurd (too_old here.datagram (length w.sent) (k.heard.later z.0 s after z.1 here.datagram here.now here.event here.sent in_the_end refl refl) early)
                ]
              ]
                where
                  in_the_end : slice_get w'.sent here.datagram ≡ Some here.sent
                  in_the_end =
                      still_sent (reached w before) w' (takes_grows net (s ∷ after) (reached w before) w' (takes_rest net before (s ∷ after) w w' (subst (λ xs. Takes net w xs w') parts calm.phase.takes))) here.datagram here.sent here.sent_is

  near_end : IsNear steps w → Has w' router p bound ⊎ HasBetter net router p bound
  near_end start =
      elim (subst (IsNear []) (sym (takes_reached net steps w w' calm.phase.takes)) (along net w w' steps calm.phase.takes IsNear near_next steps [] (sym (append-nil steps)) start)) [
        | inl x ↦ inl x
        | inr x ↦ elim x [ inl k ↦ absurd (none k.between k.update.heard.delivery k.update.heard.after k.to_come) | inr y ↦ inr y ]
      ]
    where
      none : (between : List Step) (x : Step) (after : List Step) → [] ≡ between ++ x ∷ after → ⊥
      none [] x after e = cc
      none (y ∷ between) x after e = cc

  pub near_found : (tag : ℕ) (walk : List Hop) → Reaches net router p bound tag walk → Has w' router p bound ⊎ HasBetter net router p bound
  near_found tag [] reach =
      let s = (orderly_last net known past w steps w' calm.part).everyone router reach.owner.node reach.owner.node_is in
      let o = (orderly_last net known past w steps w' calm.part).states router s.0 s.1 in
      let r = o.owned p tag reach.owner in
      inl (r.0, (s.0, s.1, r.1), as_le r.0.metric bound (subst (IsClocked r.0.metric) r.2 (o.plain p r.0 r.1).clocked) reach.costs)
    where
      as_le : (a n : ℕ) → a ≡ 1 → 1 ≡ n → a ≤ n
      as_le a n e f = omega arith
  near_found tag (h ∷ walk) reach =
      let inside = in_net net h.router h.router_iface reach.is_walk.0.1.there reach.is_walk.0.1.there_is in
      elim (tight h.router inside h.router_iface h.iface reach.is_walk.0.1 reach.is_walk.0.0 (cost net h.router walk) tag walk (record { is_walk = reach.is_walk.1; costs = refl; owner = reach.owner }) (as_le reach.costs)) [
        | inl k ↦ near_end (inr (inl (record { teller = h.router; here = inside; teller_iface = h.router_iface; iface = h.iface; other = reach.is_walk.0.0; update = k; between = k.heard.before; to_come = k.heard.parts })))
        | inr y ↦ inr y
      ]
    where
      as_le : {a n : ℕ} → a ≡ n → a ≤ n
      as_le e = omega arith
