-- What hearing a neighbor's update does to each route in a synchronous round.
use Rattle.std.proofs.Common.{◌≡◌, ◌≢◌, ◌⊎◌, inl, inr, ℕ, zero, suc, ◌+◌, ◌-◌, max, ◌<◌, ◌≤◌, Bool, true, false, cond, not, ◌&&◌, ◌||◌, ◌==◌, nat_lt, nat_le, List, [], ◌∷◌, length, find, Contains, All, Option, Some, None, is_some, is_none, option_map, slice_get, slice_index_or, refl, ap, ap₂, sym, subst, ◌∙◌, arith, le_refl, le_trans}
use Rattle.std.specs.List.{AllByRecursion}
use Rattle.std.specs.FinMap as map_of
use Rattle.std.specs.Ordering.{eq_by_cmp}
use Rattle.std.proofs.lemmas.Bool.{eq-eqb}
use Rattle.std.proofs.lemmas.Option.{slice_get_within}
use Rattle.std.proofs.lemmas.Bool.Decides.{nat_tests}
use Rattle.std.proofs.lemmas.List.Elements.{recursion_from_All}
use Rattle.std.proofs.lemmas.Map.Views.{tells_apart}
use Rattle.prefix6.specs.Prefix.{Prefix6, prefix_cmp, cleared, same_prefix, is_routable}
use Rattle.prefix6.proofs.PrefixLaws.{prefixes_total, exact_prefixes, same_prefix-true}
use Rattle.ripng_wire.specs.declared.rte.Rte.{Rte}
use Rattle.ripng_wire.specs.Layout.{is_next_hop}
use Rattle.route_table.specs.Route.{RouteValue, infinity}
use Rattle.route_table.specs.Table.{Table, table_limit}
use Rattle.route_table.proofs.TableLaws.{Some-same, None-Some}
use Rattle.router_core.specs.Offers.{Offer, offer_at, is_offer, flaw, prefix_named}
use Rattle.router_core.specs.Adoption.{adopted, metric_through}
use Rattle.router_core.specs.Timers.{timeout}
use Rattle.router_core.specs.Hearing.{Hearing, Heard, route_after, is_refused, is_refusal, note_at, would_add, held_after, notes_of_offer, notes_by_refusal, notes_of_new, refusal_at}
use Rattle.router_core.specs.Output.{is_learned_on}
use Rattle.router_core.specs.declared.answer.Note.{Note}
use Rattle.router_core.specs.declared.answer.NoteKind.{NoteKind}
use Rattle.router_core.specs.declared.answer.NoteKind.TheVariants.{TableFull, NoMemory, BadLength, BadPrefix, BadMetric}
use Rattle.router_core.proofs.HearingSteps.{heard_one, before_all, after_one, at_place, table_after}
use Rattle.ripng_world.specs.Network.{Network, Node, Owns, config_of, HasDistinctAddresses}
use Rattle.ripng_world.specs.Walks.{Hop, Reaches, end_of}
use Rattle.ripng_world.specs.Convergence.{FitsTables}
use Rattle.ripng_world.specs.Truth.{IsNeighbor}
use Rattle.ripng_world.specs.World.{World}
use Rattle.ripng_world.proofs.Room.{IsIn, in_from_contains, few_routes, not_kept_out}
use Rattle.ripng_world.proofs.Improving.{RouteAt, IsFine, IsToldOffer, IsHeardStep, IsBetter, FineOption, IsFreshThrough, IsBounded, offered, waits, better_refl, better_trans, bounded}

-- ---- an update of the beginning of the round

-- an entry tells a route that the sender had at the beginning of the round
pub record IsToldEntry (net : Network) (base : World) (k sender sender_iface : ℕ) (e : Rte) : Type 0 where
  pub prefix : Prefix6
  pub route : RouteValue
  pub at : RouteAt base sender prefix route
  pub named : prefix_named e ≡ prefix
  pub is_prefix : cleared prefix.addr prefix.len ≡ prefix
  pub walk : List Hop
  pub hops : length walk ≤ k
  pub reaches : Reaches net sender prefix route.metric route.tag walk
  pub positive : 1 ≤ route.metric
  pub low : route.metric < infinity
  pub metric : e.metric ≡ cond (is_learned_on sender_iface route.origin) infinity route.metric
  pub tag : e.tag ≡ route.tag
  pub short : e.len ≤ 128
  pub routable : is_routable prefix ≡ true

module _ (net : Network) (distinct : HasDistinctAddresses net) (fits : FitsTables net) (base : World) (k : ℕ) (moments : ℕ → Type 0) (router last : ℕ)
    (h : Hearing) (sender sender_iface : ℕ) (near : IsNeighbor net router h.gateway sender sender_iface)
    (current : ℕ → Type 0) (among : (x : ℕ) → current x → moments x) (now_is : ℕ) (now_of : current now_is) (now_max : h.gateway.moment ≡ max last now_is)
    (close : (x : ℕ) → moments x → now_is < x + timeout)
    (told : (place : ℕ) (e : Rte) → slice_get h.entries place ≡ Some e → IsToldEntry net base k sender sender_iface e)
    (fine : (p : Prefix6) (r : RouteValue) → map_of.get h.before p ≡ Some r → IsFine net base (suc k) moments router last p r)
    (node : Node) (node_is : slice_get net router ≡ Some node) (config_is : h.config ≡ config_of node) where
  abbrev Fine : Prefix6 → Option RouteValue → Type 0
  Fine p o = FineOption net distinct base k moments router last h.gateway sender sender_iface near current among now_is now_of now_max close p o

  abbrev HeardStep : Prefix6 → Option RouteValue → Option RouteValue → Type 0
  HeardStep p a b = IsHeardStep net distinct base k moments router last h.gateway sender sender_iface near current among now_is now_of now_max close p a b

  abbrev Bounded : Prefix6 → ℕ → Option RouteValue → Type 0
  Bounded p bound o = IsBounded net distinct base k moments router last h.gateway sender sender_iface near current among now_is now_of now_max close p bound o

  fine_before : (p : Prefix6) → Fine p (map_of.get h.before p)
  fine_before p = by_value (map_of.get h.before p) refl
    where
      by_value : (o : Option RouteValue) → map_of.get h.before p ≡ o → Fine p o
      by_value None is = tt
      by_value (Some r) is = waits net distinct base k moments router last h.gateway sender sender_iface near current among now_is now_of now_max close p r (fine p r is)

  -- a told entry that names p is an offer of the told route
  told_offer : (place : ℕ) (e : Rte) → IsToldEntry net base k sender sender_iface e → (p : Prefix6) → prefix_named e ≡ p
      → IsToldOffer net base k sender sender_iface h.gateway p (offer_at h.config h.gateway.from h.entries place e)
  told_offer place e t p names =
      let same : t.prefix ≡ p = sym t.named ∙ names in
      record {
        route = t.route;
        at = subst (λ (q : Prefix6). RouteAt base sender q t.route) same t.at;
        is_prefix = subst (λ (q : Prefix6). cleared q.addr q.len ≡ q) same t.is_prefix;
        walk = t.walk;
        hops = t.hops;
        reaches = subst (λ (q : Prefix6). Reaches net sender q t.route.metric t.route.tag t.walk) same t.reaches;
        positive = t.positive;
        metric = t.metric;
        tag = t.tag;
      }

  step_refl : (p : Prefix6) (a : Option RouteValue) → Fine p a → HeardStep p a a
  step_refl p a f =
      record { fine = f; better = better_refl net distinct base k moments router last h.gateway sender sender_iface near current among now_is now_of now_max close p a; fresh = λ g was. was }

  step_trans : (p : Prefix6) (a b c : Option RouteValue) → HeardStep p a b → HeardStep p b c → HeardStep p a c
  step_trans p a b c x y =
      record {
        fine = y.fine;
        better = better_trans net distinct base k moments router last h.gateway sender sender_iface near current among now_is now_of now_max close p a b c x.better y.better;
        fresh = λ g was. y.fresh g (x.fresh g was);
      }

  step_one : (place : ℕ) (e : Rte) → slice_get h.entries place ≡ Some e → (p : Prefix6) (a : Option RouteValue) → Fine p a → HeardStep p a (heard_one h place e p a)
  step_one place e is p a f = by_test ((is_offer e && same_prefix (prefix_named e) p) && not (is_refused h place)) refl
    where
      left : (a b : Bool) → (a && b) ≡ true → a ≡ true
      left true b e = refl
      left false b e = e

      right : (a b : Bool) → (a && b) ≡ true → b ≡ true
      right true b e = e
      right false b e = absurd (cc)

      by_test : (b : Bool) → ((is_offer e && same_prefix (prefix_named e) p) && not (is_refused h place)) ≡ b
          → HeardStep p a (cond b (adopted h.gateway a (offer_at h.config h.gateway.from h.entries place e)) a)
      by_test true test =
          let names : prefix_named e ≡ p = same_prefix-true (prefix_named e) p (right (is_offer e) (same_prefix (prefix_named e) p) (left (is_offer e && same_prefix (prefix_named e) p) (not (is_refused h place)) test)) in
          let s = offered net distinct base k moments router last h.gateway sender sender_iface near current among now_is now_of now_max close p
          (offer_at h.config h.gateway.from h.entries place e) (told_offer place e (told place e is) p names) a f in
          record { fine = s.fine; better = s.better; fresh = s.fresh }
      by_test false test = step_refl p a f

  steps_from : (place m : ℕ) → place + m ≤ length h.entries → (p : Prefix6) → Fine p (route_after h place p) → HeardStep p (route_after h place p) (route_after h (place + m) p)
  steps_from place zero fits p f = subst (λ n. HeardStep p (route_after h place p) (route_after h n p)) (sym (add_zero place)) (step_refl p (route_after h place p) f)
    where
      add_zero : (n : ℕ) → n + 0 ≡ n
      add_zero n = omega arith
  steps_from place (suc m) fits p f =
      let rest = steps_from place m (omega arith) p f in
      let entry : (e : Rte) × (slice_get h.entries (place + m) ≡ Some e) = at_place h.entries (place + m) (omega arith) in
      let more = subst (HeardStep p (route_after h (place + m) p)) (sym (after_one h (place + m) entry.0 p entry.1)) (step_one (place + m) entry.0 entry.1 p (route_after h (place + m) p) rest.fine) in
      subst (λ n. HeardStep p (route_after h place p) (route_after h n p)) (shifted place m) (step_trans p (route_after h place p) (route_after h (place + m) p) (route_after h (place + m + 1) p) rest more)
    where
      shifted : (a b : ℕ) → a + b + 1 ≡ a + suc b
      shifted a b = omega arith

  steps_to : (place : ℕ) → place ≤ length h.entries → (p : Prefix6) → HeardStep p (map_of.get h.before p) (route_after h place p)
  steps_to place within p =
      subst (λ a. HeardStep p a (route_after h place p)) (before_all h p)
      (subst (λ n. HeardStep p (route_after h 0 p) (route_after h n p)) (zero_first place)
      (steps_from 0 place (omega arith) p (subst (Fine p) (sym (before_all h p)) (fine_before p))))
    where
      zero_first : (n : ℕ) → 0 + n ≡ n
      zero_first n = omega arith

  -- ---- no new route is refused

  owned_at : (place : ℕ) → place ≤ length h.entries → (p : Prefix6) (r : RouteValue) → route_after h place p ≡ Some r → IsIn p fits.0
  owned_at place within p r is =
      let f : Fine p (Some r) = subst (Fine p) is (steps_to place within p).fine in
      in_from_contains fits.0 p (fits.2 (end_of router f.walk) p r.tag f.reaches.owner)

  keys_owned : (place : ℕ) → place ≤ length h.entries → (t : Table) → ((p : Prefix6) → map_of.get t p ≡ route_after h place p)
      → (p : Prefix6) (r : RouteValue) → map_of.get t p ≡ Some r → IsIn p fits.0
  keys_owned place within t same p r is = owned_at place within p r (sym (same p) ∙ is)

  room : (place : ℕ) (e : Rte) → place ≤ length h.entries → slice_get h.entries place ≡ Some e → route_after h place (prefix_named e) ≡ None → held_after h place < table_limit
  room place e within is none =
      let t = table_after h place within in
      let u = told place e is in
      let grown : Table = map_of.insert t.0 (prefix_named e) u.route in
      let all_owned : map_of.len grown ≤ length fits.0 = few_routes fits.0 grown (λ p r at. by_key p r (eq_by_cmp prefix_cmp p (prefix_named e)) refl (sym (map_of.get-insert prefixes_total t.0 (prefix_named e) u.route p) ∙ at)) in
      let more : map_of.len grown ≡ map_of.len t.0 + 1 =
      map_of.len-insert prefixes_total t.0 (prefix_named e) u.route ∙ ap (λ o. cond (is_some o) (map_of.len t.0) (map_of.len t.0 + 1)) (t.1 (prefix_named e) ∙ none) in
      total table_limit (map_of.len grown) (map_of.len t.0) (length fits.0) (held_after h place) more t.2 all_owned fits.1
    where
      total : (limit g l n s : ℕ) → g ≡ l + 1 → l ≡ s → g ≤ n → n ≤ limit → s < limit
      total limit g l n s e f h i = omega arith

      by_key : (p : Prefix6) (r : RouteValue) (b : Bool) → eq_by_cmp prefix_cmp p (prefix_named e) ≡ b
          → cond b (Some (told place e is).route) (map_of.get (table_after h place within).0 p) ≡ Some r → IsIn p fits.0
      by_key p r true tie at =
          let u = told place e is in
          subst (λ (q : Prefix6). IsIn q fits.0) (sym u.named ∙ sym (tells_apart exact_prefixes p (prefix_named e) tie))
          (in_from_contains fits.0 u.prefix (fits.2 (end_of sender u.walk) u.prefix u.route.tag u.reaches.owner))
      by_key p r false tie at = keys_owned place within (table_after h place within).0 (table_after h place within).1 p r at

  is_offered : (place : ℕ) (e : Rte) → slice_get h.entries place ≡ Some e → (is_next_hop e ≡ false) × (flaw e ≡ None)
  is_offered place e is =
      let u = told place e is in
      let m = range u.route.metric e.metric (is_learned_on sender_iface u.route.origin) u.positive u.low u.metric in
      (not_255 e.metric m.0 m.1, passes (length_ok e.len u.short) (ap not (ap is_routable u.named ∙ u.routable)) (metric_ok e.metric m.0 m.1))
    where
      range : (r m : ℕ) (b : Bool) → 1 ≤ r → r < 16 → m ≡ cond b 16 r → (1 ≤ m) × (m ≤ 16)
      range r m true a c e = (omega arith, omega arith)
      range r m false a c e = (omega arith, omega arith)

      not_255 : (m : ℕ) → 1 ≤ m → m ≤ 16 → (m == 255) ≡ false
      not_255 m a b = grind (arith, nat_tests)

      length_ok : (l : ℕ) → l ≤ 128 → nat_lt 128 l ≡ false
      length_ok l a = grind (arith, nat_tests)

      metric_ok : (m : ℕ) → 1 ≤ m → m ≤ 16 → (m == 0 || nat_lt 16 m) ≡ false
      metric_ok m a b = grind (arith, nat_tests)

      passes : nat_lt 128 e.len ≡ false → not (is_routable (prefix_named e)) ≡ false → (e.metric == 0 || nat_lt 16 e.metric) ≡ false → flaw e ≡ None
      passes a b c = ap₂ (λ x y. cond x (Some BadLength) (cond y (Some BadPrefix) (cond (e.metric == 0 || nat_lt 16 e.metric) (Some BadMetric) None))) a b ∙ ap (λ z. cond z (Some BadMetric) None) c

  -- what is told is owned, so filters and limits take it
  is_owned : (place : ℕ) (e : Rte) → slice_get h.entries place ≡ Some e → (owner : ℕ) × (tag : ℕ) × Owns net owner (prefix_named e) tag
  is_owned place e is =
      let u = told place e is in
      (end_of sender u.walk, u.route.tag, subst (λ (q : Prefix6). Owns net (end_of sender u.walk) q u.route.tag) (sym u.named) u.reaches.owner)

  taken_in : (place : ℕ) (e : Rte) → place ≤ length h.entries → slice_get h.entries place ≡ Some e → refusal_at h place e ≡ None
  taken_in place e within is =
      let o = is_owned place e is in
      not_kept_out h net router node node_is config_is (λ p. (owner : ℕ) × (tag : ℕ) × Owns net owner p tag) fits.0 fits.3 place within (owned_at place within) e o
      (in_from_contains fits.0 (prefix_named e) (fits.2 o.0 (prefix_named e) o.1 o.2))

  module _ (after : Table) (heard : Heard h after) (memory : All (λ n. n.kind ≢ NoMemory) h.notes) where
    found_kind : (notes : List Note) → AllByRecursion (λ n. n.kind ≢ NoMemory) notes → (test : Note → Bool) → option_map (λ n. n.kind) (find test notes) ≡ Some NoMemory → ⊥
    found_kind [] all test is = absurd (None-Some NoMemory is)
    found_kind (n ∷ notes) all test is = by_test (test n) is (found_kind notes all.1 test)
      where
        by_test : (b : Bool) → option_map (λ n. n.kind) (cond b (Some n) (find test notes)) ≡ Some NoMemory → (option_map (λ n. n.kind) (find test notes) ≡ Some NoMemory → ⊥) → ⊥
        by_test true is rest = all.0 (Some-same n.kind NoMemory is)
        by_test false is rest = rest is

    one_of_one : {X : Type 0} (a x : X) → Contains (a ∷ []) x → a ≡ x
    one_of_one a x c = by_place c.0 c.1 c.2
      where
        by_place : (k : ℕ) → k < 1 → slice_index_or (a ∷ []) k x ≡ x → a ≡ x
        by_place zero h e = e
        by_place (suc k) h e = absurd (omega arith)

    one_of_two : {X : Type 0} (a b x : X) → Contains (a ∷ b ∷ []) x → (a ≡ x) ⊎ (b ≡ x)
    one_of_two a b x c = by_place c.0 c.1 c.2
      where
        by_place : (k : ℕ) → k < 2 → slice_index_or (a ∷ b ∷ []) k x ≡ x → (a ≡ x) ⊎ (b ≡ x)
        by_place zero h e = inl e
        by_place (suc zero) h e = inr e
        by_place (suc (suc k)) h e = absurd (omega arith)

    not_refused : (place : ℕ) (e : Rte) → place ≤ length h.entries → slice_get h.entries place ≡ Some e → is_refused h place ≡ false
    not_refused place e within is =
        let o = is_offered place e is in
        let allowed : Contains (cond (would_add h place e) (notes_of_new h place) (None ∷ [])) (note_at h place) =
        subst (λ (a : List (Option NoteKind)). Contains a (note_at h place))
        (ap₂ (λ b f. cond b (None ∷ []) (notes_of_offer h place e f)) o.0 o.1 ∙ ap (notes_by_refusal h place e) (taken_in place e within is)) (heard.noted place e is) in
        by_adding (would_add h place e) refl allowed
      where
        by_adding : (b : Bool) → would_add h place e ≡ b → Contains (cond b (notes_of_new h place) (None ∷ [])) (note_at h place) → is_refusal (note_at h place) ≡ false
        by_adding false adds c = ap is_refusal (sym (one_of_one None (note_at h place) c))
        by_adding true adds c =
            let spare : nat_le table_limit (held_after h place) ≡ false = below table_limit (held_after h place) (room place e within is (absent (route_after h place (prefix_named e)) adds)) in
            by_note (one_of_two None (Some NoMemory) (note_at h place) (subst (λ b. Contains (cond b (Some TableFull ∷ []) (None ∷ Some NoMemory ∷ [])) (note_at h place)) spare c))
          where
            below : (limit n : ℕ) → n < limit → nat_le limit n ≡ false
            below limit n a = grind (arith, nat_tests)

            absent : (o : Option RouteValue) → (is_offer e && is_none o && is_some (adopted h.gateway None (offer_at h.config h.gateway.from h.entries place e))) ≡ true → o ≡ None
            absent None a = refl
            absent (Some r) a = absurd (clash (is_offer e) _ a)
              where
                clash : (a b : Bool) → (a && false && b) ≡ true → ⊥
                clash true b e = cc
                clash false b e = cc

            by_note : (None ≡ note_at h place) ⊎ (Some NoMemory ≡ note_at h place) → is_refusal (note_at h place) ≡ false
            by_note (inl n) = ap is_refusal (sym n)
            by_note (inr n) = absurd (found_kind h.notes (recursion_from_All (λ n. n.kind ≢ NoMemory) h.notes memory) (λ n. n.entry == place) (sym n))

    pub hearing_steps : (p : Prefix6) → HeardStep p (map_of.get h.before p) (map_of.get after p)
    hearing_steps p = subst (HeardStep p (map_of.get h.before p)) (sym (heard.routes p)) (steps_to (length h.entries) (le_refl _) p)

    -- each entry bounds the metric of its prefix
    pub hearing_bounds : (place : ℕ) (e : Rte) (is : slice_get h.entries place ≡ Some e)
        → metric_through h.gateway (offer_at h.config h.gateway.from h.entries place e) < infinity
        → Bounded (prefix_named e) (metric_through h.gateway (offer_at h.config h.gateway.from h.entries place e)) (map_of.get after (prefix_named e))
    hearing_bounds place e is low =
        let p : Prefix6 = prefix_named e in
        let o : Offer = offer_at h.config h.gateway.from h.entries place e in
        let inside : place < length h.entries = slice_get_within h.entries place e is in
        let before = steps_to place (omega arith) p in
        let here : Bounded p (metric_through h.gateway o) (adopted h.gateway (route_after h place p) o) =
        bounded net distinct base k moments router last h.gateway sender sender_iface near current among now_is now_of now_max close p o [] (told_offer place e (told place e is) p refl) tt low (route_after h place p) before.fine in
        let at : Bounded p (metric_through h.gateway o) (route_after h (place + 1) p) =
        subst (Bounded p (metric_through h.gateway o)) (sym (after_one h place e p is ∙ ap (λ b. cond b (adopted h.gateway (route_after h place p) o) (route_after h place p)) (meant (omega arith)))) here in
        let later = steps_from (place + 1) (length h.entries - (place + 1)) (omega arith) p (steps_to (place + 1) (omega arith) p).fine in
        subst (Bounded p (metric_through h.gateway o)) (ap (λ n. route_after h n p) (rest inside) ∙ sym (heard.routes p)) (keeps p (metric_through h.gateway o) _ _ at later)
      where
        rest : place < length h.entries → place + 1 + (length h.entries - (place + 1)) ≡ length h.entries
        rest l = omega arith

        same_itself : (q : Prefix6) → same_prefix q q ≡ true
        same_itself q = ap₂ (λ a b. a && b) (eq-eqb q.addr q.addr refl) (eq-eqb q.len q.len refl)

        meant : place ≤ length h.entries → ((is_offer e && same_prefix (prefix_named e) (prefix_named e)) && not (is_refused h place)) ≡ true
        meant within =
            let f = is_offered place e is in
            ap₂ (λ a b. a && not b)
            (ap₂ (λ a b. a && b) (ap₂ (λ a b. not a && is_none b) f.0 f.1) (same_itself (prefix_named e)))
            (not_refused place e within is)

        keeps : (p : Prefix6) (bound : ℕ) (a c : Option RouteValue) → Bounded p bound a → HeardStep p a c → Bounded p bound c
        keeps p bound a c b s =
            by_end c b.0 b.2 (subst (λ (x : Option RouteValue). IsBetter net distinct base k moments router last h.gateway sender sender_iface near current among now_is now_of now_max close p x c) b.1 s.better) (s.fresh h.gateway b.3)
          where
            by_end : (c : Option RouteValue) (r : RouteValue) → r.metric ≤ bound
                → IsBetter net distinct base k moments router last h.gateway sender sender_iface near current among now_is now_of now_max close p (Some r) c
                → IsFreshThrough net distinct base k moments router last h.gateway sender sender_iface near current among now_is now_of now_max close p h.gateway c → Bounded p bound c
            by_end None r below better fresh = absurd better
            by_end (Some t) r below better fresh = (t, refl, le_trans better below, fresh)
