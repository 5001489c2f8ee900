-- What hearing one update of the round makes of each route.
use Rattle.std.proofs.Common.{◌≡◌, ◌≢◌, ◌⊎◌, inl, inr, ℕ, zero, suc, ◌+◌, ◌-◌, ◌<◌, ◌≤◌, Bool, true, false, cond, not, ◌&&◌, ◌||◌, ◌==◌, nat_lt, nat_le, List, [], ◌∷◌, length, find, Contains, All, Option, Some, None, is_some, is_none, option_map, slice_get, slice_index_or, refl, ap, ap₂, sym, subst, ◌∙◌, arith, le_refl}
use Rattle.std.specs.List.{AllByRecursion}
use Rattle.std.specs.FinMap as map_of
use Rattle.std.specs.Ordering.{eq_by_cmp}
use Rattle.std.proofs.lemmas.Bool.{eq-eqb}
use Rattle.std.proofs.lemmas.Option.{slice_get_within}
use Rattle.std.proofs.lemmas.Bool.Decides.{nat_tests}
use Rattle.std.proofs.lemmas.List.Elements.{recursion_from_All}
use Rattle.std.proofs.lemmas.Map.Views.{tells_apart}
use Rattle.prefix6.specs.Prefix.{Prefix6, IsPrefix, prefix_cmp, same_prefix, is_routable}
use Rattle.prefix6.proofs.PrefixLaws.{prefixes_total, exact_prefixes, same_prefix-true}
use Rattle.ripng_wire.specs.declared.rte.Rte.{Rte}
use Rattle.ripng_wire.specs.Layout.{is_next_hop}
use Rattle.route_table.specs.Route.{RouteValue, infinity}
use Rattle.route_table.specs.Table.{Table, table_limit}
use Rattle.route_table.proofs.TableLaws.{Some-same, None-Some}
use Rattle.router_core.specs.Offers.{Offer, offer_at, is_offer, flaw, prefix_named}
use Rattle.router_core.specs.Adoption.{adopted, metric_through}
use Rattle.router_core.specs.Hearing.{Hearing, Heard, route_after, is_refused, is_refusal, note_at, would_add, held_after, notes_of_offer, notes_by_refusal, notes_of_new, refusal_at}
use Rattle.router_core.specs.Output.{is_learned_on}
use Rattle.router_core.specs.declared.answer.Note.{Note}
use Rattle.router_core.specs.declared.answer.NoteKind.{NoteKind}
use Rattle.router_core.specs.declared.answer.NoteKind.TheVariants.{TableFull, NoMemory, BadLength, BadPrefix, BadMetric}
use Rattle.router_core.proofs.HearingSteps.{heard_one, before_all, after_one, at_place, table_after}
use Rattle.ripng_world.specs.Network.{Network, Node, config_of, HasDistinctAddresses}
use Rattle.ripng_world.specs.Convergence.{AreLetThrough}
use Rattle.ripng_world.specs.Truth.{IsNeighbor}
use Rattle.ripng_world.specs.World.{World}
use Rattle.ripng_world.proofs.Improving.{RouteAt}
use Rattle.ripng_world.proofs.Room.{IsIn, in_from_contains, few_routes, not_kept_out}
use Rattle.ripng_world.proofs.HealRows.{IsTold, IsRow, IsRowOf, IsAtMost, HasHeard, IsPart, IsOffered, part_refl, part_trans, offered}

-- the prefixes that are spoken of: few, and each a prefix that may be told and that no filter or limit keeps out
pub record AreFew (net : Network) (known : Prefix6 → Type 0) : Type 0 where
  pub owned : List Prefix6
  pub few : length owned ≤ table_limit
  pub all : (p : Prefix6) → known p → Contains owned p
  pub prefixes : (p : Prefix6) → known p → IsPrefix p
  pub routable : (p : Prefix6) → known p → is_routable p ≡ true
  pub taken : AreLetThrough net known (length owned)

-- an entry tells a route that the sender has after the ticks
pub record IsToldLine (net : Network) (mid : World) (known : Prefix6 → Type 0) (sender sender_iface : ℕ) (e : Rte) : Type 0 where
  pub is_known : known (prefix_named e)
  pub route : RouteValue
  pub at : RouteAt mid sender (prefix_named e) route
  pub positive : 1 ≤ route.metric
  pub in_range : route.metric ≤ infinity
  pub metric : e.metric ≡ cond (is_learned_on sender_iface route.origin) infinity route.metric

module _ (net : Network) (distinct : HasDistinctAddresses net) (mid : World) (known : Prefix6 → Type 0) (fits : AreFew net known) (router since : ℕ)
    (h : Hearing) (sender sender_iface : ℕ) (near : IsNeighbor net router h.gateway sender sender_iface) (later : since ≤ h.gateway.moment)
    (told : (place : ℕ) (e : Rte) → slice_get h.entries place ≡ Some e → IsToldLine net mid known sender sender_iface e)
    (start : Table) (rows : (p : Prefix6) → IsRow net distinct mid known router since p (map_of.get start p) (map_of.get h.before p))
    (node : Node) (node_is : slice_get net router ≡ Some node) (config_is : h.config ≡ config_of node) where
  abbrev Row : Prefix6 → Option RouteValue → Type 0
  Row p b = IsRow net distinct mid known router since p (map_of.get start p) b

  abbrev Part : Prefix6 → Option RouteValue → Option RouteValue → Type 0
  Part p b c = IsPart net distinct mid known router since p (map_of.get start p) b c

  told_offer : (place : ℕ) (e : Rte) → slice_get h.entries place ≡ Some e → IsTold net mid router (prefix_named e) h.gateway.iface h.gateway.from e.metric
  told_offer place e is =
      let t = told place e is in
      record {
        sender = sender;
        sender_iface = sender_iface;
        route = t.route;
        linked = near.linked;
        apart = near.apart;
        from_is = near.from;
        at = t.at;
        positive = t.positive;
        in_range = t.in_range;
        told = t.metric;
      }

  offered_at : (place : ℕ) (e : Rte) (is : slice_get h.entries place ≡ Some e) (p : Prefix6) (names : prefix_named e ≡ p) (b : Option RouteValue) → Row p b
      → IsOffered net distinct mid known router since p (subst known names (told place e is).is_known) h.gateway near.cost later (offer_at h.config h.gateway.from h.entries place e)
      (subst (λ (q : Prefix6). IsTold net mid router q h.gateway.iface h.gateway.from e.metric) names (told_offer place e is)) (map_of.get start p) b
      (adopted h.gateway b (offer_at h.config h.gateway.from h.entries place e))
  offered_at place e is p names b row =
      offered net distinct mid known router since p (subst known names (told place e is).is_known) h.gateway near.cost later (offer_at h.config h.gateway.from h.entries place e)
      (subst (λ (q : Prefix6). IsTold net mid router q h.gateway.iface h.gateway.from e.metric) names (told_offer place e is)) (map_of.get start p) b row

  refl_part : (p : Prefix6) (b : Option RouteValue) → Row p b → Part p b b
  refl_part p b row = part_refl net distinct mid known router since p (map_of.get start p) b row

  trans_part : (p : Prefix6) (b c d : Option RouteValue) → Part p b c → Part p c d → Part p b d
  trans_part p b c d x y = part_trans net distinct mid known router since p (map_of.get start p) b c d x y

  step_one : (place : ℕ) (e : Rte) → slice_get h.entries place ≡ Some e → (p : Prefix6) (b : Option RouteValue) → Row p b → Part p b (heard_one h place e p b)
  step_one place e is p b row = by_test ((is_offer e && same_prefix (prefix_named e) p) && not (is_refused h place)) refl
    where
      left : (a b : Bool) → (a && b) ≡ true → a ≡ true
      left true b e = refl
      left false b e = e

      right : (a b : Bool) → (a && b) ≡ true → b ≡ true
      right true b e = e
      right false b e = absurd (cc)

      by_test : (x : Bool) → ((is_offer e && same_prefix (prefix_named e) p) && not (is_refused h place)) ≡ x
          → Part p b (cond x (adopted h.gateway b (offer_at h.config h.gateway.from h.entries place e)) b)
      by_test true test =
          let names : prefix_named e ≡ p = same_prefix-true (prefix_named e) p (right (is_offer e) (same_prefix (prefix_named e) p) (left (is_offer e && same_prefix (prefix_named e) p) (not (is_refused h place)) test)) in
          (offered_at place e is p names b row).part
      by_test false test = refl_part p b row

  steps_from : (place m : ℕ) → place + m ≤ length h.entries → (p : Prefix6) → Row p (route_after h place p) → Part p (route_after h place p) (route_after h (place + m) p)
  steps_from place zero within p row = subst (λ n. Part p (route_after h place p) (route_after h n p)) (sym (add_zero place)) (refl_part p (route_after h place p) row)
    where
      add_zero : (n : ℕ) → n + 0 ≡ n
      add_zero n = omega arith
  steps_from place (suc m) within p row =
      let rest = steps_from place m (omega arith) p row in
      let entry : (e : Rte) × (slice_get h.entries (place + m) ≡ Some e) = at_place h.entries (place + m) (omega arith) in
      let more = subst (Part p (route_after h (place + m) p)) (sym (after_one h (place + m) entry.0 p entry.1)) (step_one (place + m) entry.0 entry.1 p (route_after h (place + m) p) rest.row) in
      subst (λ n. Part p (route_after h place p) (route_after h n p)) (shifted place m) (trans_part p (route_after h place p) (route_after h (place + m) p) (route_after h (place + m + 1) p) rest more)
    where
      shifted : (a b : ℕ) → a + b + 1 ≡ a + suc b
      shifted a b = omega arith

  steps_to : (place : ℕ) → place ≤ length h.entries → (p : Prefix6) → Part p (map_of.get h.before p) (route_after h place p)
  steps_to place within p =
      subst (λ a. Part p a (route_after h place p)) (before_all h p)
      (subst (λ n. Part p (route_after h 0 p) (route_after h n p)) (zero_first place)
      (steps_from 0 place (omega arith) p (subst (Row p) (sym (before_all h p)) (rows p))))
    where
      zero_first : (n : ℕ) → 0 + n ≡ n
      zero_first n = omega arith

  -- ---- no new route is refused

  known_at : (place : ℕ) → place ≤ length h.entries → (p : Prefix6) (r : RouteValue) → route_after h place p ≡ Some r → IsIn p fits.owned
  known_at place within p r is =
      let row : IsRowOf net distinct mid known router since p (map_of.get start p) r = subst (Row p) is (steps_to place within p).row in
      in_from_contains fits.owned p (fits.all p row.is_known)

  keys_known : (place : ℕ) → place ≤ length h.entries → (t : Table) → ((p : Prefix6) → map_of.get t p ≡ route_after h place p)
      → (p : Prefix6) (r : RouteValue) → map_of.get t p ≡ Some r → IsIn p fits.owned
  keys_known place within t same p r is = known_at place within p r (sym (same p) ∙ is)

  room : (place : ℕ) (e : Rte) → place ≤ length h.entries → slice_get h.entries place ≡ Some e → route_after h place (prefix_named e) ≡ None → held_after h place < table_limit
  room place e within is none =
      let t = table_after h place within in
      let u = told place e is in
      let grown : Table = map_of.insert t.0 (prefix_named e) u.route in
      let all_known : map_of.len grown ≤ length fits.owned = few_routes fits.owned grown (λ p r at. by_key p r (eq_by_cmp prefix_cmp p (prefix_named e)) refl (sym (map_of.get-insert prefixes_total t.0 (prefix_named e) u.route p) ∙ at)) in
      let more : map_of.len grown ≡ map_of.len t.0 + 1 =
      map_of.len-insert prefixes_total t.0 (prefix_named e) u.route ∙ ap (λ o. cond (is_some o) (map_of.len t.0) (map_of.len t.0 + 1)) (t.1 (prefix_named e) ∙ none) in
      total table_limit (map_of.len grown) (map_of.len t.0) (length fits.owned) (held_after h place) more t.2 all_known fits.few
    where
      total : (limit g l n s : ℕ) → g ≡ l + 1 → l ≡ s → g ≤ n → n ≤ limit → s < limit
      total limit g l n s e f h i = omega arith

      by_key : (p : Prefix6) (r : RouteValue) (b : Bool) → eq_by_cmp prefix_cmp p (prefix_named e) ≡ b
          → cond b (Some (told place e is).route) (map_of.get (table_after h place within).0 p) ≡ Some r → IsIn p fits.owned
      by_key p r true tie at =
          in_from_contains fits.owned p (fits.all p (subst known (sym (tells_apart exact_prefixes p (prefix_named e) tie)) (told place e is).is_known))
      by_key p r false tie at = keys_known place within (table_after h place within).0 (table_after h place within).1 p r at

  is_offered : (place : ℕ) (e : Rte) → slice_get h.entries place ≡ Some e → (is_next_hop e ≡ false) × (flaw e ≡ None)
  is_offered place e is =
      let u = told place e is in
      let m = range u.route.metric e.metric (is_learned_on sender_iface u.route.origin) u.positive u.in_range u.metric in
      (not_255 e.metric m.0 m.1, passes (length_ok e.len (fits.prefixes (prefix_named e) u.is_known).short) (ap not (fits.routable (prefix_named e) u.is_known)) (metric_ok e.metric m.0 m.1))
    where
      range : (r m : ℕ) (b : Bool) → 1 ≤ r → r ≤ 16 → m ≡ cond b 16 r → (1 ≤ m) × (m ≤ 16)
      range r m true a c e = (omega arith, omega arith)
      range r m false a c e = (omega arith, omega arith)

      not_255 : (m : ℕ) → 1 ≤ m → m ≤ 16 → (m == 255) ≡ false
      not_255 m a b = grind (arith, nat_tests)

      length_ok : (l : ℕ) → l ≤ 128 → nat_lt 128 l ≡ false
      length_ok l a = grind (arith, nat_tests)

      metric_ok : (m : ℕ) → 1 ≤ m → m ≤ 16 → (m == 0 || nat_lt 16 m) ≡ false
      metric_ok m a b = grind (arith, nat_tests)

      passes : nat_lt 128 e.len ≡ false → not (is_routable (prefix_named e)) ≡ false → (e.metric == 0 || nat_lt 16 e.metric) ≡ false → flaw e ≡ None
      passes a b c = ap₂ (λ x y. cond x (Some BadLength) (cond y (Some BadPrefix) (cond (e.metric == 0 || nat_lt 16 e.metric) (Some BadMetric) None))) a b ∙ ap (λ z. cond z (Some BadMetric) None) c

  taken_in : (place : ℕ) (e : Rte) → place ≤ length h.entries → slice_get h.entries place ≡ Some e → refusal_at h place e ≡ None
  taken_in place e within is =
      let k = (told place e is).is_known in
      not_kept_out h net router node node_is config_is known fits.owned fits.taken place within (known_at place within) e k (in_from_contains fits.owned (prefix_named e) (fits.all (prefix_named e) k))

  module _ (after : Table) (heard : Heard h after) (memory : All (λ n. n.kind ≢ NoMemory) h.notes) where
    found_kind : (notes : List Note) → AllByRecursion (λ n. n.kind ≢ NoMemory) notes → (test : Note → Bool) → option_map (λ n. n.kind) (find test notes) ≡ Some NoMemory → ⊥
    found_kind [] all test is = absurd (None-Some NoMemory is)
    found_kind (n ∷ notes) all test is = by_test (test n) is (found_kind notes all.1 test)
      where
        by_test : (b : Bool) → option_map (λ n. n.kind) (cond b (Some n) (find test notes)) ≡ Some NoMemory → (option_map (λ n. n.kind) (find test notes) ≡ Some NoMemory → ⊥) → ⊥
        by_test true is rest = all.0 (Some-same n.kind NoMemory is)
        by_test false is rest = rest is

    one_of_one : {X : Type 0} (a x : X) → Contains (a ∷ []) x → a ≡ x
    one_of_one a x c = by_place c.0 c.1 c.2
      where
        by_place : (k : ℕ) → k < 1 → slice_index_or (a ∷ []) k x ≡ x → a ≡ x
        by_place zero h e = e
        by_place (suc k) h e = absurd (omega arith)

    one_of_two : {X : Type 0} (a b x : X) → Contains (a ∷ b ∷ []) x → (a ≡ x) ⊎ (b ≡ x)
    one_of_two a b x c = by_place c.0 c.1 c.2
      where
        by_place : (k : ℕ) → k < 2 → slice_index_or (a ∷ b ∷ []) k x ≡ x → (a ≡ x) ⊎ (b ≡ x)
        by_place zero h e = inl e
        by_place (suc zero) h e = inr e
        by_place (suc (suc k)) h e = absurd (omega arith)

    not_refused : (place : ℕ) (e : Rte) → place ≤ length h.entries → slice_get h.entries place ≡ Some e → is_refused h place ≡ false
    not_refused place e within is =
        let o = is_offered place e is in
        let allowed : Contains (cond (would_add h place e) (notes_of_new h place) (None ∷ [])) (note_at h place) =
        subst (λ (a : List (Option NoteKind)). Contains a (note_at h place))
        (ap₂ (λ b f. cond b (None ∷ []) (notes_of_offer h place e f)) o.0 o.1 ∙ ap (notes_by_refusal h place e) (taken_in place e within is)) (heard.noted place e is) in
        by_adding (would_add h place e) refl allowed
      where
        by_adding : (b : Bool) → would_add h place e ≡ b → Contains (cond b (notes_of_new h place) (None ∷ [])) (note_at h place) → is_refusal (note_at h place) ≡ false
        by_adding false adds c = ap is_refusal (sym (one_of_one None (note_at h place) c))
        by_adding true adds c =
            let spare : nat_le table_limit (held_after h place) ≡ false = below table_limit (held_after h place) (room place e within is (absent (route_after h place (prefix_named e)) adds)) in
            by_note (one_of_two None (Some NoMemory) (note_at h place) (subst (λ b. Contains (cond b (Some TableFull ∷ []) (None ∷ Some NoMemory ∷ [])) (note_at h place)) spare c))
          where
            below : (limit n : ℕ) → n < limit → nat_le limit n ≡ false
            below limit n a = grind (arith, nat_tests)

            absent : (o : Option RouteValue) → (is_offer e && is_none o && is_some (adopted h.gateway None (offer_at h.config h.gateway.from h.entries place e))) ≡ true → o ≡ None
            absent None a = refl
            absent (Some r) a = absurd (clash (is_offer e) _ a)
              where
                clash : (a b : Bool) → (a && false && b) ≡ true → ⊥
                clash true b e = cc
                clash false b e = cc

            by_note : (None ≡ note_at h place) ⊎ (Some NoMemory ≡ note_at h place) → is_refusal (note_at h place) ≡ false
            by_note (inl n) = ap is_refusal (sym n)
            by_note (inr n) = absurd (found_kind h.notes (recursion_from_All (λ n. n.kind ≢ NoMemory) h.notes memory) (λ n. n.entry == place) (sym n))

    pub hearing_part : (p : Prefix6) → Part p (map_of.get h.before p) (map_of.get after p)
    hearing_part p = subst (Part p (map_of.get h.before p)) (sym (heard.routes p)) (steps_to (length h.entries) (le_refl _) p)

    -- each entry counts
    module _ (place : ℕ) (e : Rte) (is : slice_get h.entries place ≡ Some e) where
      abbrev named : Prefix6
      named = prefix_named e

      abbrev offer : Offer
      offer = offer_at h.config h.gateway.from h.entries place e

      inside : place < length h.entries
      inside = slice_get_within h.entries place e is

      before : Part named (map_of.get h.before named) (route_after h place named)
      before = steps_to place (omega (arith, inside)) named

      same_itself : (q : Prefix6) → same_prefix q q ≡ true
      same_itself q = ap₂ (λ a b. a && b) (eq-eqb q.addr q.addr refl) (eq-eqb q.len q.len refl)

      meant : ((is_offer e && same_prefix (prefix_named e) (prefix_named e)) && not (is_refused h place)) ≡ true
      meant =
          let f = is_offered place e is in
          ap₂ (λ a b. a && not b)
          (ap₂ (λ a b. a && b) (ap₂ (λ a b. not a && is_none b) f.0 f.1) (same_itself (prefix_named e)))
          (not_refused place e (omega (arith, inside)) is)

      next_is : route_after h (place + 1) named ≡ adopted h.gateway (route_after h place named) offer
      next_is = after_one h place e named is ∙ ap (λ b. cond b (adopted h.gateway (route_after h place named) offer) (route_after h place named)) meant

      rest_part : Part named (route_after h (place + 1) named) (map_of.get after named)
      rest_part =
          subst (Part named (route_after h (place + 1) named)) (ap (λ n. route_after h n named) (whole inside) ∙ sym (heard.routes named))
          (steps_from (place + 1) (length h.entries - (place + 1)) (omega (arith, inside)) named (steps_to (place + 1) (omega (arith, inside)) named).row)
        where
          whole : place < length h.entries → place + 1 + (length h.entries - (place + 1)) ≡ length h.entries
          whole l = omega arith

      pub hearing_here : HasHeard net distinct mid known router since named h.gateway.iface h.gateway.from (map_of.get after named)
      hearing_here =
          rest_part.heard h.gateway.iface h.gateway.from
          (subst (HasHeard net distinct mid known router since named h.gateway.iface h.gateway.from) (sym next_is)
          (offered_at place e is named refl (route_after h place named) before.row).here)

      pub hearing_bound : metric_through h.gateway offer < infinity
          → IsAtMost net distinct mid known router since named (map_of.get start named) (map_of.get after named) (metric_through h.gateway offer)
      hearing_bound low =
          rest_part.at_most (metric_through h.gateway offer) low
          (subst (λ b. IsAtMost net distinct mid known router since named (map_of.get start named) b (metric_through h.gateway offer)) (sym next_is)
          ((offered_at place e is named refl (route_after h place named) before.row).bound low))
