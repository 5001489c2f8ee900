-- Every world that was ever reached: its routers are configured as the network now, and hold what they may.
use Rattle.std.proofs.Common.{◌≡◌, inl, inr, ℕ, zero, suc, ◌+◌, ◌%◌, max, ◌<◌, ◌≤◌, Bool, true, false, cond, not, ◌&&◌, ◌==◌, nat_lt, nat_le, List, [], ◌∷◌, ◌++◌, Option, Some, None, slice_get, refl, ap, ap₂, sym, subst, ◌∙◌, arith, le_refl, append-nil}
use Rattle.std.specs.FinMap as map_of
use Rattle.std.specs.Ordering.{eq_by_cmp, is_eq}
use Rattle.std.specs.Cmp.{tied_itself}
use Rattle.std.proofs.lemmas.Bool.{eq-eqb, eqb-true}
use Rattle.std.proofs.lemmas.Bool.Decides.{nat_tests}
use Rattle.std.proofs.lemmas.Map.Views.{tells_apart}
use Rattle.prefix6.specs.Prefix.{Prefix6, prefix_cmp, same_prefix, is_routable}
use Rattle.prefix6.proofs.PrefixLaws.{prefixes_total, exact_prefixes, same_prefix-true}
use Rattle.ripng_wire.proofs.FirstReason.{each_passes}
use Rattle.route_table.specs.Route.{RouteValue}
use Rattle.route_table.specs.Table.{Table, with_value}
use Rattle.route_table.specs.declared.route.Clock.{Clock}
use Rattle.route_table.specs.declared.route.Clock.TheVariants.{Fixed, Live, Dying}
use Rattle.route_table.proofs.TableLaws.{Some-same, None-Some}
use Rattle.route_table.proofs.TableSteps.{get-with_value}
use Rattle.router_core.specs.Adoption.{lost}
use Rattle.router_core.specs.Ageing.{aged_table, unmarked}
use Rattle.router_core.specs.Config.{Config}
use Rattle.router_core.specs.Machine.{State, Happening, ticked, is_regular_due, is_triggered_due}
use Rattle.router_core.specs.Reconfiguring.{IsNamed, reconfigure_fault, reconfigure_reasons, reconfigured_config, reconfigured_table, newly_owned, disowned}
use Rattle.router_core.specs.declared.answer.Answer.{Answer}
use Rattle.router_core.specs.declared.reconfiguring.Change.{Change}
use Rattle.router_core.specs.declared.reconfiguring.Change.TheVariants.{Cost, Own, Disown}
use Rattle.ripng_world.specs.Healing.{network_now}
use Rattle.ripng_world.specs.Network.{Network, Node, AreZoned, IsNetwork, config_of}
use Rattle.ripng_world.specs.Past.{Past}
use Rattle.ripng_world.specs.World.{World, RouterMoves, past_of, reconfigurations_of}
use Rattle.ripng_world.proofs.Growing.{owner_grows}
use Rattle.ripng_world.proofs.Among.{in_filter, to_filter}
use Rattle.ripng_world.proofs.Members.{At, at_left, at_right, split_at}
use Rattle.ripng_world.proofs.NetworkNow.{AreLawful, IsLawfulChange, set_get}
use Rattle.ripng_world.proofs.Reached.{IsKnown, IsReached, IsReachedBy, IsReachedRow, AreRows, HasOwned, later_row, own_row, aged_rows, aged_owned, unmarked_rows, unmarked_owned}
use Rattle.router_core.specs.Timers.{next_hold, next_regular}

-- ---- changes

known_grows : (net : Network) (reconfigurations more : List (ℕ × Change)) (p : Prefix6) → IsKnown (record { net = net; reconfigurations = reconfigurations }) p → IsKnown (record { net = net; reconfigurations = reconfigurations ++ more }) p
known_grows net reconfigurations more p k = (k.0, k.1, owner_grows net reconfigurations more k.0 p k.1 k.2)

row_grows : (net : Network) (reconfigurations more : List (ℕ × Change)) (config : Config) (last : ℕ) (p : Prefix6) (r : RouteValue)
    → IsReachedRow (record { net = net; reconfigurations = reconfigurations }) config last p r → IsReachedRow (record { net = net; reconfigurations = reconfigurations ++ more }) config last p r
row_grows net reconfigurations more config last p r row =
    record {
      plain = record { is_known = known_grows net reconfigurations more p row.plain.is_known; positive = row.plain.positive; in_range = row.plain.in_range; clocked = row.plain.clocked };
      reached = row.reached;
    }

pub reached_grows : (net : Network) (reconfigurations more : List (ℕ × Change)) (s : State) → IsReached (record { net = net; reconfigurations = reconfigurations }) s → IsReached (record { net = net; reconfigurations = reconfigurations ++ more }) s
reached_grows net reconfigurations more s good = record { rows = λ p r at. row_grows net reconfigurations more s.config s.last p r (good.rows p r at); owned = good.owned }

-- the same route with another configuration
reconfigured_row : (past : Past) (config config' : Config) (last : ℕ) (p : Prefix6) (r : RouteValue) → ((tag : ℕ) → At config.prefixes (p, tag) → At config'.prefixes (p, tag))
    → IsReachedRow past config last p r → IsReachedRow past config' last p r
reconfigured_row past config config' last p r keeps row = record { plain = row.plain; reached = by_clock r.clock row.reached }
  where
    by_clock : (c : Clock) → IsReachedBy config last p r c → IsReachedBy config' last p r c
    by_clock Fixed k = (k.0, (k.1.0, keeps k.1.0 k.1.1))
    by_clock (Dying until) k = k
    by_clock (Live until) k = k

tie_itself : (p : Prefix6) → eq_by_cmp prefix_cmp p p ≡ true
tie_itself p = ap is_eq (tied_itself prefixes_total p)

apart : (q p : Prefix6) → eq_by_cmp prefix_cmp q p ≡ false → same_prefix q p ≡ false
apart q p tie = by_test (same_prefix q p) refl
  where
    by_test : (b : Bool) → same_prefix q p ≡ b → b ≡ false
    by_test false e = refl
    by_test true e = sym (tie_itself q) ∙ ap (eq_by_cmp prefix_cmp q) (same_prefix-true q p e) ∙ tie

untied : (q p : Prefix6) → not (same_prefix q p) ≡ true → eq_by_cmp prefix_cmp q p ≡ false
untied q p other = by_test (eq_by_cmp prefix_cmp q p) refl
  where
    same_itself : (x : Prefix6) → same_prefix x x ≡ true
    same_itself x = ap₂ (λ a b. a && b) (eq-eqb x.addr x.addr refl) (eq-eqb x.len x.len refl)

    clash : false ≡ true → ⊥
    clash e = cc

    by_test : (b : Bool) → eq_by_cmp prefix_cmp q p ≡ b → b ≡ false
    by_test false e = refl
    by_test true e = absurd (clash (sym (ap not (ap (λ (x : Prefix6). same_prefix x p) (tells_apart exact_prefixes q p e) ∙ same_itself p)) ∙ other))

module _ (net : Network) (reconfigurations : List (ℕ × Change)) (router : ℕ) where
  abbrev before : Past
  before = record { net = net; reconfigurations = reconfigurations }

  abbrev after : Change → Past
  after c = record { net = net; reconfigurations = reconfigurations ++ (router, c) ∷ [] }

  pub changed_reached : (s : State) (n : ℕ) (c : Change) → s.last ≤ n → IsReached before s → IsReached (after c) (record s { config = reconfigured_config s.config c; table = reconfigured_table n s.table c; last = n })
  changed_reached s n (Cost iface cost) le good =
      record {
        rows = λ p r at. reconfigured_row (after (Cost iface cost)) s.config (reconfigured_config s.config (Cost iface cost)) n p r (λ tag a. a)
            (later_row (after (Cost iface cost)) s.config s.last n p r le (row_grows net reconfigurations ((router, Cost iface cost) ∷ []) s.config s.last p r (good.rows p r at)));
        owned = good.owned;
      }
  changed_reached s n (Own q tag) le good = record { rows = rows; owned = owned }
    where
      config' : Config
      config' = reconfigured_config s.config (Own q tag)

      rows : AreRows (after (Own q tag)) (reconfigured_config s.config (Own q tag)) n (with_value s.table q (Some (newly_owned tag)))
      rows p r at = by_tie (eq_by_cmp prefix_cmp p q) refl (sym (get-with_value s.table q (Some (newly_owned tag)) p) ∙ at)
        where
          by_tie : (b : Bool) → eq_by_cmp prefix_cmp p q ≡ b → cond b (Some (newly_owned tag)) (map_of.get s.table p) ≡ Some r → IsReachedRow (after (Own q tag)) (reconfigured_config s.config (Own q tag)) n p r
          by_tie true tie e =
              subst (λ (x : Prefix6). IsReachedRow (after (Own q tag)) (reconfigured_config s.config (Own q tag)) n x r) (sym (tells_apart exact_prefixes p q tie))
              (subst (IsReachedRow (after (Own q tag)) (reconfigured_config s.config (Own q tag)) n q) (Some-same (newly_owned tag) r e)
              (own_row (after (Own q tag)) (reconfigured_config s.config (Own q tag)) n q tag true
              (router, tag, inr (at_right reconfigurations ((router, Own q tag) ∷ []) (router, Own q tag) (0, refl)))
              (at_right s.config.prefixes ((q, tag) ∷ []) (q, tag) (0, refl))))
          by_tie false tie e =
              reconfigured_row (after (Own q tag)) s.config (reconfigured_config s.config (Own q tag)) n p r (λ t a. at_left s.config.prefixes ((q, tag) ∷ []) (p, t) a)
              (later_row (after (Own q tag)) s.config s.last n p r le (row_grows net reconfigurations ((router, Own q tag) ∷ []) s.config s.last p r (good.rows p r e)))

      owned : HasOwned (reconfigured_config s.config (Own q tag)) (with_value s.table q (Some (newly_owned tag)))
      owned p t a = by_tie (eq_by_cmp prefix_cmp p q) refl
        where
          clash : true ≡ false → ⊥
          clash e = cc

          by_tie : (b : Bool) → eq_by_cmp prefix_cmp p q ≡ b → (r : RouteValue) × (map_of.get (with_value s.table q (Some (newly_owned tag))) p ≡ Some r) × (r.clock ≡ Fixed)
          by_tie true tie = (newly_owned tag, get-with_value s.table q (Some (newly_owned tag)) p ∙ ap (λ b. cond b (Some (newly_owned tag)) (map_of.get s.table p)) tie, refl)
          by_tie false tie =
              elim (split_at s.config.prefixes ((q, tag) ∷ []) a.0 (p, t) a.1) [
                | inl l ↦ let o = good.owned p t l in
                    (o.0, get-with_value s.table q (Some (newly_owned tag)) p ∙ ap (λ b. cond b (Some (newly_owned tag)) (map_of.get s.table p)) tie ∙ o.1, o.2)
                | inr l ↦ absurd (by_place l.0 l.1)
              ]
            where
              by_place : (i : ℕ) → slice_get {X = Prefix6 × ℕ} ((q, tag) ∷ []) i ≡ Some (p, t) → ⊥
              by_place zero e = clash (sym (tie_itself q) ∙ ap (λ (x : Prefix6 × ℕ). eq_by_cmp prefix_cmp x.0 q) (Some-same (q, tag) (p, t) e) ∙ tie)
              by_place (suc i) e = None-Some (p, t) e
  changed_reached s n (Disown q) le good = record { rows = rows; owned = owned }
    where
      rows : AreRows (after (Disown q)) (reconfigured_config s.config (Disown q)) n (with_value s.table q (disowned n (map_of.get s.table q)))
      rows p r at = by_tie (eq_by_cmp prefix_cmp p q) refl (sym (get-with_value s.table q (disowned n (map_of.get s.table q)) p) ∙ at)
        where
          gone : (o : Option RouteValue) → map_of.get s.table q ≡ o → disowned n o ≡ Some r → IsReachedRow (after (Disown q)) (reconfigured_config s.config (Disown q)) n q r
          gone None is e = absurd (None-Some r e)
          gone (Some x) is e =
              let old = row_grows net reconfigurations ((router, Disown q) ∷ []) s.config s.last q x (good.rows q x is) in
              subst (IsReachedRow (after (Disown q)) (reconfigured_config s.config (Disown q)) n q) (Some-same (lost n x) r e)
              (record { plain = record { is_known = old.plain.is_known; positive = omega arith; in_range = le_refl 16; clocked = refl }; reached = tt })

          by_tie : (b : Bool) → eq_by_cmp prefix_cmp p q ≡ b → cond b (disowned n (map_of.get s.table q)) (map_of.get s.table p) ≡ Some r → IsReachedRow (after (Disown q)) (reconfigured_config s.config (Disown q)) n p r
          by_tie true tie e =
              subst (λ (x : Prefix6). IsReachedRow (after (Disown q)) (reconfigured_config s.config (Disown q)) n x r) (sym (tells_apart exact_prefixes p q tie)) (gone (map_of.get s.table q) refl e)
          by_tie false tie e =
              reconfigured_row (after (Disown q)) s.config (reconfigured_config s.config (Disown q)) n p r
              (λ t a. to_filter (λ (x : Prefix6 × ℕ). not (same_prefix x.0 q)) s.config.prefixes (p, t) a (ap not (apart p q tie)))
              (later_row (after (Disown q)) s.config s.last n p r le (row_grows net reconfigurations ((router, Disown q) ∷ []) s.config s.last p r (good.rows p r e)))

      owned : HasOwned (reconfigured_config s.config (Disown q)) (with_value s.table q (disowned n (map_of.get s.table q)))
      owned p t a =
          let f = in_filter (λ (x : Prefix6 × ℕ). not (same_prefix x.0 q)) s.config.prefixes (p, t) a in
          let o = good.owned p t f.0 in (
            o.0,
            get-with_value s.table q (disowned n (map_of.get s.table q)) p ∙ ap (λ b. cond b (disowned n (map_of.get s.table q)) (map_of.get s.table p)) (untied p q f.1) ∙ o.1,
            o.2,
          )

-- a change that is done is lawful
pub done_lawful : (config : Config) (table : Table) (c : Change) → IsNamed config c → reconfigure_fault config table c ≡ None → IsLawfulChange c
done_lawful config table (Cost iface cost) named none = in_range cost (each_passes (reconfigure_reasons config table (Cost iface cost)) none).0
  where
    in_range : (n : ℕ) → not (nat_le 1 n && nat_lt n 16) ≡ false → (1 ≤ n) × (n < 16)
    in_range n e = (lower n e, upper n e)
      where
        lower : (n : ℕ) → not (nat_le 1 n && nat_lt n 16) ≡ false → 1 ≤ n
        lower n e = grind (arith, nat_tests)

        upper : (n : ℕ) → not (nat_le 1 n && nat_lt n 16) ≡ false → n < 16
        upper n e = grind (arith, nat_tests)
done_lawful config table (Own p tag) named none = (named, holds (is_routable p) (each_passes (reconfigure_reasons config table (Own p tag)) none).0)
  where
    holds : (b : Bool) → not b ≡ false → b ≡ true
    holds true e = refl
    holds false e = absurd (cc)
done_lawful config table (Disown p) named none = tt

-- ---- worlds

pub record IsReachedState (net : Network) (reconfigurations : List (ℕ × Change)) (router : ℕ) (s : State) : Type 0 where
  pub node : Node
  pub node_is : slice_get (network_now (record { net = net; reconfigurations = reconfigurations })) router ≡ Some node
  pub config_is : s.config ≡ config_of node
  pub reached : IsReached (record { net = net; reconfigurations = reconfigurations }) s

pub record AreReached (net : Network) (w : World) : Type 0 where
  pub zoned : AreZoned net
  pub lawful : AreLawful w.reconfigurations
  pub states : (router : ℕ) (s : State) → slice_get w.states router ≡ Some s → IsReachedState net w.reconfigurations router s
  pub everyone : (router : ℕ) (node : Node) → slice_get net router ≡ Some node → (s : State) × (slice_get w.states router ≡ Some s)

module _ (net : Network) (is_net : IsNetwork net) where
  -- the others stay when one router moves
  pub moved : (w w' : World) (router : ℕ) (happening : Happening) (answer : Answer) (m : RouterMoves w router happening answer w') → AreReached net w
      → AreLawful (w.reconfigurations ++ reconfigurations_of router happening)
      → IsReachedState net (w.reconfigurations ++ reconfigurations_of router happening) router m.new
      → ((r : ℕ) (s : State) → (router == r) ≡ false → IsReachedState net w.reconfigurations r s → IsReachedState net (w.reconfigurations ++ reconfigurations_of router happening) r s)
      → AreReached net w'
  moved w w' router happening answer m all lawful new others =
      record {
        zoned = all.zoned;
        lawful = subst AreLawful (sym m.reconfigurations) lawful;
        states = λ r s is. subst (λ cs. IsReachedState net cs r s) (sym m.reconfigurations)
            (by_router r s (router == r) refl (sym (ap (λ (ss : List State). slice_get ss r) m.states ∙ set_get w.states router m.new m.old m.old_is r) ∙ is));
        everyone = λ r node is.
            let s = all.everyone r node is in
            still r s.0 s.1 (router == r) refl;
      }
    where
      by_router : (r : ℕ) (s : State) (b : Bool) → (router == r) ≡ b → cond b (Some m.new) (slice_get w.states r) ≡ Some s → IsReachedState net (w.reconfigurations ++ reconfigurations_of router happening) r s
      by_router r s true e is =
          subst (λ k. IsReachedState net (w.reconfigurations ++ reconfigurations_of router happening) k s) (eqb-true router r e)
          (subst (IsReachedState net (w.reconfigurations ++ reconfigurations_of router happening) router) (Some-same m.new s is) new)
      by_router r s false e is = others r s e (all.states r s is)

      still : (r : ℕ) (s : State) → slice_get w.states r ≡ Some s → (b : Bool) → (router == r) ≡ b → (t : State) × (slice_get w'.states r ≡ Some t)
      still r s is true e = (m.new, ap (λ (ss : List State). slice_get ss r) m.states ∙ set_get w.states router m.new m.old m.old_is r ∙ ap (λ b. cond b (Some m.new) (slice_get w.states r)) e)
      still r s is false e = (s, ap (λ (ss : List State). slice_get ss r) m.states ∙ set_get w.states router m.new m.old m.old_is r ∙ ap (λ b. cond b (Some m.new) (slice_get w.states r)) e ∙ is)

  -- a move that is no change
  pub unchanging : (w w' : World) (router : ℕ) (happening : Happening) (answer : Answer) (m : RouterMoves w router happening answer w') → reconfigurations_of router happening ≡ [] → AreReached net w
      → m.new.config ≡ m.old.config → IsReached (past_of net w) m.new → AreReached net w'
  unchanging w w' router happening answer m none all same new =
      let same_changes : w.reconfigurations ++ reconfigurations_of router happening ≡ w.reconfigurations = ap (λ cs. w.reconfigurations ++ cs) none ∙ append-nil w.reconfigurations in
      let t = all.states router m.old m.old_is in
      moved w w' router happening answer m all (subst AreLawful (sym same_changes) all.lawful)
      (subst (λ cs. IsReachedState net cs router m.new) (sym same_changes) (record { node = t.node; node_is = t.node_is; config_is = same ∙ t.config_is; reached = new }))
      (λ r s e x. subst (λ cs. IsReachedState net cs r s) (sym same_changes) x)

  pub ticked_reached : (past : Past) (old : State) (now word : ℕ) → old.last ≤ now → IsReached past old → IsReached past (ticked old now word)
  ticked_reached past old now word le good =
      let rows = aged_rows past old.config old.last now old.table le good.rows in
      let owned = aged_owned past old.config now old.table good.owned in
      let clean = unmarked_rows past old.config now (aged_table now old.table) rows in
      let clean_owned = unmarked_owned past old.config (aged_table now old.table) owned in
      elim (is_regular_due old now) as (λ b. IsReached past (cond b (record old { table = unmarked (aged_table now old.table); last = now; regular = next_regular now word })
      (cond (is_triggered_due old now) (record old { table = unmarked (aged_table now old.table); last = now; hold = next_hold now word }) (record old { table = aged_table now old.table; last = now })))) [
        | true ↦ record { rows = clean; owned = clean_owned }
        | false ↦ elim (is_triggered_due old now) as (λ b. IsReached past (cond b (record old { table = unmarked (aged_table now old.table); last = now; hold = next_hold now word }) (record old { table = aged_table now old.table; last = now }))) [
          | true ↦ record { rows = clean; owned = clean_owned }
          | false ↦ record { rows = rows; owned = owned }
        ]
      ]

  pub ticked_config : (old : State) (now word : ℕ) → (ticked old now word).config ≡ old.config
  ticked_config old now word =
      elim (is_regular_due old now) as (λ b. (cond b (record old { table = unmarked (aged_table now old.table); last = now; regular = next_regular now word })
      (cond (is_triggered_due old now) (record old { table = unmarked (aged_table now old.table); last = now; hold = next_hold now word }) (record old { table = aged_table now old.table; last = now }))).config ≡ old.config) [
        | true ↦ refl
        | false ↦ elim (is_triggered_due old now) as (λ b. (cond b (record old { table = unmarked (aged_table now old.table); last = now; hold = next_hold now word }) (record old { table = aged_table now old.table; last = now })).config ≡ old.config) [
          | true ↦ refl
          | false ↦ refl
        ]
      ]

  pub max_later : (a b : ℕ) → a ≤ max a b
  max_later a b = omega arith
