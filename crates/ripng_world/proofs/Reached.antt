-- What every state of a router has that was ever reached: which routes it may hold, by their clocks, and its own ones.
use Rattle.std.proofs.Common.{◌≡◌, ℕ, ◌+◌, min, ◌<◌, ◌≤◌, Bool, true, false, cond, not, ◌&&◌, ◌||◌, ◌==◌, nat_lt, nat_le, List, [], ◌∷◌, map, filter, fold, length, Option, Some, None, is_none, option_and_then, refl, ap, sym, subst, ◌∙◌, arith, le_refl}
use Rattle.std.specs.Prelude.{⊤}
use Rattle.std.specs.List.{AllByRecursion, enumerate_from}
use Rattle.std.specs.FinMap as map_of
use Rattle.std.proofs.lemmas.Bool.{ltb-true}
use Rattle.std.proofs.lemmas.Bool.Decides.{nat_tests}
use Rattle.prefix6.specs.Prefix.{Prefix6, same_prefix}
use Rattle.prefix6.proofs.PrefixLaws.{prefixes_total, same_prefix-true}
use Rattle.ripng_wire.specs.declared.rte.Rte.{Rte}
use Rattle.ripng_wire.specs.Layout.{is_next_hop}
use Rattle.ripng_wire.proofs.FirstReason.{each_passes}
use Rattle.route_table.specs.Route.{RouteValue, infinity}
use Rattle.route_table.specs.Table.{Table}
use Rattle.route_table.specs.declared.route.Origin.TheVariants.{Own, Learned}
use Rattle.route_table.specs.declared.route.Clock.{Clock}
use Rattle.route_table.specs.declared.route.Clock.TheVariants.{Fixed, Live, Dying}
use Rattle.route_table.proofs.TableLaws.{Some-same, None-Some, at_from_entries, get-map_values}
use Rattle.router_core.specs.Config.{Config}
use Rattle.router_core.specs.Offers.{Offer, offers, offer_at, is_offer, flaw, entry_reasons, prefix_named}
use Rattle.router_core.specs.Adoption.{Gateway, adopted, adopted_by_clock, refreshed, taken, lost, metric_through, is_reachable, is_through, is_preferred, is_repeated}
use Rattle.router_core.specs.Ageing.{aged, aged_by_clock, aged_table, unmarked, without_mark}
use Rattle.router_core.specs.Output.{is_learned_on}
use Rattle.router_core.specs.LinkDown.{is_live_on, after_link_down, table_after_link_down}
use Rattle.router_core.specs.Hearing.{Hearing, Heard, is_refused}
use Rattle.router_core.specs.Timers.{timeout, half_timeout}
use Rattle.router_core.specs.Owning.{owned_route}
use Rattle.router_core.specs.Machine.{State, owned_table}
use Rattle.ripng_world.specs.Past.{Past, OwnsSince}
use Rattle.ripng_world.specs.TruthSince.{IsSoundEntrySince}
use Rattle.ripng_world.specs.Walks.{end_of}
use Rattle.ripng_world.proofs.Each.{each_filter, each_passing, each_enumerated, each_mapped, each_from_places}
use Rattle.ripng_world.proofs.ColdStates.{found_at}
use Rattle.ripng_world.proofs.Members.{At, at_map}
use Rattle.ripng_world.proofs.HealPlain.{IsPlainRow, IsClocked}

-- the prefix is owned, or was
abbrev pub IsKnown : Past → Prefix6 → Type 0
IsKnown past p = (router : ℕ) × (tag : ℕ) × OwnsSince past router p tag

-- by its clock, a route is the router's own, or was learned and has at most a timeout left
abbrev pub IsReachedBy : Config → ℕ → Prefix6 → RouteValue → Clock → Type 0
IsReachedBy config last p r Fixed = (r.origin ≡ Own) × ((tag : ℕ) × At config.prefixes (p, tag))
IsReachedBy config last p r (Dying until) = ⊤
IsReachedBy config last p r (Live until) =
    ((iface : ℕ) × (from : ℕ) × (next_hop : ℕ) × (r.origin ≡ Learned iface from next_hop)) × (2 ≤ r.metric) × (until ≤ last + timeout)

pub record IsReachedRow (past : Past) (config : Config) (last : ℕ) (p : Prefix6) (r : RouteValue) : Type 0 where
  pub plain : IsPlainRow (IsKnown past) p r
  pub reached : IsReachedBy config last p r r.clock

abbrev pub AreRows : Past → Config → ℕ → Table → Type 0
AreRows past config last table = (p : Prefix6) (r : RouteValue) → map_of.get table p ≡ Some r → IsReachedRow past config last p r

-- each owned prefix has a route that never ages
abbrev pub HasOwned : Config → Table → Type 0
HasOwned config table = (p : Prefix6) (tag : ℕ) → At config.prefixes (p, tag) → (r : RouteValue) × (map_of.get table p ≡ Some r) × (r.clock ≡ Fixed)

pub record IsReached (past : Past) (s : State) : Type 0 where
  pub rows : AreRows past s.config s.last s.table
  pub owned : HasOwned s.config s.table

-- ---- time goes on

pub later_row : (past : Past) (config : Config) (last n : ℕ) (p : Prefix6) (r : RouteValue) → last ≤ n → IsReachedRow past config last p r → IsReachedRow past config n p r
later_row past config last n p r le row = record { plain = row.plain; reached = by_clock r.clock row.reached }
  where
    up : (u l n : ℕ) → l ≤ n → u ≤ l + timeout → u ≤ n + timeout
    up u l n e f = omega arith

    by_clock : (c : Clock) → IsReachedBy config last p r c → IsReachedBy config n p r c
    by_clock Fixed k = k
    by_clock (Dying until) k = k
    by_clock (Live until) k = (k.0, k.1, up until last n le k.2)

pub waited_reached : (past : Past) (old new : State) (n : ℕ) → old.last ≤ n → new ≡ record old { last = n } → IsReached past old → IsReached past new
waited_reached past old new n le is good =
    subst (IsReached past) (sym is) (record { rows = λ p r at. later_row past old.config old.last n p r le (good.rows p r at); owned = good.owned })

module _ (past : Past) (config : Config) where
  pub lost_row : (last n : ℕ) (p : Prefix6) (r : RouteValue) → IsReachedRow past config last p r → IsReachedRow past config n p (lost n r)
  lost_row last n p r row = record { plain = record { is_known = row.plain.is_known; positive = omega arith; in_range = le_refl 16; clocked = refl }; reached = tt }

  -- ---- ageing

  aged_row : (last n : ℕ) → last ≤ n → (p : Prefix6) (r q : RouteValue) → IsReachedRow past config last p r → aged n r ≡ Some q → IsReachedRow past config n p q
  aged_row last n le p r q row e = by_clock r.clock e
    where
      still : IsReachedRow past config n p r
      still = later_row past config last n p r le row

      by_clock : (c : Clock) → aged_by_clock n r c ≡ Some q → IsReachedRow past config n p q
      by_clock Fixed is = subst (IsReachedRow past config n p) (Some-same r q is) still
      by_clock (Live until) is = by_test (nat_le until n) is
        where
          by_test : (b : Bool) → cond b (Some (lost n r)) (Some r) ≡ Some q → IsReachedRow past config n p q
          by_test true is = subst (IsReachedRow past config n p) (Some-same (lost n r) q is) (lost_row last n p r row)
          by_test false is = subst (IsReachedRow past config n p) (Some-same r q is) still
      by_clock (Dying until) is = by_test (nat_le until n) is
        where
          by_test : (b : Bool) → cond b None (Some r) ≡ Some q → IsReachedRow past config n p q
          by_test true is = absurd (None-Some q is)
          by_test false is = subst (IsReachedRow past config n p) (Some-same r q is) still

  pub aged_rows : (last n : ℕ) (table : Table) → last ≤ n → AreRows past config last table → AreRows past config n (aged_table n table)
  aged_rows last n table le rows p q at = by_value (map_of.get table p) refl (sym (get-map_values (aged n) table p) ∙ at)
    where
      by_value : (o : Option RouteValue) → map_of.get table p ≡ o → option_and_then (aged n) o ≡ Some q → IsReachedRow past config n p q
      by_value None is e = absurd (None-Some q e)
      by_value (Some r) is e = aged_row last n le p r q (rows p r is) e

  pub aged_owned : (n : ℕ) (table : Table) → HasOwned config table → HasOwned config (aged_table n table)
  aged_owned n table owned p tag a =
      let o = owned p tag a in
      (o.0, get-map_values (aged n) table p ∙ ap (option_and_then (aged n)) o.1 ∙ ap (aged_by_clock n o.0) o.2, o.2)

  -- ---- the loss of a link

  link_down_row : (iface last n : ℕ) → last ≤ n → (p : Prefix6) (r : RouteValue) → IsReachedRow past config last p r → IsReachedRow past config n p (after_link_down iface n r)
  link_down_row iface last n le p r row = by_test (is_live_on iface r)
    where
      by_test : (b : Bool) → IsReachedRow past config n p (cond b (lost n r) r)
      by_test true = lost_row last n p r row
      by_test false = later_row past config last n p r le row

  pub link_down_rows : (iface last n : ℕ) (table : Table) → last ≤ n → AreRows past config last table → AreRows past config n (table_after_link_down iface n table)
  link_down_rows iface last n table le rows p q at = by_value (map_of.get table p) refl (sym (get-map_values (λ r. Some (after_link_down iface n r)) table p) ∙ at)
    where
      by_value : (o : Option RouteValue) → map_of.get table p ≡ o → option_and_then (λ r. Some (after_link_down iface n r)) o ≡ Some q → IsReachedRow past config n p q
      by_value None is e = absurd (None-Some q e)
      by_value (Some r) is e = subst (IsReachedRow past config n p) (Some-same _ q e) (link_down_row iface last n le p r (rows p r is))

  -- a route that never ages was not learned
  pub link_down_owned : (iface last n : ℕ) (table : Table) → AreRows past config last table → HasOwned config table → HasOwned config (table_after_link_down iface n table)
  link_down_owned iface last n table rows owned p tag a =
      let o = owned p tag a in (
        o.0,
        get-map_values (λ r. Some (after_link_down iface n r)) table p ∙ ap (option_and_then (λ r. Some (after_link_down iface n r))) o.1
            ∙ ap (λ x. Some (cond (is_learned_on iface x && nat_lt o.0.metric infinity) (lost n o.0) o.0)) (own_origin o.0 o.0.clock o.2 (rows p o.0 o.1).reached),
        o.2,
      )
    where
      own_origin : (r : RouteValue) (c : Clock) → c ≡ Fixed → IsReachedBy config last p r c → r.origin ≡ Own
      own_origin r Fixed is k = k.0
      own_origin r (Live until) is k = absurd (cc)
      own_origin r (Dying until) is k = absurd (cc)

  pub unmarked_rows : (last : ℕ) (table : Table) → AreRows past config last table → AreRows past config last (unmarked table)
  unmarked_rows last table rows p q at = by_value (map_of.get table p) refl (sym (get-map_values without_mark table p) ∙ at)
    where
      by_value : (o : Option RouteValue) → map_of.get table p ≡ o → option_and_then without_mark o ≡ Some q → IsReachedRow past config last p q
      by_value None is e = absurd (None-Some q e)
      by_value (Some r) is e =
          let row = rows p r is in
          subst (IsReachedRow past config last p) (Some-same (record r { changed = false }) q e)
          (record { plain = record { is_known = row.plain.is_known; positive = row.plain.positive; in_range = row.plain.in_range; clocked = row.plain.clocked }; reached = row.reached })

  pub unmarked_owned : (table : Table) → HasOwned config table → HasOwned config (unmarked table)
  unmarked_owned table owned p tag a =
      let o = owned p tag a in
      (record o.0 { changed = false }, get-map_values without_mark table p ∙ ap (option_and_then without_mark) o.1, o.2)

  -- ---- a start

  pub own_row : (last : ℕ) (p : Prefix6) (tag : ℕ) (changed : Bool) → IsKnown past p → At config.prefixes (p, tag) → IsReachedRow past config last p (record (owned_route tag) { changed = changed })
  own_row last p tag changed known a =
      record { plain = record { is_known = known; positive = le_refl 1; in_range = omega arith; clocked = refl }; reached = (refl, (tag, a)) }

  pub started_rows : (now : ℕ) → ((p : Prefix6) (tag : ℕ) → At config.prefixes (p, tag) → IsKnown past p) → AreRows past config now (owned_table config)
  started_rows now known =
      at_from_entries (λ (e : Prefix6 × RouteValue). IsReachedRow past config now e.0 e.1) _
      (each_mapped (λ (e : Prefix6 × RouteValue). IsReachedRow past config now e.0 e.1) (λ (t : Prefix6 × ℕ). (t.0, owned_route t.1)) config.prefixes
      (each_from_places (λ (t : Prefix6 × ℕ). IsReachedRow past config now t.0 (owned_route t.1)) config.prefixes
      (λ i t is. own_row now t.0 t.1 false (known t.0 t.1 (i, is)) (i, is))))

  pub started_owned : HasOwned config (owned_table config)
  started_owned p tag a =
      let es : List (Prefix6 × RouteValue) = map (λ (t : Prefix6 × ℕ). (t.0, owned_route t.1)) config.prefixes in
      let q = found_at es p (owned_route tag) (at_map (λ (t : Prefix6 × ℕ). (t.0, owned_route t.1)) config.prefixes (p, tag) a) in
      let at : map_of.get (owned_table config) p ≡ Some q.0 = map_of.get-from_entries prefixes_total _ p ∙ q.1 in (
        q.0,
        at,
        at_from_entries (λ (e : Prefix6 × RouteValue). e.1.clock ≡ Fixed) _
            (each_mapped (λ (e : Prefix6 × RouteValue). e.1.clock ≡ Fixed) (λ (t : Prefix6 × ℕ). (t.0, owned_route t.1)) config.prefixes
            (each_from_places (λ (t : Prefix6 × ℕ). (owned_route t.1).clock ≡ Fixed) config.prefixes (λ i t is. refl))) p q.0 at,
      )

  -- ---- hearing

  module _ (g : Gateway) (cost : 1 ≤ g.cost) (last : ℕ) (le : last ≤ g.moment) where
    record IsLawfulOffer (p : Prefix6) (o : Offer) : Type 0 where
      positive : 1 ≤ o.metric
      is_known : o.metric < infinity → IsKnown past p

    abbrev Reached : Prefix6 → Option RouteValue → Type 0
    Reached p None = ⊤
    Reached p (Some r) = IsReachedRow past config g.moment p r

    taken_row : (p : Prefix6) (o : Offer) → IsLawfulOffer p o → metric_through g o < infinity → (changed : Bool) → IsReachedRow past config g.moment p (record (taken g o) { changed = changed })
    taken_row p o good low changed =
        record {
          plain = record {
            is_known = good.is_known (below o.metric g.cost low);
            positive = at_least o.metric g.cost good.positive;
            in_range = at_most o.metric g.cost;
            clocked = low;
          };
          reached = ((g.iface, g.from, o.next_hop, refl), two o.metric g.cost good.positive cost, le_refl (g.moment + timeout));
        }
      where
        below : (m c : ℕ) → min (m + c) 16 < 16 → m < 16
        below m c h = omega arith

        at_least : (m c : ℕ) → 1 ≤ m → 1 ≤ min (m + c) 16
        at_least m c h = omega arith

        at_most : (m c : ℕ) → min (m + c) 16 ≤ 16
        at_most m c = omega arith

        two : (m c : ℕ) → 1 ≤ m → 1 ≤ c → 2 ≤ min (m + c) 16
        two m c h k = omega arith

    adopted_row : (p : Prefix6) (o : Offer) → IsLawfulOffer p o → (old : Option RouteValue) → Reached p old → Reached p (adopted g old o)
    adopted_row p o good None row = by_reach (is_reachable (metric_through g o)) refl
      where
        by_reach : (b : Bool) → is_reachable (metric_through g o) ≡ b → Reached p (cond b (Some (taken g o)) None)
        by_reach true e = taken_row p o good (ltb-true (metric_through g o) infinity e) true
        by_reach false e = tt
    adopted_row p o good (Some r) row = by_clock r.clock row.plain.clocked
      where
        by_clock : (c : Clock) → IsClocked r.metric c → IsReachedRow past config g.moment p (adopted_by_clock g o r c)
        by_clock Fixed k = row
        by_clock (Dying until) k = by_reach (is_reachable (metric_through g o)) refl
          where
            by_reach : (b : Bool) → is_reachable (metric_through g o) ≡ b → IsReachedRow past config g.moment p (cond b (taken g o) r)
            by_reach true e = taken_row p o good (ltb-true (metric_through g o) infinity e) true
            by_reach false e = row
        by_clock (Live until) k = by_gateway (is_through g r.origin)
          where
            speaks : (b : Bool) → is_reachable (metric_through g o) ≡ b → IsReachedRow past config g.moment p (cond b (record (taken g o) { changed = r.changed || not (is_repeated g o r) }) (lost g.moment r))
            speaks true e = taken_row p o good (ltb-true (metric_through g o) infinity e) (r.changed || not (is_repeated g o r))
            speaks false e = lost_row g.moment g.moment p r row

            preferred_low : (m a : ℕ) → (nat_lt m a || (m == a && nat_le until (g.moment + half_timeout))) ≡ true → m ≤ a
            preferred_low m a e = grind (arith, nat_tests)

            below : (m a : ℕ) → m ≤ a → a < 16 → m < 16
            below m a e f = omega arith

            by_preference : (b : Bool) → is_preferred g o r.metric until ≡ b → IsReachedRow past config g.moment p (cond b (taken g o) r)
            by_preference false e = row
            by_preference true e = taken_row p o good (below (metric_through g o) r.metric (preferred_low (metric_through g o) r.metric e) k) true

            by_gateway : (b : Bool) → IsReachedRow past config g.moment p (cond b (refreshed g o r) (cond (is_preferred g o r.metric until) (taken g o) r))
            by_gateway true = speaks (is_reachable (metric_through g o)) refl
            by_gateway false = by_preference (is_preferred g o r.metric until) refl

    all_adopted : (p : Prefix6) (os : List Offer) → AllByRecursion (IsLawfulOffer p) os → (old : Option RouteValue) → Reached p old → Reached p (fold (adopted g) old os)
    all_adopted p [] all old row = row
    all_adopted p (o ∷ os) all old row = all_adopted p os all.1 (adopted g old o) (adopted_row p o all.0 old row)

    -- the entries of a neighbor that tells only what is backed
    offers_lawful : (sender : ℕ) (entries : List Rte) → AllByRecursion (IsSoundEntrySince past sender) entries → (p : Prefix6) → AllByRecursion (IsLawfulOffer p) (offers config g.from entries p)
    offers_lawful sender entries all p =
        each_mapped (IsLawfulOffer p) (λ (t : ℕ × Rte). offer_at config g.from entries t.0 t.1) _
        (each_passing (λ (t : ℕ × Rte). IsLawfulOffer p (offer_at config g.from entries t.0 t.1)) (λ t. IsSoundEntrySince past sender t.1)
        (λ t. is_offer t.1 && same_prefix (prefix_named t.1) p) good (enumerate_from 0 entries) (each_enumerated _ 0 entries all))
      where
        left : (a b : Bool) → (a && b) ≡ true → a ≡ true
        left true b e = refl
        left false b e = e

        right : (a b : Bool) → (a && b) ≡ true → b ≡ true
        right true b e = e
        right false b e = absurd (cc)

        none : {X : Type 0} (o : Option X) → is_none o ≡ true → o ≡ None
        none None e = refl
        none (Some x) e = absurd (cc)

        not_zero : (m : ℕ) → (m == 0 || nat_lt 16 m) ≡ false → 1 ≤ m
        not_zero m e = grind (arith, nat_tests)

        good : (t : ℕ × Rte) → IsSoundEntrySince past sender t.1 → (is_offer t.1 && same_prefix (prefix_named t.1) p) ≡ true → IsLawfulOffer p (offer_at config g.from entries t.0 t.1)
        good t sound passes =
            let named : prefix_named t.1 ≡ p = same_prefix-true (prefix_named t.1) p (right (is_offer t.1) (same_prefix (prefix_named t.1) p) passes) in
            let whole : flaw t.1 ≡ None = none (flaw t.1) (right (not (is_next_hop t.1)) (is_none (flaw t.1)) (left (is_offer t.1) (same_prefix (prefix_named t.1) p) passes)) in
            record {
              positive = not_zero t.1.metric (each_passes (entry_reasons t.1) whole).1.1.0;
              is_known = λ low. let b = sound.backed low in subst (IsKnown past) named (end_of sender b.0, t.1.tag, b.1.owner);
            }

    pub heard_rows : (sender : ℕ) (h : Hearing) (after : Table) → h.gateway ≡ g → h.config ≡ config → AllByRecursion (IsSoundEntrySince past sender) h.entries
        → AreRows past config last h.before → Heard h after → AreRows past config g.moment after
    heard_rows sender h after g_is c_is all rows heard p r at =
        subst (Reached p) (sym (heard.routes p) ∙ at)
        (subst (λ (k : Gateway). Reached p (fold (adopted k) (map_of.get h.before p) (filter (λ o. nat_lt o.place (length h.entries) && not (is_refused h o.place)) (offers h.config k.from h.entries p)))) (sym g_is)
        (subst (λ (k : Config). Reached p (fold (adopted g) (map_of.get h.before p) (filter (λ o. nat_lt o.place (length h.entries) && not (is_refused h o.place)) (offers k g.from h.entries p)))) (sym c_is)
        (all_adopted p _ (each_filter (IsLawfulOffer p) (λ o. nat_lt o.place (length h.entries) && not (is_refused h o.place)) (offers config g.from h.entries p) (offers_lawful sender h.entries all p))
        (map_of.get h.before p) (before (map_of.get h.before p) refl))))
      where
        before : (o : Option RouteValue) → map_of.get h.before p ≡ o → Reached p o
        before None is = tt
        before (Some q) is = later_row past config last g.moment p q le (rows p q is)

  -- what never ages stays
  fixed_stays : (g : Gateway) (os : List Offer) (r : RouteValue) → r.clock ≡ Fixed → fold (adopted g) (Some r) os ≡ Some r
  fixed_stays g [] r f = refl
  fixed_stays g (o ∷ os) r f = ap (λ c. fold (adopted g) (Some (adopted_by_clock g o r c)) os) f ∙ fixed_stays g os r f

  pub heard_owned : (h : Hearing) (after : Table) → HasOwned config h.before → Heard h after → HasOwned config after
  heard_owned h after owned heard p tag a =
      let o = owned p tag a in
      let os : List Offer = filter (λ o. nat_lt o.place (length h.entries) && not (is_refused h o.place)) (offers h.config h.gateway.from h.entries p) in
      (o.0, heard.routes p ∙ ap (λ b. fold (adopted h.gateway) b os) o.1 ∙ fixed_stays h.gateway os o.0 o.2, o.2)
