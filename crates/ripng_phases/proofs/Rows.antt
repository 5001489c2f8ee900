-- What an ordinary event makes of one route: a live route was there, or is taken from a datagram; a route that lasts stays.
use Rattle.std.proofs.Common.{◌≡◌, ◌⊎◌, inl, inr, ℕ, ◌+◌, min, max, ◌<◌, ◌≤◌, Bool, true, false, cond, not, ◌&&◌, ◌||◌, nat_lt, nat_le, List, [], ◌∷◌, filter, fold, length, Option, Some, None, option_and_then, refl, ap, sym, subst, ◌∙◌, arith}
use Rattle.std.specs.Prelude.{⊤}
use Rattle.std.specs.List.{AllByRecursion, enumerate_from}
use Rattle.std.specs.FinMap as map_of
use Rattle.std.proofs.lemmas.Bool.Decides.{nat_tests}
use Rattle.prefix6.specs.Prefix.{Prefix6, same_prefix}
use Rattle.prefix6.proofs.PrefixLaws.{same_prefix-true}
use Rattle.ripng_wire.specs.declared.rte.Rte.{Rte}
use Rattle.route_table.specs.Route.{RouteValue, infinity}
use Rattle.route_table.specs.Table.{Table}
use Rattle.route_table.specs.declared.route.Origin.TheVariants.{Learned}
use Rattle.route_table.specs.declared.route.Clock.{Clock}
use Rattle.route_table.specs.declared.route.Clock.TheVariants.{Fixed, Live, Dying}
use Rattle.route_table.proofs.TableLaws.{Some-same, None-Some}
use Rattle.router_core.specs.Adoption.{Gateway, adopted, adopted_by_clock, taken, lost, metric_through, is_reachable, is_through, is_preferred, is_repeated}
use Rattle.router_core.specs.Ageing.{aged, aged_by_clock, without_mark}
use Rattle.router_core.specs.Hearing.{Hearing, Heard, is_refused}
use Rattle.router_core.specs.Offers.{Offer, offers, offer_at, is_offer, prefix_named}
use Rattle.router_core.specs.Timers.{timeout, garbage_time}
use Rattle.ripng_world.proofs.Each.{each_filter, each_passing, each_enumerated, each_mapped, each_from_places}
use Rattle.ripng_world.proofs.Members.{At}

-- the same route but for its mark
pub record IsSame (q r : RouteValue) : Type 0 where
  pub metric : r.metric ≡ q.metric
  pub tag : r.tag ≡ q.tag
  pub origin : r.origin ≡ q.origin
  pub clock : r.clock ≡ q.clock

-- an entry that names the prefix is taken through the gateway
pub record IsTaken (g : Gateway) (entries : List Rte) (p : Prefix6) (r : RouteValue) (until : ℕ) : Type 0 where
  pub entry : Rte
  pub stands : At entries entry
  pub names : prefix_named entry ≡ p
  pub metric : r.metric ≡ min (entry.metric + g.cost) infinity
  pub tag : r.tag ≡ entry.tag
  pub next_hop : ℕ
  pub origin : r.origin ≡ Learned g.iface g.from next_hop
  pub until_is : until ≡ g.moment + timeout

-- ---- hearing keeps what each offer keeps

fold_keeps : (K : Option RouteValue → Type 0) (g : Gateway) (os : List Offer) → AllByRecursion (λ o. (b : Option RouteValue) → K b → K (adopted g b o)) os
    → (b : Option RouteValue) → K b → K (fold (adopted g) b os)
fold_keeps K g [] all b k = k
fold_keeps K g (o ∷ os) all b k = fold_keeps K g os all.1 (adopted g b o) (all.0 b k)

abbrev Keeps : (Option RouteValue → Type 0) → Gateway → Offer → Type 0
Keeps K g o = (b : Option RouteValue) → K b → K (adopted g b o)

pub heard_keeps : (K : Option RouteValue → Type 0) (h : Hearing) (after : Table) (p : Prefix6)
    → ((e : Rte) → At h.entries e → prefix_named e ≡ p → (place : ℕ) (b : Option RouteValue) → K b → K (adopted h.gateway b (offer_at h.config h.gateway.from h.entries place e)))
    → Heard h after → K (map_of.get h.before p) → K (map_of.get after p)
heard_keeps K h after p step heard k =
    subst K (sym (heard.routes p))
    (fold_keeps K h.gateway (filter (λ o. nat_lt o.place (length h.entries) && not (is_refused h o.place)) (offers h.config h.gateway.from h.entries p))
    (each_filter (Keeps K h.gateway) (λ o. nat_lt o.place (length h.entries) && not (is_refused h o.place)) (offers h.config h.gateway.from h.entries p)
    (each_mapped (Keeps K h.gateway) (λ (t : ℕ × Rte). offer_at h.config h.gateway.from h.entries t.0 t.1) _
    (each_passing (λ (t : ℕ × Rte). Keeps K h.gateway (offer_at h.config h.gateway.from h.entries t.0 t.1)) (λ t. At h.entries t.1)
    (λ t. is_offer t.1 && same_prefix (prefix_named t.1) p) (λ t stands passes. step t.1 stands (same_prefix-true (prefix_named t.1) p (right (is_offer t.1) (same_prefix (prefix_named t.1) p) passes)) t.0)
    (enumerate_from 0 h.entries) (each_enumerated (λ (e : Rte). At h.entries e) 0 h.entries (each_from_places (λ (e : Rte). At h.entries e) h.entries (λ i x is. (i, is)))))))
    (map_of.get h.before p) k)
  where
    right : (a b : Bool) → (a && b) ≡ true → b ≡ true
    right true b e = e
    right false b e = absurd (cc)

-- ---- a live route

abbrev pub IsLiveFrom : Option RouteValue → Gateway → List Rte → Prefix6 → Option RouteValue → Type 0
IsLiveFrom before g entries p after =
    (r : RouteValue) (until : ℕ) → after ≡ Some r → r.clock ≡ Live until → (before ≡ Some r) ⊎ IsTaken g entries p r until

module _ (before : Option RouteValue) (g : Gateway) (entries : List Rte) (p : Prefix6) (e : Rte) (stands : At entries e) (names : prefix_named e ≡ p) (o : Offer) (o_is : o.metric ≡ e.metric) (o_tag : o.tag ≡ e.tag) where
  taken_live : (changed : Bool) → IsLiveFrom before g entries p (Some (record (taken g o) { changed = changed }))
  taken_live changed r until is clock = inr (subst (λ (x : RouteValue). IsTaken g entries p x until) same
      (record { entry = e; stands = stands; names = names; metric = ap (λ m. min (m + g.cost) infinity) o_is; tag = o_tag; next_hop = o.next_hop; origin = refl; until_is = until_of until (ap (λ (x : RouteValue). x.clock) same ∙ clock) }))
    where
      same : record (taken g o) { changed = changed } ≡ r
      same = Some-same (record (taken g o) { changed = changed }) r is

      until_of : (u : ℕ) → Live (g.moment + timeout) ≡ Live u → u ≡ g.moment + timeout
      until_of u e = cc

  lost_live : (r : RouteValue) → IsLiveFrom before g entries p (Some (lost g.moment r))
  lost_live q r until is clock = absurd (no until (ap (λ (x : RouteValue). x.clock) (Some-same (lost g.moment q) r is) ∙ clock))
    where
      no : (u : ℕ) → Dying (g.moment + garbage_time) ≡ Live u → ⊥
      no u e = cc

  pub offer_live : (b : Option RouteValue) → IsLiveFrom before g entries p b → IsLiveFrom before g entries p (adopted g b o)
  offer_live None k = by (is_reachable (metric_through g o))
    where
      by : (x : Bool) → IsLiveFrom before g entries p (cond x (Some (taken g o)) None)
      by true = taken_live true
      by false = λ r until is clock. absurd (None-Some r is)
  offer_live (Some r) k = by_clock r.clock
    where
      by_clock : (c : Clock) → IsLiveFrom before g entries p (Some (adopted_by_clock g o r c))
      by_clock Fixed = k
      by_clock (Dying until) = by (is_reachable (metric_through g o))
        where
          by : (x : Bool) → IsLiveFrom before g entries p (Some (cond x (taken g o) r))
          by true = taken_live true
          by false = k
      by_clock (Live until) = by (is_through g r.origin) (is_reachable (metric_through g o)) (is_preferred g o r.metric until)
        where
          by : (x y z : Bool) → IsLiveFrom before g entries p
              (Some (cond x (cond y (record (taken g o) { changed = r.changed || not (is_repeated g o r) }) (lost g.moment r)) (cond z (taken g o) r)))
          by true true z = taken_live (r.changed || not (is_repeated g o r))
          by true false z = lost_live r
          by false y true = taken_live true
          by false y false = k

pub heard_live : (h : Hearing) (after : Table) (p : Prefix6) → Heard h after → IsLiveFrom (map_of.get h.before p) h.gateway h.entries p (map_of.get after p)
heard_live h after p heard =
    heard_keeps (IsLiveFrom (map_of.get h.before p) h.gateway h.entries p) h after p
    (λ e stands names place b k. offer_live (map_of.get h.before p) h.gateway h.entries p e stands names (offer_at h.config h.gateway.from h.entries place e) refl refl b k)
    heard (λ r until is clock. inl is)

-- ---- a route that lasts

-- it is not lost, or has been for less than the garbage time
abbrev pub LastsBy : (ℕ → Type 0) → ℕ → Clock → Type 0
LastsBy moments last Fixed = ⊤
LastsBy moments last (Live until) = ⊤
LastsBy moments last (Dying until) = (last < until) × ((x : ℕ) × moments x × (x + garbage_time ≤ until))

abbrev pub IsLasting : (ℕ → Type 0) → ℕ → Option RouteValue → Type 0
IsLasting moments last b = (r : RouteValue) × (b ≡ Some r) × LastsBy moments last r.clock

-- it still lasts at a later moment that is near
pub lasts_on : (moments : ℕ → Type 0) (last now n : ℕ) → n ≡ max last now → ((x : ℕ) → moments x → now < x + garbage_time) → (c : Clock) → LastsBy moments last c → LastsBy moments n c
lasts_on moments last now n n_is near Fixed k = tt
lasts_on moments last now n n_is near (Live until) k = tt
lasts_on moments last now n n_is near (Dying until) k = (below n last now until (k.1.0 + garbage_time) n_is k.0 (near k.1.0 k.1.1) k.1.2, k.1)
  where
    below : (n l m u x : ℕ) → n ≡ max l m → l < u → m < x → x ≤ u → n < u
    below n l m u x a b c d = omega arith

-- lost now, it lasts
lost_lasts : (moments : ℕ → Type 0) (last now n : ℕ) → n ≡ max last now → moments now → LastsBy moments n (Dying (n + garbage_time))
lost_lasts moments last now n n_is here = (more n, (now, here, later n last now n_is))
  where
    more : (n : ℕ) → n < n + garbage_time
    more n = omega arith

    later : (n l m : ℕ) → n ≡ max l m → m + garbage_time ≤ n + garbage_time
    later n l m e = omega arith

module _ (moments : ℕ → Type 0) (last now n : ℕ) (n_is : n ≡ max last now) (here : moments now) where
  offer_lasting : (g : Gateway) → g.moment ≡ n → (o : Offer) (b : Option RouteValue) → IsLasting moments n b → IsLasting moments n (adopted g b o)
  offer_lasting g g_is o None k = absurd (None-Some k.0 k.1)
  offer_lasting g g_is o (Some r) k = by_clock r.clock refl (subst (λ (x : RouteValue). LastsBy moments n x.clock) (sym (Some-same r k.0 k.1)) k.2)
    where
      stays : LastsBy moments n r.clock → IsLasting moments n (Some r)
      stays l = (r, refl, l)

      by_clock : (c : Clock) → r.clock ≡ c → LastsBy moments n r.clock → IsLasting moments n (Some (adopted_by_clock g o r c))
      by_clock Fixed e l = stays l
      by_clock (Dying until) e l = by (is_reachable (metric_through g o))
        where
          by : (x : Bool) → IsLasting moments n (Some (cond x (taken g o) r))
          by true = (taken g o, refl, tt)
          by false = stays l
      by_clock (Live until) e l = by (is_through g r.origin) (is_reachable (metric_through g o)) (is_preferred g o r.metric until)
        where
          by : (x y z : Bool) → IsLasting moments n (Some (cond x (cond y (record (taken g o) { changed = r.changed || not (is_repeated g o r) }) (lost g.moment r)) (cond z (taken g o) r)))
          by true true z = (record (taken g o) { changed = r.changed || not (is_repeated g o r) }, refl, tt)
          by true false z = (lost g.moment r, refl, subst (λ m. LastsBy moments n (Dying (m + garbage_time))) (sym g_is) (lost_lasts moments last now n n_is here))
          by false y true = (taken g o, refl, tt)
          by false y false = stays l

  pub heard_lasting : (h : Hearing) (after : Table) (p : Prefix6) → h.gateway.moment ≡ n → Heard h after → IsLasting moments n (map_of.get h.before p) → IsLasting moments n (map_of.get after p)
  heard_lasting h after p g_is heard k =
      heard_keeps (IsLasting moments n) h after p (λ e stands names place b l. offer_lasting h.gateway g_is (offer_at h.config h.gateway.from h.entries place e) b l) heard k

  pub aged_lasting : (b : Option RouteValue) → IsLasting moments n b → IsLasting moments n (option_and_then (aged n) b)
  aged_lasting None k = absurd (None-Some k.0 k.1)
  aged_lasting (Some r) k = by_clock r.clock refl (subst (λ (x : RouteValue). LastsBy moments n x.clock) (sym (Some-same r k.0 k.1)) k.2)
    where
      by_clock : (c : Clock) → r.clock ≡ c → LastsBy moments n r.clock → IsLasting moments n (aged_by_clock n r c)
      by_clock Fixed e l = (r, refl, l)
      by_clock (Live until) e l = by (nat_le until n)
        where
          by : (x : Bool) → IsLasting moments n (cond x (Some (lost n r)) (Some r))
          by true = (lost n r, refl, lost_lasts moments last now n n_is here)
          by false = (r, refl, l)
      by_clock (Dying until) e l = (r, ap (λ b. cond b None (Some r)) (ahead until n (subst (LastsBy moments n) e l).0), l)
        where
          ahead : (u n : ℕ) → n < u → nat_le u n ≡ false
          ahead u n h = grind (arith, nat_tests)

pub unmarked_lasting : (moments : ℕ → Type 0) (n : ℕ) (b : Option RouteValue) → IsLasting moments n b → IsLasting moments n (option_and_then without_mark b)
unmarked_lasting moments n None k = absurd (None-Some k.0 k.1)
unmarked_lasting moments n (Some r) k = (record r { changed = false }, refl, subst (λ (x : RouteValue). LastsBy moments n x.clock) (sym (Some-same r k.0 k.1)) k.2)

-- ---- a live route that has aged

-- it was there before, and has time left
abbrev pub IsAged : ℕ → Option RouteValue → RouteValue → ℕ → Type 0
IsAged n b r until = (q : RouteValue) × (b ≡ Some q) × IsSame q r × (n < until)

pub aged_live : (n : ℕ) (b : Option RouteValue) (r : RouteValue) (until : ℕ) → option_and_then (aged n) b ≡ Some r → r.clock ≡ Live until → IsAged n b r until
aged_live n None r until is clock = absurd (None-Some r is)
aged_live n (Some q) r until is clock = by_clock q.clock refl is
  where
    by_clock : (c : Clock) → q.clock ≡ c → aged_by_clock n q c ≡ Some r → IsAged n (Some q) r until
    by_clock Fixed e f = absurd (no until (sym e ∙ ap (λ (x : RouteValue). x.clock) (Some-same q r f) ∙ clock))
      where
        no : (u : ℕ) → Fixed ≡ Live u → ⊥
        no u e = cc
    by_clock (Dying u) e f = by (nat_le u n) f
      where
        no : (v : ℕ) → Dying u ≡ Live v → ⊥
        no v e = cc

        by : (x : Bool) → cond x None (Some q) ≡ Some r → IsAged n (Some q) r until
        by true f = absurd (None-Some r f)
        by false f = absurd (no until (sym e ∙ ap (λ (x : RouteValue). x.clock) (Some-same q r f) ∙ clock))
    by_clock (Live u) e f = by (nat_le u n) refl f
      where
        no : (v : ℕ) → Dying (n + garbage_time) ≡ Live v → ⊥
        no v e = cc

        same_until : (v : ℕ) → Live u ≡ Live v → u ≡ v
        same_until v e = cc

        ahead : (u n : ℕ) → nat_le u n ≡ false → n < u
        ahead u n h = grind (arith, nat_tests)

        by : (x : Bool) → nat_le u n ≡ x → cond x (Some (lost n q)) (Some q) ≡ Some r → IsAged n (Some q) r until
        by true t f = absurd (no until (ap (λ (x : RouteValue). x.clock) (Some-same (lost n q) r f) ∙ clock))
        by false t f =
            let same = Some-same q r f in (
              q,
              refl,
              record { metric = ap (λ (x : RouteValue). x.metric) (sym same); tag = ap (λ (x : RouteValue). x.tag) (sym same); origin = ap (λ (x : RouteValue). x.origin) (sym same); clock = ap (λ (x : RouteValue). x.clock) (sym same) },
              subst (λ v. n < v) (same_until until (sym e ∙ ap (λ (x : RouteValue). x.clock) same ∙ clock)) (ahead u n t),
            )

pub unmarked_live : (n : ℕ) (b : Option RouteValue) (r : RouteValue) (until : ℕ) → option_and_then without_mark (option_and_then (aged n) b) ≡ Some r → r.clock ≡ Live until → IsAged n b r until
unmarked_live n b r until is clock = by (option_and_then (aged n) b) refl is
  where
    by : (o : Option RouteValue) → option_and_then (aged n) b ≡ o → option_and_then without_mark o ≡ Some r → IsAged n b r until
    by None e f = absurd (None-Some r f)
    by (Some x) e f =
        let same = Some-same (record x { changed = false }) r f in
        let a = aged_live n b x until e (ap (λ (y : RouteValue). y.clock) same ∙ clock) in (
          a.0,
          a.1,
          record {
            metric = ap (λ (y : RouteValue). y.metric) (sym same) ∙ a.2.metric;
            tag = ap (λ (y : RouteValue). y.tag) (sym same) ∙ a.2.tag;
            origin = ap (λ (y : RouteValue). y.origin) (sym same) ∙ a.2.origin;
            clock = ap (λ (y : RouteValue). y.clock) (sym same) ∙ a.2.clock;
          },
          a.3,
        )
