-- Within a round, no metric rises, and each offer heard is an upper bound from then on.
use Rattle.std.proofs.Common.{◌≡◌, ◌≢◌, ℕ, suc, ◌+◌, min, max, ◌<◌, ◌≤◌, Bool, true, false, cond, not, ◌&&◌, ◌||◌, ◌==◌, nat_lt, nat_le, List, [], ◌∷◌, length, fold, Option, Some, None, option_map, slice_get, refl, ap, ap₂, sym, subst, ◌∙◌, arith, le_refl, le_trans}
use Rattle.std.specs.Prelude.{⊤}
use Rattle.std.specs.List.{AllByRecursion}
use Rattle.std.specs.FinMap as map_of
use Rattle.std.proofs.lemmas.Bool.{ltb-true, lt-ltb, eqb-true}
use Rattle.std.proofs.lemmas.Bool.Decides.{nat_tests}
use Rattle.prefix6.specs.Prefix.{Prefix6, cleared}
use Rattle.route_table.specs.Route.{RouteValue, infinity}
use Rattle.route_table.specs.declared.route.Origin.{Origin}
use Rattle.route_table.specs.declared.route.Origin.TheVariants.{Own, Learned}
use Rattle.route_table.specs.declared.route.Clock.{Clock}
use Rattle.route_table.specs.declared.route.Clock.TheVariants.{Fixed, Live}
use Rattle.route_table.proofs.TableLaws.{Some-same}
use Rattle.router_core.specs.Offers.{Offer}
use Rattle.router_core.specs.Adoption.{Gateway, adopted, adopted_by_clock, refreshed, taken, lost, metric_through, is_reachable, is_through, is_preferred, is_repeated}
use Rattle.router_core.specs.Timers.{timeout, half_timeout}
use Rattle.router_core.specs.Output.{is_learned_on}
use Rattle.router_core.specs.Machine.{State}
use Rattle.ripng_world.specs.Network.{Network, AreLinked, Owns, interface_at, HasDistinctAddresses}
use Rattle.ripng_world.specs.Walks.{Hop, Reaches, cost_of_interface, end_of}
use Rattle.ripng_world.specs.Truth.{IsNeighbor}
use Rattle.ripng_world.specs.World.{World}
use Rattle.ripng_world.proofs.RoundNeighbors.{one_sender}

-- a router of a world has this route
abbrev pub RouteAt : World → ℕ → Prefix6 → RouteValue → Type 0
RouteAt w router p r = (s : State) × (slice_get w.states router ≡ Some s) × (map_of.get s.table p ≡ Some r)

pub one_route : (w : World) (router : ℕ) (p : Prefix6) (a b : RouteValue) → RouteAt w router p a → RouteAt w router p b → a ≡ b
one_route w router p a b x y =
    let same : x.0 ≡ y.0 = Some-same x.0 y.0 (sym x.1 ∙ y.1) in
    Some-same a b (sym x.2 ∙ ap (λ (s : State). map_of.get s.table p) same ∙ y.2)

-- the gateway's own route, at the beginning of the round, is lower by at least the cost, and is not poisoned there
pub record IsTight (net : Network) (base : World) (router : ℕ) (p : Prefix6) (iface from metric : ℕ) : Type 0 where
  pub sender : ℕ
  pub sender_iface : ℕ
  pub route : RouteValue
  pub linked : AreLinked net router iface sender sender_iface
  pub apart : router ≢ sender
  pub from_is : option_map (λ i. i.interface.addr) (interface_at net sender sender_iface) ≡ Some from
  pub at : RouteAt base sender p route
  pub unpoisoned : is_learned_on sender_iface route.origin ≡ false
  pub above : cost_of_interface net router iface + route.metric ≤ metric

-- the route will not expire before these moments are over
pub record IsTimely (moments : ℕ → Type 0) (last until : ℕ) : Type 0 where
  pub ahead : last < until
  pub since : ℕ
  pub of_router : moments since
  pub within : since + timeout ≤ until

abbrev pub HasShape : Network → World → (ℕ → Type 0) → ℕ → ℕ → Prefix6 → ℕ → Clock → Origin → Type 0
HasShape net base moments router last p metric clock Own = (clock ≡ Fixed) × (metric ≡ 1)
HasShape net base moments router last p metric clock (Learned iface from next_hop) =
    (until : ℕ) × (clock ≡ Live until) × IsTight net base router p iface from metric × IsTimely moments last until

-- a route of a network in synchronous rounds
pub record IsFine (net : Network) (base : World) (k : ℕ) (moments : ℕ → Type 0) (router last : ℕ) (p : Prefix6) (r : RouteValue) : Type 0 where
  pub is_prefix : cleared p.addr p.len ≡ p
  pub walk : List Hop
  pub hops : length walk ≤ k
  pub reaches : Reaches net router p r.metric r.tag walk
  pub low : r.metric < infinity
  pub positive : 1 ≤ r.metric
  pub shape : HasShape net base moments router last p r.metric r.clock r.origin

-- what a router tells on an interface of its route at the beginning of the round
pub record IsToldOffer (net : Network) (base : World) (k sender sender_iface : ℕ) (g : Gateway) (p : Prefix6) (o : Offer) : Type 0 where
  pub route : RouteValue
  pub at : RouteAt base sender p route
  pub is_prefix : cleared p.addr p.len ≡ p
  pub walk : List Hop
  pub hops : length walk ≤ k
  pub reaches : Reaches net sender p route.metric route.tag walk
  pub positive : 1 ≤ route.metric
  pub metric : o.metric ≡ cond (is_learned_on sender_iface route.origin) infinity route.metric
  pub tag : o.tag ≡ route.tag

module _ (net : Network) (distinct : HasDistinctAddresses net) (base : World) (k : ℕ) (moments : ℕ → Type 0) (router last : ℕ)
    (g : Gateway) (sender sender_iface : ℕ) (near : IsNeighbor net router g sender sender_iface)
    (current : ℕ → Type 0) (among : (x : ℕ) → current x → moments x) (now_is : ℕ) (now_of : current now_is) (now_max : g.moment ≡ max last now_is)
    (close : (x : ℕ) → moments x → now_is < x + timeout) (p : Prefix6) where
  abbrev Fine : RouteValue → Type 0
  Fine r = IsFine net base (suc k) moments router g.moment p r

  -- an unpoisoned offer of a route
  told_metric : (o : Offer) (t : IsToldOffer net base k sender sender_iface g p o) → o.metric < infinity
      → (is_learned_on sender_iface t.route.origin ≡ false) × (o.metric ≡ t.route.metric)
  told_metric o t low = by_poison (is_learned_on sender_iface t.route.origin) refl t.metric
    where
      by_poison : (b : Bool) → is_learned_on sender_iface t.route.origin ≡ b → o.metric ≡ cond b infinity t.route.metric
          → (is_learned_on sender_iface t.route.origin ≡ false) × (o.metric ≡ t.route.metric)
      by_poison true is e = absurd (omega arith)
      by_poison false is e = (is, e)

  below_16 : (m d : ℕ) → min (m + d) 16 < 16 → (m < 16) × (min (m + d) 16 ≡ m + d)
  below_16 m d h = (omega arith, omega arith)

  taken_fine : (o : Offer) → IsToldOffer net base k sender sender_iface g p o → metric_through g o < infinity → Fine (taken g o)
  taken_fine o t low =
      let b = below_16 o.metric g.cost low in
      let m = told_metric o t b.0 in
      let sum : cost_of_interface net router g.iface + t.route.metric ≡ metric_through g o = total o.metric t.route.metric g.cost (cost_of_interface net router g.iface) (metric_through g o) m.1 near.cost b.1 in
      record {
        is_prefix = t.is_prefix;
        walk = record { iface = g.iface; router = sender; router_iface = sender_iface } ∷ t.walk;
        hops = more (length t.walk) k t.hops;
        reaches = record {
          is_walk = ((near.apart, near.linked), t.reaches.is_walk);
          costs = ap (λ c. cost_of_interface net router g.iface + c) t.reaches.costs ∙ sum;
          owner = subst (λ tag. Owns net (end_of sender t.walk) p tag) (sym t.tag) t.reaches.owner;
        };
        low = low;
        positive = at_least_one t.route.metric (cost_of_interface net router g.iface) (metric_through g o) sum t.positive;
        shape = (
          g.moment + timeout,
          refl,
          record { sender = sender; sender_iface = sender_iface; route = t.route; linked = near.linked; apart = near.apart; from_is = near.from; at = t.at; unpoisoned = m.0; above = le_from sum },
          record { ahead = omega arith; since = now_is; of_router = among now_is now_of; within = omega arith },
        );
      }
    where
      total : (m r d c n : ℕ) → m ≡ r → d ≡ c → n ≡ m + d → c + r ≡ n
      total m r d c n e f h = omega arith

      more : (l k : ℕ) → l ≤ k → suc l ≤ suc k
      more l k h = omega arith

      at_least_one : (r c n : ℕ) → c + r ≡ n → 1 ≤ r → 1 ≤ n
      at_least_one r c n e h = omega arith

      le_from : {a b : ℕ} → a ≡ b → a ≤ b
      le_from e = omega arith

  -- time goes on, and a fine route has not expired
  pub waits : (r : RouteValue) → IsFine net base (suc k) moments router last p r → Fine r
  waits r f =
      record {
        is_prefix = f.is_prefix;
        walk = f.walk;
        hops = f.hops;
        reaches = f.reaches;
        low = f.low;
        positive = f.positive;
        shape = by_origin r.origin f.shape;
      }
    where
      later : (until : ℕ) → IsTimely moments last until → IsTimely moments g.moment until
      later until t = let c = close t.since t.of_router in record { ahead = before last now_is g.moment until t.since now_max t.ahead c t.within; since = t.since; of_router = t.of_router; within = t.within }
        where
          before : (a b n u s : ℕ) → n ≡ max a b → a < u → b < s + timeout → s + timeout ≤ u → n < u
          before a b n u s e f g h = omega arith

      by_origin : (x : Origin) → HasShape net base moments router last p r.metric r.clock x → HasShape net base moments router g.moment p r.metric r.clock x
      by_origin Own s = s
      by_origin (Learned i h n) s = (s.0, s.1, s.2, later s.0 s.3)

  abbrev pub FineOption : Option RouteValue → Type 0
  FineOption None = ⊤
  FineOption (Some r) = Fine r

  -- there is still a route, and at no higher metric
  abbrev pub IsBetter : Option RouteValue → Option RouteValue → Type 0
  IsBetter None b = ⊤
  IsBetter (Some r) None = ⊥
  IsBetter (Some r) (Some s) = s.metric ≤ r.metric

  -- the clock was set in this round
  abbrev pub IsFresh : Clock → Type 0
  IsFresh c = (until : ℕ) × (x : ℕ) × (c ≡ Live until) × current x × (x + timeout ≤ until)

  abbrev pub IsFreshThrough : Gateway → Option RouteValue → Type 0
  IsFreshThrough h None = ⊤
  IsFreshThrough h (Some r) = is_through h r.origin ≡ true → IsFresh r.clock

  pub record IsStep (o : Offer) (a b : Option RouteValue) : Type 0 where
    pub fine : FineOption b
    pub better : IsBetter a b
    pub fresh : (h : Gateway) → IsFreshThrough h a → IsFreshThrough h b
    pub reached : metric_through g o < infinity → (r : RouteValue) × (b ≡ Some r) × (r.metric ≤ metric_through g o) × IsFreshThrough g b

  marked : Bool → Offer → RouteValue
  marked c o = record (taken g o) { changed = c }

  new_clock : IsFresh (Live (g.moment + timeout))
  new_clock = (g.moment + timeout, now_is, refl, now_of, omega arith)

  takes : (o : Offer) → IsToldOffer net base k sender sender_iface g p o → metric_through g o < infinity → (c : Bool) → (a : Option RouteValue)
      → IsBetter a (Some (taken g o)) → IsStep o a (Some (record (taken g o) { changed = c }))
  takes o t low c a better =
      let f : Fine (taken g o) = taken_fine o t low in
      record {
        fine = record { is_prefix = f.is_prefix; walk = f.walk; hops = f.hops; reaches = f.reaches; low = f.low; positive = f.positive; shape = f.shape };
        better = still a better;
        fresh = λ h _ _. new_clock;
        reached = λ _. (record (taken g o) { changed = c }, refl, le_refl _, λ _. new_clock);
      }
    where
      still : (a : Option RouteValue) → IsBetter a (Some (taken g o)) → IsBetter a (Some (record (taken g o) { changed = c }))
      still None b = tt
      still (Some r) b = b

  stays : (o : Offer) → (r : RouteValue) → Fine r → (metric_through g o < infinity → r.metric ≤ metric_through g o) → is_through g r.origin ≡ false → IsStep o (Some r) (Some r)
  stays o r f below other =
      record {
        fine = f;
        better = le_refl _;
        fresh = λ h was. was;
        reached = λ low. (r, refl, below low, λ through. absurd (clash (sym through ∙ other)));
      }
    where
      clash : true ≡ false → ⊥
      clash e = cc

  -- the gateway of a tight route is the sender
  same_gateway : (iface from metric : ℕ) → IsTight net base router p iface from metric → iface ≡ g.iface → from ≡ g.from
      → (o : Offer) → IsToldOffer net base k sender sender_iface g p o → metric < infinity → (metric_through g o < infinity) × (metric_through g o ≤ metric)
  same_gateway iface from metric t i f o told low =
      let one = one_sender net distinct router g.iface g.from t.sender t.sender_iface sender sender_iface
      (subst (λ x. AreLinked net router x t.sender t.sender_iface) i t.linked) near.linked (t.from_is ∙ ap Some f) near.from in
      let same : t.route ≡ told.route = one_route base sender p t.route told.route (subst (λ s. RouteAt base s p t.route) one.0 t.at) told.at in
      let clean : is_learned_on sender_iface told.route.origin ≡ false =
      ap₂ (λ j (r : RouteValue). is_learned_on j r.origin) (sym one.1) (sym same) ∙ t.unpoisoned in
      let m : o.metric ≡ told.route.metric = told.metric ∙ ap (λ b. cond b infinity told.route.metric) clean in
      let same_metric : t.route.metric ≡ told.route.metric = ap (λ (r : RouteValue). r.metric) same in
      through o.metric told.route.metric t.route.metric g.cost (cost_of_interface net router iface) metric m same_metric (near.cost ∙ ap (cost_of_interface net router) (sym i)) t.above low
    where
      through : (m r t c d n : ℕ) → m ≡ r → t ≡ r → c ≡ d → d + t ≤ n → n < 16 → (min (m + c) 16 < 16) × (min (m + c) 16 ≤ n)
      through m r t c d n e f g h l = (omega arith, omega arith)

  pub offered : (o : Offer) → IsToldOffer net base k sender sender_iface g p o → (a : Option RouteValue) → FineOption a → IsStep o a (adopted g a o)
  offered o t None f = by_reach (is_reachable (metric_through g o)) refl
    where
      by_reach : (b : Bool) → is_reachable (metric_through g o) ≡ b → IsStep o None (cond b (Some (taken g o)) None)
      by_reach true is = takes o t (ltb-true (metric_through g o) infinity is) true None tt
      by_reach false is = record { fine = tt; better = tt; fresh = λ h was. tt; reached = λ low. absurd (clash (sym (lt-ltb (metric_through g o) infinity low) ∙ is)) }
        where
          clash : true ≡ false → ⊥
          clash e = cc
  offered o t (Some r) f = by_origin r.origin refl f.shape
    where
      preferred_low : (until m a : ℕ) → (nat_lt m a || (m == a && nat_le until (g.moment + half_timeout))) ≡ true → m ≤ a
      preferred_low until m a e = grind (arith, nat_tests)

      not_preferred : (until m a : ℕ) → (nat_lt m a || (m == a && nat_le until (g.moment + half_timeout))) ≡ false → a ≤ m
      not_preferred until m a e = grind (arith, nat_tests)

      and_left : (a b : Bool) → (a && b) ≡ true → a ≡ true
      and_left true b e = refl
      and_left false b e = e

      and_right : (a b : Bool) → (a && b) ≡ true → b ≡ true
      and_right true b e = e
      and_right false b e = absurd (cc)

      by_origin : (x : Origin) → r.origin ≡ x → HasShape net base moments router g.moment p r.metric r.clock x → IsStep o (Some r) (Some (adopted_by_clock g o r r.clock))
      by_origin Own is s =
          subst (λ c. IsStep o (Some r) (Some (adopted_by_clock g o r c))) (sym s.0)
          (stays o r f (λ low. let b = below_16 o.metric g.cost low in at_least o.metric t.route.metric g.cost r.metric s.1 t.positive (told_metric o t b.0).1 b.1) (ap (is_through g) is))
        where
          at_least : (m r c a : ℕ) → a ≡ 1 → 1 ≤ r → m ≡ r → min (m + c) 16 ≡ m + c → a ≤ min (m + c) 16
          at_least m r c a e f g h = omega arith
      by_origin (Learned iface from h) is s =
          subst (λ c. IsStep o (Some r) (Some (adopted_by_clock g o r c))) (sym s.1) (by_gateway (is_through g r.origin) refl)
        where
          by_preference : (b : Bool) → is_preferred g o r.metric s.0 ≡ b → is_through g r.origin ≡ false → IsStep o (Some r) (Some (cond b (taken g o) r))
          by_preference true pref other =
              let lower = preferred_low s.0 (metric_through g o) r.metric pref in
              takes o t (below lower f.low) true (Some r) lower
            where
              below : {a b c : ℕ} → a ≤ b → b < c → a < c
              below u v = omega arith
          by_preference false pref other = stays o r f (λ _. not_preferred s.0 (metric_through g o) r.metric pref) other

          by_gateway : (b : Bool) → is_through g r.origin ≡ b → IsStep o (Some r) (Some (cond b (refreshed g o r) (cond (is_preferred g o r.metric s.0) (taken g o) r)))
          by_gateway true through =
              let e : (iface == g.iface && from == g.from) ≡ true = sym (ap (is_through g) is) ∙ through in
              let same = same_gateway iface from r.metric s.2 (eqb-true iface g.iface (and_left (iface == g.iface) (from == g.from) e)) (eqb-true from g.from (and_right (iface == g.iface) (from == g.from) e)) o t f.low in
              subst (λ b. IsStep o (Some r) (Some (cond b (record (taken g o) { changed = r.changed || not (is_repeated g o r) }) (lost g.moment r)))) (sym (lt-ltb (metric_through g o) infinity same.0))
              (takes o t same.0 (r.changed || not (is_repeated g o r)) (Some r) same.1)
          by_gateway false other = by_preference (is_preferred g o r.metric s.0) refl other

  -- all offers of one datagram for the prefix, and the first of them if there is one
  abbrev pub AllTold : List Offer → Type 0
  AllTold os = AllByRecursion (IsToldOffer net base k sender sender_iface g p) os

  pub better_trans : (a b c : Option RouteValue) → IsBetter a b → IsBetter b c → IsBetter a c
  better_trans None b c x y = tt
  better_trans (Some r) None c x y = absurd x
  better_trans (Some r) (Some s) None x y = absurd y
  better_trans (Some r) (Some s) (Some t) x y = le_trans y x

  pub better_refl : (a : Option RouteValue) → IsBetter a a
  better_refl None = tt
  better_refl (Some r) = le_refl _

  pub record IsHeardStep (a b : Option RouteValue) : Type 0 where
    pub fine : FineOption b
    pub better : IsBetter a b
    pub fresh : (h : Gateway) → IsFreshThrough h a → IsFreshThrough h b

  pub all_offered : (os : List Offer) → AllTold os → (a : Option RouteValue) → FineOption a → IsHeardStep a (fold (adopted g) a os)
  all_offered [] all a f = record { fine = f; better = better_refl a; fresh = λ h was. was }
  all_offered (o ∷ os) all a f =
      let one : IsStep o a (adopted g a o) = offered o all.0 a f in
      let rest : IsHeardStep (adopted g a o) (fold (adopted g) (adopted g a o) os) = all_offered os all.1 (adopted g a o) one.fine in
      record { fine = rest.fine; better = better_trans a (adopted g a o) _ one.better rest.better; fresh = λ h was. rest.fresh h (one.fresh h was) }

  -- an offer that is heard bounds the metric from then on
  abbrev pub IsBounded : ℕ → Option RouteValue → Type 0
  IsBounded bound b = (r : RouteValue) × (b ≡ Some r) × (r.metric ≤ bound) × IsFreshThrough g b

  pub bounded : (o : Offer) (os : List Offer) → IsToldOffer net base k sender sender_iface g p o → AllTold os → metric_through g o < infinity
      → (a : Option RouteValue) → FineOption a → IsBounded (metric_through g o) (fold (adopted g) (adopted g a o) os)
  bounded o os t all low a f =
      let one : IsStep o a (adopted g a o) = offered o t a f in
      let rest = all_offered os all (adopted g a o) one.fine in
      let at = one.reached low in
      by_end (fold (adopted g) (adopted g a o) os) at.0 at.2 (subst (λ (x : Option RouteValue). IsBetter x (fold (adopted g) (adopted g a o) os)) at.1 rest.better) (rest.fresh g at.3)
    where
      by_end : (b : Option RouteValue) (r : RouteValue) → r.metric ≤ metric_through g o → IsBetter (Some r) b → IsFreshThrough g b
          → (s : RouteValue) × (b ≡ Some s) × (s.metric ≤ metric_through g o) × IsFreshThrough g b
      by_end None r below better fresh = absurd better
      by_end (Some s) r below better fresh = (s, refl, le_trans better below, fresh)
