-- Where what is held is backed, a route that is no dearer than a walk stays so: its gateway tells it, or hides it for a better walk.
use Rattle.std.proofs.Common.{◌≡◌, ◌⊎◌, inl, inr, ℕ, ◌+◌, min, ◌<◌, ◌≤◌, ◌==◌, Bool, true, false, cond, not, ◌&&◌, ◌||◌, nat_lt, nat_le, List, ◌∷◌, length, Option, Some, None, slice_get, refl, ap, sym, subst, ◌∙◌, arith, le_trans}
use Rattle.std.specs.FinMap as map_of
use Rattle.std.proofs.lemmas.Bool.{eq-eqb, eqb-true}
use Rattle.std.proofs.lemmas.Bool.Decides.{nat_tests}
use Rattle.prefix6.specs.Prefix.{Prefix6}
use Rattle.ripng_wire.specs.declared.rte.Rte.{Rte}
use Rattle.ripng_wire.specs.declared.rte.Command.TheVariants.{Response}
use Rattle.ripng_wire.specs.Layout.{Spells}
use Rattle.route_table.specs.Route.{RouteValue, infinity}
use Rattle.route_table.specs.declared.route.Clock.{Clock}
use Rattle.route_table.specs.declared.route.Clock.TheVariants.{Fixed, Live, Dying}
use Rattle.route_table.specs.declared.route.Origin.TheVariants.{Own}
use Rattle.route_table.specs.Table.{Table}
use Rattle.route_table.proofs.TableLaws.{Some-same, None-Some}
use Rattle.router_core.specs.Adoption.{Gateway, adopted, adopted_by_clock, taken, lost, metric_through, is_reachable, is_through, is_preferred, is_repeated}
use Rattle.router_core.specs.Announcing.{is_announced}
use Rattle.router_core.specs.Config.{Config}
use Rattle.router_core.specs.Hearing.{Hearing, Heard}
use Rattle.router_core.specs.Machine.{State}
use Rattle.router_core.specs.Offers.{Offer, offer_at, prefix_named}
use Rattle.router_core.specs.Output.{is_learned_on}
use Rattle.router_core.specs.Timers.{timeout, half_timeout}
use Rattle.ripng_world.specs.Network.{Network, AreLinked}
use Rattle.ripng_world.specs.Walks.{Hop, Reaches, cost_of_interface}
use Rattle.ripng_world.specs.World.{World}
use Rattle.ripng_world.specs.declared.network.NetInterface.{NetInterface}
use Rattle.ripng_world.specs.declared.event.Sent.{Sent}
use Rattle.ripng_world.proofs.Each.{each_at_place}
use Rattle.ripng_world.proofs.HealHearing.{AreFew}
use Rattle.ripng_world.proofs.HealPlain.{IsClocked}
use Rattle.ripng_world.proofs.Improving.{RouteAt}
use Rattle.ripng_world.proofs.Members.{At, get_right}
use Rattle.ripng_phases.proofs.Bounding.{SaidAbove}
use Rattle.ripng_phases.proofs.Held.{AllHeld}
use Rattle.ripng_phases.proofs.Lasting.{sent_before}
use Rattle.ripng_phases.proofs.Lower.{IsPositive, NoneOld}
use Rattle.ripng_phases.proofs.Orderly.{IsOrderly, IsOrderlyBy}
use Rattle.ripng_phases.proofs.Resting.{IsAbove, IsRestingOn, rests_low}
use Rattle.ripng_phases.proofs.Rows.{heard_keeps}
use Rattle.ripng_phases.proofs.Sending.{IsToldTruly, TellsTruly}
use Rattle.ripng_phases.proofs.Telling.{IsTrueOf}

-- a walk that is cheaper
abbrev pub HasBetter : Network → ℕ → Prefix6 → ℕ → Type 0
HasBetter net router p bound = (c : ℕ) × (tag : ℕ) × (walk : List Hop) × Reaches net router p c tag walk × (c < bound)

pub cheaper : (net : Network) (router : ℕ) (p : Prefix6) (n k : ℕ) → k ≤ n → HasBetter net router p k → HasBetter net router p n
cheaper net router p n k a b = (b.0, b.1, b.2, b.3, under b.0 k n b.4 a)
  where
    under : (x y z : ℕ) → x < y → y ≤ z → x < z
    under x y z e f = omega arith

-- a route that is no dearer
abbrev pub Has : World → ℕ → Prefix6 → ℕ → Type 0
Has w router p metric = (r : RouteValue) × RouteAt w router p r × (r.metric ≤ metric)

-- for each walk of at most that cost there is one
abbrev pub Found : Network → World → ℕ → Type 0
Found net w d = (router : ℕ) (p : Prefix6) (metric tag : ℕ) (walk : List Hop) → Reaches net router p metric tag walk → metric ≤ d → metric < infinity → Has w router p metric

-- whoever hears the interface has a walk that is cheaper than through it
abbrev pub Hidden : Network → ℕ → ℕ → Prefix6 → ℕ → Type 0
Hidden net sender sender_iface p c = (router iface : ℕ) → AreLinked net router iface sender sender_iface → HasBetter net router p (cost_of_interface net router iface + c)

-- what was told since that number is no dearer than a walk of at most that cost, or hidden
abbrev pub SaidFull : Network → World → ℕ → ℕ → Type 0
SaidFull net w first d =
    (i : ℕ) (x : Sent) → first ≤ i → slice_get w.sent i ≡ Some x → (entries : List Rte) → Spells Response entries x.bytes → (e : Rte) → At entries e
    → (c tag : ℕ) (walk : List Hop) → Reaches net x.router (prefix_named e) c tag walk → c ≤ d → c < infinity → (e.metric ≤ c) ⊎ Hidden net x.router x.iface (prefix_named e) c

split : (a b : ℕ) → (b ≤ a) ⊎ (a < b)
split a b = grind arith

module _ (net : Network) (known : Prefix6 → Type 0) (positive : IsPositive net) where
  -- a gateway's walk, with the hop to it
  abbrev pub WalkFrom : ℕ → ℕ → Prefix6 → ℕ → Type 0
  WalkFrom c sender p n = (z : ℕ) × (tag : ℕ) × (walk : List Hop) × Reaches net sender p z tag walk × (c + z ≤ n)

  module _ (v : World) (orderly : IsOrderly net known v) (first : ℕ) (moments : ℕ → ℕ → Type 0) (held : AllHeld net v first moments NoneOld) (m : ℕ) (said : SaidAbove net v first m) where
    -- what a live route of at most the bound rests on has a walk
    pub backed_by : (router : ℕ) (p : Prefix6) (r : RouteValue) → r.metric < infinity → r.metric ≤ m → (x : IsRestingOn net v first router p r) → WalkFrom (cost_of_interface net router x.iface) x.sent.router p r.metric
    backed_by router p r low few x =
        elim (said x.datagram x.sent x.recent x.sent_is x.entries x.spelled x.entry x.stands (rests_low net v first router p r x low)) [
          | inl y ↦ absurd (no (cost_of_interface net router x.iface) x.entry.metric r.metric m x.metric low few (positive router x.iface x.linked.here x.linked.here_is) y)
          | inr y ↦ (
            y.0,
            y.1,
            y.2,
            subst (λ (q : Prefix6). Reaches net x.sent.router q y.0 y.1 y.2) x.names y.3,
            within (cost_of_interface net router x.iface) y.0 x.entry.metric r.metric x.metric low y.4,
          )
        ]
      where
        no : (c e n m : ℕ) → n ≡ min (e + c) 16 → n < 16 → n ≤ m → 1 ≤ c → m ≤ e → ⊥
        no c e n m a b d f g = omega arith

        within : (c z e n : ℕ) → n ≡ min (e + c) 16 → n < 16 → z ≤ e → c + z ≤ n
        within c z e n a b d = omega arith

    across : (a i b j c l : ℕ) → AreLinked net a i b j → AreLinked net b j c l → AreLinked net a i c l
    across a i b j c l x y =
        let same : x.there ≡ y.here = Some-same x.there y.here (sym x.there_is ∙ y.here_is) in
        record { here = x.here; there = y.there; here_is = x.here_is; there_is = y.there_is; same_link = x.same_link ∙ ap (λ (i : NetInterface). i.link) same ∙ y.same_link }

    -- who hides a route has its gateway on the link
    pub hidden : (sender sender_iface : ℕ) (p : Prefix6) (c : ℕ) → c ≤ m → c < infinity → (q : RouteValue) → RouteAt v sender p q → q.metric ≤ c → is_learned_on sender_iface q.origin ≡ true → Hidden net sender sender_iface p c
    hidden sender sender_iface p c few low q at le learned router iface linked =
        let s = orderly.states sender at.0 at.1 in
        by_clock q.clock refl (s.plain p q at.2).clocked (s.by_clock p q at.2)
      where
        not_learned : q.origin ≡ Own → ⊥
        not_learned e = no (sym learned ∙ ap (is_learned_on sender_iface) e)
          where
            no : true ≡ false → ⊥
            no e = cc

        dead : (a b : ℕ) → a ≡ 16 → a ≤ b → b < 16 → ⊥
        dead a b e f g = omega arith

        small : (a b : ℕ) → a ≤ b → b < 16 → a < 16
        small a b e f = omega arith

        less : (c k z q x : ℕ) → 1 ≤ k → k + z ≤ q → q ≤ x → z < c + x
        less c k z q x a b e = omega arith

        less_by : (c k z q x : ℕ) → 1 ≤ k → k + z ≤ q → q ≤ x → c + z < c + x
        less_by c k z q x a b e = omega arith

        clash : true ≡ false → ⊥
        clash e = cc

        by_clock : (k : Clock) → q.clock ≡ k → IsClocked q.metric k → IsOrderlyBy net sender at.0.last p q k → HasBetter net router p (cost_of_interface net router iface + c)
        by_clock Fixed e k own = absurd (not_learned own.0)
        by_clock (Dying until) e k own = absurd (dead q.metric c k le low)
        by_clock (Live until) e k own = elim (held sender p q until at e) [ inl x ↦ by_rests x.rests | inr x ↦ absurd x ]
          where
            by_rests : IsRestingOn net v first sender p q → HasBetter net router p (cost_of_interface net router iface + c)
            by_rests x =
                let z = backed_by sender p q (small q.metric c le low) (le_trans le few) x in
                let same : x.iface ≡ sender_iface = eqb-true x.iface sender_iface (sym (ap (is_learned_on sender_iface) x.origin) ∙ learned) in
                let one = positive sender x.iface x.linked.here x.linked.here_is in
                let near : AreLinked net router iface x.sent.router x.sent.iface =
                across router iface sender sender_iface x.sent.router x.sent.iface linked (subst (λ j. AreLinked net sender j x.sent.router x.sent.iface) same x.linked) in
                by_router z one near (router == x.sent.router) refl
              where
                by_router : (z : WalkFrom (cost_of_interface net sender x.iface) x.sent.router p q.metric) → 1 ≤ cost_of_interface net sender x.iface → AreLinked net router iface x.sent.router x.sent.iface
                    → (b : Bool) → (router == x.sent.router) ≡ b → HasBetter net router p (cost_of_interface net router iface + c)
                by_router z one near true e =
                    (z.0, z.1, z.2, subst (λ r. Reaches net r p z.0 z.1 z.2) (sym (eqb-true router x.sent.router e)) z.3, less (cost_of_interface net router iface) (cost_of_interface net sender x.iface) z.0 q.metric c one z.4 le)
                by_router z one near false e = (
                  cost_of_interface net router iface + z.0,
                  z.1,
                  record { iface = iface; router = x.sent.router; router_iface = x.sent.iface } ∷ z.2,
                  record {
                    is_walk = ((λ (s : router ≡ x.sent.router). clash (sym (eq-eqb router x.sent.router s) ∙ e), near), z.3.is_walk);
                    costs = ap (λ n. cost_of_interface net router iface + n) z.3.costs;
                    owner = z.3.owner;
                  },
                  less_by (cost_of_interface net router iface) (cost_of_interface net sender x.iface) z.0 q.metric c one z.4 le,
                )

    -- what is told where all is found
    pub told_full : AreFew net known → (u : World) → TellsTruly u v → (number d : ℕ) → d ≤ m → Found net v d → SaidFull net u number d → SaidFull net v number d
    told_full fits u tells number d few found full i x late is entries spelled e stands c tag walk reach le low =
        elim (split i (length u.sent)) [
          | inl new ↦ of_new (get_right u.sent tells.0 i x new (ap (λ (ds : List Sent). slice_get ds i) (sym tells.1) ∙ is))
          | inr old ↦ full i x late (sent_before u v tells.0 tells.1 i x old is) entries spelled e stands c tag walk reach le low
        ]
      where
        of_new : At tells.0 x → (e.metric ≤ c) ⊎ Hidden net x.router x.iface (prefix_named e) c
        of_new a =
            let told : IsToldTruly v x = each_at_place (IsToldTruly v) tells.0 tells.2 a.0 x a.1 in
            let f = found x.router (prefix_named e) c tag walk reach le low in
            let at : map_of.get told.0.table (prefix_named e) ≡ Some f.0 = ap (λ (s : State). map_of.get s.table (prefix_named e)) (Some-same told.0 f.1.0 (sym told.1 ∙ f.1.1)) ∙ f.1.2 in
            let s = orderly.states x.router told.0 told.1 in
            let out : is_announced told.0.config x.iface (prefix_named e) ≡ true =
            ap (λ (c : Config). is_announced c x.iface (prefix_named e)) s.config_is ∙ fits.taken.announced x.router x.iface s.node (prefix_named e) s.node_is (s.plain (prefix_named e) f.0 at).is_known in
            elim ((each_at_place (IsTrueOf told.0.config told.0.table x.iface) entries (told.2 entries spelled) stands.0 e stands.1).full out f.0 at) [
              | inl same ↦ inl (subst (λ n. n ≤ c) (sym same) f.2)
              | inr learned ↦ inr (hidden x.router x.iface (prefix_named e) c (le_trans le few) low f.0 f.1 f.2 learned)
            ]

-- ---- one datagram

module _ (net : Network) (known : Prefix6 → Type 0) (positive : IsPositive net) (sender : ℕ) (g : Gateway) (some : 1 ≤ g.cost) (p : Prefix6) (bound m : ℕ) (low : bound < infinity) (few : bound ≤ m) (X : Type 0) where
  abbrev From : ℕ → Type 0
  From n = WalkFrom net known positive g.cost sender p n

  abbrev IsUp : Clock → Type 0
  IsUp c = (until : ℕ) → c ≡ Dying until → ⊥

  -- a route that is no dearer than the bound, and backed if it is through the gateway
  pub record IsFound (r : RouteValue) : Type 0 where
    pub le : r.metric ≤ bound
    pub up : (until : ℕ) → r.clock ≡ Dying until → ⊥
    pub from : is_through g r.origin ≡ true → WalkFrom net known positive g.cost sender p r.metric

  abbrev pub Stays : Option RouteValue → Type 0
  Stays b = ((r : RouteValue) × (b ≡ Some r) × IsFound r) ⊎ X

  -- what an entry of the datagram has to be
  pub record IsFair (e : Rte) : Type 0 where
    pub above : e.metric < infinity → IsAbove net m sender p e.metric
    pub full : (z tag : ℕ) (walk : List Hop) → Reaches net sender p z tag walk → g.cost + z ≤ bound → (e.metric ≤ z) ⊎ X

  module _ (e : Rte) (fair : IsFair e) (o : Offer) (o_is : o.metric ≡ e.metric) where
    -- taken, it is backed
    took_fine : (changed : Bool) → metric_through g o ≤ bound → IsFound (record (taken g o) { changed = changed })
    took_fine changed le =
        record {
          le = le;
          up = λ until e. no until e;
          from = λ _. elim (fair.above (below o.metric e.metric g.cost bound o_is le low)) [
            | inl y ↦ absurd (too_high o.metric e.metric g.cost bound m o_is le low some few y)
            | inr y ↦ (y.0, y.1, y.2, y.3, sum o.metric e.metric g.cost bound y.0 o_is le low y.4)
          ];
        }
      where
        no : (until : ℕ) → Live (g.moment + timeout) ≡ Dying until → ⊥
        no until e = cc

        below : (o e c b : ℕ) → o ≡ e → min (o + c) 16 ≤ b → b < 16 → e < 16
        below o e c b a f h = omega arith

        too_high : (o e c b m : ℕ) → o ≡ e → min (o + c) 16 ≤ b → b < 16 → 1 ≤ c → b ≤ m → m ≤ e → ⊥
        too_high o e c b m a f h i j k = omega arith

        sum : (o e c b z : ℕ) → o ≡ e → min (o + c) 16 ≤ b → b < 16 → z ≤ e → c + z ≤ min (o + c) 16
        sum o e c b z a f h i = omega arith

    pub offer_stays : (b : Option RouteValue) → Stays b → Stays (adopted g b o)
    offer_stays b (inr x) = inr x
    offer_stays None (inl k) = absurd (None-Some k.0 k.1)
    offer_stays (Some r) (inl k) = by_clock r.clock refl (subst IsFound (sym (Some-same r k.0 k.1)) k.2)
      where
        clash : false ≡ true → ⊥
        clash e = cc

        same : IsFound r → Stays (Some r)
        same f = inl (r, refl, f)

        preferred_low : (until m a : ℕ) → (nat_lt m a || (m == a && nat_le until (g.moment + half_timeout))) ≡ true → m ≤ a
        preferred_low until m a e = grind (arith, nat_tests)

        by_clock : (c : Clock) → r.clock ≡ c → IsFound r → Stays (Some (adopted_by_clock g o r c))
        by_clock Fixed is f = same f
        by_clock (Dying until) is f = absurd (f.up until is)
        by_clock (Live until) is f = by_gateway (is_through g r.origin) refl
          where
            speaks : From r.metric → (y : Bool) → is_reachable (metric_through g o) ≡ y → Stays (Some (cond y (record (taken g o) { changed = r.changed || not (is_repeated g o r) }) (lost g.moment r)))
            speaks z y y_is = elim (fair.full z.0 z.1 z.2 z.3 (le_trans z.4 f.le)) [
              | inr x ↦ inr x
              | inl le ↦ reached y y_is (total o.metric e.metric g.cost z.0 r.metric bound o_is le z.4 f.le)
            ]
              where
                total : (o e c z r b : ℕ) → o ≡ e → e ≤ z → c + z ≤ r → r ≤ b → min (o + c) 16 ≤ b
                total o e c z r b a f h i = omega arith

                not_reached : (a b : ℕ) → nat_lt a 16 ≡ false → a ≤ b → b < 16 → ⊥
                not_reached a b e f h = grind (arith, nat_tests, e, f, h)

                reached : (y : Bool) → is_reachable (metric_through g o) ≡ y → metric_through g o ≤ bound → Stays (Some (cond y (record (taken g o) { changed = r.changed || not (is_repeated g o r) }) (lost g.moment r)))
                reached true y_is le = inl (record (taken g o) { changed = r.changed || not (is_repeated g o r) }, refl, took_fine (r.changed || not (is_repeated g o r)) le)
                reached false y_is le = absurd (not_reached (metric_through g o) bound y_is le low)

            by_preference : (y : Bool) → is_preferred g o r.metric until ≡ y → Stays (Some (cond y (taken g o) r))
            by_preference true y_is = inl (taken g o, refl, took_fine true (le_trans (preferred_low until (metric_through g o) r.metric y_is) f.le))
            by_preference false y_is = same f

            by_gateway : (x : Bool) → is_through g r.origin ≡ x
                → Stays (Some (cond x (cond (is_reachable (metric_through g o)) (record (taken g o) { changed = r.changed || not (is_repeated g o r) }) (lost g.moment r)) (cond (is_preferred g o r.metric until) (taken g o) r)))
            by_gateway true x_is = speaks (f.from x_is) (is_reachable (metric_through g o)) refl
            by_gateway false x_is = by_preference (is_preferred g o r.metric until) refl

  -- all entries of the datagram
  pub heard_stays : (h : Hearing) → h.gateway ≡ g → (after : Table) → ((e : Rte) → At h.entries e → prefix_named e ≡ p → IsFair e) → Heard h after → Stays (map_of.get h.before p) → Stays (map_of.get after p)
  heard_stays h g_is after fair heard k =
      heard_keeps Stays h after p
      (λ e stands names place b s. subst (λ (y : Gateway). Stays (adopted y b (offer_at h.config y.from h.entries place e))) (sym g_is)
      (offer_stays e (fair e stands names) (offer_at h.config g.from h.entries place e) refl b s))
      heard k
