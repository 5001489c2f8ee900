-- Hearing true entries of a neighbor, ageing and starting keep a table sound.
use Rattle.std.proofs.Common.{◌≡◌, ℕ, ◌+◌, min, ◌<◌, ◌≤◌, Bool, true, false, cond, not, ◌&&◌, ◌||◌, ◌==◌, nat_lt, List, [], ◌∷◌, take, reverse, length, fold, Option, Some, None, refl, ap, sym, subst, ◌∙◌, arith}
use Rattle.std.specs.List.{AllByRecursion, enumerate_from}
use Rattle.std.specs.Prelude.{⊤}
use Rattle.std.specs.FinMap as map_of
use Rattle.std.proofs.lemmas.Grind.{common_steps}
use borrow.Author.Tests.{ltb-true}
use Rattle.prefix6.specs.Prefix.{Prefix6, cleared, same_prefix}
use Rattle.prefix6.proofs.PrefixLaws.{same_prefix-true, cleared-cleared}
use Rattle.ripng_wire.specs.declared.rte.Rte.{Rte}
use Rattle.ripng_wire.specs.Layout.{is_next_hop}
use Rattle.route_table.specs.Route.{RouteValue, infinity}
use Rattle.route_table.specs.Table.{Table}
use Rattle.route_table.specs.declared.route.Clock.{Clock}
use Rattle.route_table.specs.declared.route.Clock.TheVariants.{Fixed, Live, Dying}
use Rattle.router_core.specs.Offers.{Offer, offers, offer_at, is_offer, prefix_named, next_hop_at, usable_hop}
use Rattle.router_core.specs.Adoption.{Gateway, adopted, adopted_by_clock, refreshed, taken, lost, metric_through, is_reachable, is_through, is_preferred, is_repeated}
use Rattle.router_core.specs.Config.{Config}
use Rattle.router_core.specs.Hearing.{Hearing, Heard, is_refused}
use Rattle.ripng_world.specs.Walks.{Hop}
use Rattle.ripng_world.specs.Past.{Past, ReachesSince, IsBackedSince}
use Rattle.ripng_world.specs.TruthSince.{IsNeighborSince, IsSoundSince, IsSoundTableSince, IsSoundEntrySince}
use Rattle.ripng_world.proofs.Each.{each_filter, each_passing, each_weaker, each_take, each_reverse, each_enumerated, each_mapped, none_found}
use Rattle.ripng_world.proofs.Telling.{lost_sound}

not_255 : (n : ℕ) → n ≤ 16 → (n == 255) ≡ false
not_255 n h = grind (arith, common_steps)

reachable : (n : ℕ) → nat_lt n infinity ≡ true → n < infinity
reachable n e = ltb-true n infinity e

through_sum : (m d : ℕ) → min (m + d) 16 < 16 → d + m ≡ min (m + d) 16
through_sum m d h = omega arith

below_through : (m d : ℕ) → min (m + d) 16 < 16 → m < 16
below_through m d h = omega arith

module _ (past : Past) (router : ℕ) (g : Gateway) (sender sender_iface : ℕ) (near : IsNeighborSince past router g sender sender_iface) where
  record IsGoodOffer (p : Prefix6) (o : Offer) : Type 0 where
    is_prefix : cleared p.addr p.len ≡ p
    next_hop : o.next_hop ≡ g.from
    backed : o.metric < infinity → (walk : List Hop) × ReachesSince past sender p o.metric o.tag walk

  abbrev first_hop : Hop
  first_hop = record { iface = g.iface; router = sender; router_iface = sender_iface }

  taken_backed : (p : Prefix6) (o : Offer) → IsGoodOffer p o → metric_through g o < infinity → IsBackedSince past router p (taken g o)
  taken_backed p o good low =
      let b : (walk : List Hop) × ReachesSince past sender p o.metric o.tag walk = good.backed (below_through o.metric g.cost low) in (
        first_hop ∷ b.0,
        record {
          is_walk = ((near.apart, near.linked), b.1.is_walk);
          costs = (g.cost, o.metric, near.cost, b.1.costs, through_sum o.metric g.cost low);
          owner = b.1.owner;
        },
        (refl, near.from, good.next_hop),
      )

  taken_sound : (p : Prefix6) (o : Offer) → IsGoodOffer p o → IsSoundSince past router p (taken g o)
  taken_sound p o good = record { is_prefix = good.is_prefix; in_range = omega arith; backed = taken_backed p o good }

  refreshed_sound : (p : Prefix6) (o : Offer) (r : RouteValue) → IsGoodOffer p o → IsSoundSince past router p r → IsSoundSince past router p (refreshed g o r)
  refreshed_sound p o r good s =
      let t : IsSoundSince past router p (taken g o) = taken_sound p o good in
      elim (is_reachable (metric_through g o)) as (λ b. IsSoundSince past router p (cond b (record (taken g o) { changed = r.changed || not (is_repeated g o r) }) (lost g.moment r))) [
        | true ↦ record { is_prefix = t.is_prefix; in_range = t.in_range; backed = t.backed }
        | false ↦ lost_sound past router g.moment p r s
      ]

  by_clock_sound : (p : Prefix6) (o : Offer) (r : RouteValue) → IsGoodOffer p o → IsSoundSince past router p r → (c : Clock) → IsSoundSince past router p (adopted_by_clock g o r c)
  by_clock_sound p o r good s Fixed = s
  by_clock_sound p o r good s (Live until) =
      elim (is_through g r.origin) as (λ b. IsSoundSince past router p (cond b (refreshed g o r) (cond (is_preferred g o r.metric until) (taken g o) r))) [
        | true ↦ refreshed_sound p o r good s
        | false ↦ elim (is_preferred g o r.metric until) as (λ b. IsSoundSince past router p (cond b (taken g o) r)) [
          | true ↦ taken_sound p o good
          | false ↦ s
        ]
      ]
  by_clock_sound p o r good s (Dying until) =
      elim (is_reachable (metric_through g o)) as (λ b. IsSoundSince past router p (cond b (taken g o) r)) [ true ↦ taken_sound p o good | false ↦ s ]

  -- a sound route, or none
  abbrev IsSoundOption : Prefix6 → Option RouteValue → Type 0
  IsSoundOption p None = ⊤
  IsSoundOption p (Some r) = IsSoundSince past router p r

  adopted_sound : (p : Prefix6) (o : Offer) → IsGoodOffer p o → (old : Option RouteValue) → IsSoundOption p old → IsSoundOption p (adopted g old o)
  adopted_sound p o good None s =
      elim (is_reachable (metric_through g o)) as (λ b. IsSoundOption p (cond b (Some (taken g o)) None)) [ true ↦ taken_sound p o good | false ↦ tt ]
  adopted_sound p o good (Some r) s = by_clock_sound p o r good s r.clock

  all_adopted : (p : Prefix6) (os : List Offer) → AllByRecursion (IsGoodOffer p) os → (old : Option RouteValue) → IsSoundOption p old → IsSoundOption p (fold (adopted g) old os)
  all_adopted p [] all old s = s
  all_adopted p (o ∷ os) all old s = all_adopted p os all.1 (adopted g old o) (adopted_sound p o all.0 old s)

  no_next_hop : (config : Config) (entries : List Rte) → AllByRecursion (IsSoundEntrySince past sender) entries → (place : ℕ) → next_hop_at config g.from entries place ≡ g.from
  no_next_hop config entries all place =
      ap (usable_hop config g.from)
      (none_found is_next_hop (reverse (take place entries))
      (each_reverse _ (take place entries) (each_take _ place entries
      (each_weaker (λ (e : Rte). is_next_hop e ≡ false) (IsSoundEntrySince past sender) (λ e t. not_255 e.metric t.in_range) entries all))))

  offers_good : (config : Config) (entries : List Rte) → AllByRecursion (IsSoundEntrySince past sender) entries → (p : Prefix6) → AllByRecursion (IsGoodOffer p) (offers config g.from entries p)
  offers_good config entries all p =
      each_mapped (IsGoodOffer p) (λ (t : ℕ × Rte). offer_at config g.from entries t.0 t.1) _
      (each_passing (λ (t : ℕ × Rte). IsGoodOffer p (offer_at config g.from entries t.0 t.1)) (λ t. IsSoundEntrySince past sender t.1)
      (λ t. is_offer t.1 && same_prefix (prefix_named t.1) p) good (enumerate_from 0 entries) (each_enumerated _ 0 entries all))
    where
      second : (a b : Bool) → (a && b) ≡ true → b ≡ true
      second true b e = e
      second false b e = absurd (cc)

      good : (t : ℕ × Rte) → IsSoundEntrySince past sender t.1 → (is_offer t.1 && same_prefix (prefix_named t.1) p) ≡ true → IsGoodOffer p (offer_at config g.from entries t.0 t.1)
      good t true_entry passes =
          let named : prefix_named t.1 ≡ p = same_prefix-true (prefix_named t.1) p (second (is_offer t.1) (same_prefix (prefix_named t.1) p) passes) in
          record {
            is_prefix = subst (λ (q : Prefix6). cleared q.addr q.len ≡ q) named (cleared-cleared t.1.addr t.1.len);
            next_hop = no_next_hop config entries all t.0;
            backed = λ low.
                let b : (walk : List Hop) × ReachesSince past sender (prefix_named t.1) t.1.metric t.1.tag walk = true_entry.backed low in
                (b.0, subst (λ (q : Prefix6). ReachesSince past sender q t.1.metric t.1.tag b.0) named b.1);
          }

pub heard_sound : (past : Past) (router sender sender_iface : ℕ) (h : Hearing) (after : Table)
    → IsNeighborSince past router h.gateway sender sender_iface
    → AllByRecursion (IsSoundEntrySince past sender) h.entries
    → IsSoundTableSince past router h.before → Heard h after → IsSoundTableSince past router after
heard_sound past router sender sender_iface h after near all sound heard p r here =
    subst (IsSoundOption past router h.gateway sender sender_iface near p) (sym (heard.routes p) ∙ here)
    (all_adopted past router h.gateway sender sender_iface near p _
    (each_filter (IsGoodOffer past router h.gateway sender sender_iface near p) (λ o. nat_lt o.place (length h.entries) && not (is_refused h o.place)) (offers h.config h.gateway.from h.entries p)
    (offers_good past router h.gateway sender sender_iface near h.config h.entries all p))
    (map_of.get h.before p) (before (map_of.get h.before p) refl))
  where
    before : (o : Option RouteValue) → map_of.get h.before p ≡ o → IsSoundOption past router h.gateway sender sender_iface near p o
    before None is = tt
    before (Some r) is = sound p r is
