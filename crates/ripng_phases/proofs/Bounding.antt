-- Where each live route rests on what keeps a bound, each table keeps the next: so what no walk backs counts up.
use Rattle.std.proofs.Common.{◌≡◌, inl, inr, ℕ, ◌+◌, ◌<◌, ◌≤◌, List, [], Some, slice_get, refl, sym, subst, arith}
use Rattle.prefix6.specs.Prefix.{Prefix6}
use Rattle.ripng_wire.specs.declared.rte.Rte.{Rte}
use Rattle.ripng_wire.specs.declared.rte.Command.TheVariants.{Response}
use Rattle.ripng_wire.specs.Layout.{Spells}
use Rattle.route_table.specs.Route.{RouteValue, infinity}
use Rattle.route_table.specs.declared.route.Clock.{Clock}
use Rattle.route_table.specs.declared.route.Clock.TheVariants.{Fixed, Live, Dying}
use Rattle.router_core.specs.Offers.{prefix_named}
use Rattle.ripng_world.specs.Network.{Network, interface_at}
use Rattle.ripng_world.specs.Walks.{cost_of_interface}
use Rattle.ripng_world.specs.World.{World}
use Rattle.ripng_world.specs.declared.network.NetInterface.{NetInterface}
use Rattle.ripng_world.specs.declared.event.Sent.{Sent}
use Rattle.ripng_world.proofs.HealPlain.{IsClocked}
use Rattle.ripng_world.proofs.Improving.{RouteAt}
use Rattle.ripng_world.proofs.Members.{At}
use Rattle.ripng_phases.proofs.Orderly.{IsOrderly, IsOrderlyBy}
use Rattle.ripng_phases.proofs.Resting.{BeginsFrom, IsRestingOn, IsAbove, IsRowAbove, rests_above, rests_low}

-- each route below infinity is the bound or more, or backed by a walk that is no dearer and begins by its gateway
abbrev pub TablesAbove : Network → World → ℕ → Type 0
TablesAbove net w m = (router : ℕ) (p : Prefix6) (r : RouteValue) → RouteAt w router p r → r.metric < infinity → IsRowAbove net m router p r

-- so is each entry of what was sent since that number
abbrev pub SaidAbove : Network → World → ℕ → ℕ → Type 0
SaidAbove net w first m =
    (i : ℕ) (d : Sent) → first ≤ i → slice_get w.sent i ≡ Some d → (entries : List Rte) → Spells Response entries d.bytes → (e : Rte) → At entries e → e.metric < infinity
    → IsAbove net m d.router (prefix_named e) e.metric

module _ (net : Network) (known : Prefix6 → Type 0) where
  -- each live route rests on what was sent since that number: then it is one more than the bound of that
  pub tables_above : ((router iface : ℕ) (here : NetInterface) → interface_at net router iface ≡ Some here → 1 ≤ cost_of_interface net router iface)
      → (w : World) → IsOrderly net known w → (first m : ℕ)
      → ((router : ℕ) (p : Prefix6) (r : RouteValue) (until : ℕ) → RouteAt w router p r → r.clock ≡ Live until → IsRestingOn net w first router p r)
      → SaidAbove net w first m → TablesAbove net w (m + 1)
  tables_above positive w orderly first m rest said router p r at low =
      let s = orderly.states router at.0 at.1 in
      by_clock r.clock refl (s.plain p r at.2).clocked (s.by_clock p r at.2)
    where
      as_le : (n : ℕ) → n ≡ 1 → 1 ≤ n
      as_le n e = omega arith

      no : (n : ℕ) → n ≡ 16 → n < 16 → ⊥
      no n e f = omega arith

      by_clock : (c : Clock) → r.clock ≡ c → IsClocked r.metric c → IsOrderlyBy net router at.0.last p r c → IsRowAbove net (m + 1) router p r
      by_clock Fixed e k own = inr (1, own.1.0, [], record { is_walk = tt; costs = refl; owner = own.1.1 }, as_le r.metric k, subst (λ o. BeginsFrom net o []) (sym own.0) tt)
      by_clock (Dying until) e k own = absurd (no r.metric k low)
      by_clock (Live until) e k own =
          let x = rest router p r until at e in
          rests_above net w first m router p r x (positive router x.iface x.linked.here x.linked.here_is) low
          (subst (λ q. IsAbove net m x.sent.router q x.entry.metric) x.names (said x.datagram x.sent x.recent x.sent_is x.entries x.spelled x.entry x.stands (rests_low net w first router p r x low)))

  -- in any case a route is two or more, or backed
  pub tables_above_two : (w : World) → IsOrderly net known w → TablesAbove net w 2
  tables_above_two w orderly router p r at low =
      let s = orderly.states router at.0 at.1 in
      by_clock r.clock (s.plain p r at.2).clocked (s.by_clock p r at.2)
    where
      as_le : (n : ℕ) → n ≡ 1 → 1 ≤ n
      as_le n e = omega arith

      no : (n : ℕ) → n ≡ 16 → n < 16 → ⊥
      no n e f = omega arith

      by_clock : (c : Clock) → IsClocked r.metric c → IsOrderlyBy net router at.0.last p r c → IsRowAbove net 2 router p r
      by_clock Fixed k own = inr (1, own.1.0, [], record { is_walk = tt; costs = refl; owner = own.1.1 }, as_le r.metric k, subst (λ o. BeginsFrom net o []) (sym own.0) tt)
      by_clock (Dying until) k own = absurd (no r.metric k low)
      by_clock (Live until) k own = inl own.0
