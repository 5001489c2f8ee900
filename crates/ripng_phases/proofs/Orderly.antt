-- What each router of a settled network has: it is configured as the network now, and its routes go with their clocks.
use Rattle.std.proofs.Common.{◌≡◌, ℕ, ◌+◌, ◌≤◌, List, ◌++◌, Option, Some, None, option_map, slice_get, refl, ap, sym, ◌∙◌}
use Rattle.std.specs.FinMap as map_of
use Rattle.prefix6.specs.Prefix.{Prefix6}
use Rattle.route_table.specs.Route.{RouteValue}
use Rattle.route_table.specs.declared.route.Clock.{Clock}
use Rattle.route_table.specs.declared.route.Clock.TheVariants.{Fixed, Live, Dying}
use Rattle.route_table.specs.declared.route.Origin.TheVariants.{Own}
use Rattle.route_table.proofs.TableLaws.{Some-same, None-Some}
use Rattle.router_core.specs.Config.{Config}
use Rattle.router_core.specs.Machine.{State}
use Rattle.router_core.specs.Timers.{timeout}
use Rattle.router_core.specs.declared.reconfiguring.Change.{Change}
use Rattle.ripng_world.specs.Healing.{network_now}
use Rattle.ripng_world.specs.Network.{Network, Node, AreZoned, IsNetwork, Owns, config_of}
use Rattle.ripng_world.specs.World.{World}
use Rattle.ripng_world.proofs.HealPlain.{IsPlainRow}
use Rattle.ripng_world.proofs.NetworkNow.{now_alike, now_zoned, passive_of}
use Rattle.ripng_world.proofs.Reached.{IsKnown, IsReachedBy}
use Rattle.ripng_world.proofs.ReachedRuns.{IsReachedState}
use Rattle.ripng_phases.specs.Phases.{Step, Takes, reached}
use Rattle.ripng_phases.proofs.Settled.{IsSettled, state_at, settled_at}

-- what is known of a route by its clock
abbrev pub IsOrderlyBy : Network → ℕ → ℕ → Prefix6 → RouteValue → Clock → Type 0
IsOrderlyBy net router last p r Fixed = (r.origin ≡ Own) × ((tag : ℕ) × Owns net router p tag)
IsOrderlyBy net router last p r (Live until) = (2 ≤ r.metric) × (until ≤ last + timeout)
IsOrderlyBy net router last p r (Dying until) = Unit {0}

pub record IsOrderlyState (net : Network) (known : Prefix6 → Type 0) (router : ℕ) (s : State) : Type 0 where
  pub node : Node
  pub node_is : slice_get net router ≡ Some node
  pub config_is : s.config ≡ config_of node
  pub plain : (p : Prefix6) (r : RouteValue) → map_of.get s.table p ≡ Some r → IsPlainRow known p r
  pub by_clock : (p : Prefix6) (r : RouteValue) → map_of.get s.table p ≡ Some r → IsOrderlyBy net router s.last p r r.clock
  pub owned : (p : Prefix6) (tag : ℕ) → Owns net router p tag → (r : RouteValue) × (map_of.get s.table p ≡ Some r) × (r.clock ≡ Fixed)

-- so is every router, and each is there; and each link is in one zone
pub record IsOrderly (net : Network) (known : Prefix6 → Type 0) (w : World) : Type 0 where
  pub zoned : AreZoned net
  pub states : (router : ℕ) (s : State) → slice_get w.states router ≡ Some s → IsOrderlyState net known router s
  pub everyone : (router : ℕ) (node : Node) → slice_get net router ≡ Some node → (s : State) × (slice_get w.states router ≡ Some s)

-- at every moment of the steps
abbrev pub AllOrderly : Network → (Prefix6 → Type 0) → World → List Step → Type 0
AllOrderly net known w steps = (before after : List Step) → steps ≡ before ++ after → IsOrderly net known (reached w before)

module _ (start : Network) (is_net : IsNetwork start) (reconfigurations : List (ℕ × Change)) where
  pub orderly_of : (w : World) → IsSettled start is_net reconfigurations w → IsOrderly (network_now (record { net = start; reconfigurations = reconfigurations })) (IsKnown (record { net = start; reconfigurations = reconfigurations })) w
  orderly_of w is =
      record {
        zoned = now_zoned reconfigurations start is.all.zoned;
        states = λ router s at. orderly_state router s (state_at start is_net reconfigurations w is router s at);
        everyone = λ router node node_is. there router node (slice_get start router) refl (sym ((now_alike reconfigurations start).passive router) ∙ ap (option_map passive_of) node_is);
      }
    where
      listed : (router : ℕ) (s : State) (t : IsReachedState start reconfigurations router s) (p : Prefix6) (tag : ℕ) → Owns (network_now (record { net = start; reconfigurations = reconfigurations })) router p tag → (i : ℕ) × (slice_get s.config.prefixes i ≡ Some (p, tag))
      listed router s t p tag owns = (
        owns.place,
        ap (λ (c : Config). slice_get c.prefixes owns.place) t.config_is ∙ ap (λ (n : Node). slice_get n.prefixes owns.place) (Some-same t.node owns.node (sym t.node_is ∙ owns.node_is)) ∙ owns.listed,
      )

      row_of : (router : ℕ) (s : State) (t : IsReachedState start reconfigurations router s) (p : Prefix6) (r : RouteValue) (c : Clock) → IsReachedBy s.config s.last p r c
          → IsOrderlyBy (network_now (record { net = start; reconfigurations = reconfigurations })) router s.last p r c
      row_of router s t p r Fixed k = (
        k.0,
        (k.1.0, record { node = t.node; node_is = t.node_is; place = k.1.1.0; listed = ap (λ (c : Config). slice_get c.prefixes k.1.1.0) (sym t.config_is) ∙ k.1.1.1 }),
      )
      row_of router s t p r (Dying until) k = tt
      row_of router s t p r (Live until) k = (k.1, k.2)

      orderly_state : (router : ℕ) (s : State) → IsReachedState start reconfigurations router s → IsOrderlyState (network_now (record { net = start; reconfigurations = reconfigurations })) (IsKnown (record { net = start; reconfigurations = reconfigurations })) router s
      orderly_state router s t =
          record {
            node = t.node;
            node_is = t.node_is;
            config_is = t.config_is;
            plain = λ p r at. (t.reached.rows p r at).plain;
            by_clock = λ p r at. row_of router s t p r r.clock (t.reached.rows p r at).reached;
            owned = λ p tag owns. t.reached.owned p tag (listed router s t p tag owns);
          }

      there : (router : ℕ) (node : Node) (o : Option Node) → slice_get start router ≡ o → option_map passive_of o ≡ Some (passive_of node) → (s : State) × (slice_get w.states router ≡ Some s)
      there router node None is' e = absurd (None-Some (passive_of node) e)
      there router node (Some n) is' e = is.all.everyone router n is'

  pub all_orderly : (steps : List Step) (w w' : World) → Takes start w steps w' → IsSettled start is_net reconfigurations w
      → AllOrderly (network_now (record { net = start; reconfigurations = reconfigurations })) (IsKnown (record { net = start; reconfigurations = reconfigurations })) w steps
  all_orderly steps w w' takes is before after parts = orderly_of (reached w before) (settled_at start is_net reconfigurations steps before after w w' takes is parts)
