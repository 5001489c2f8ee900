-- What a live route rests on: an entry that its gateway sent. It is no lower than a bound that the entry keeps, and one more.
use Rattle.std.proofs.Common.{◌≡◌, ◌≢◌, ◌⊎◌, inl, inr, ℕ, ◌+◌, min, max, ◌<◌, ◌≤◌, List, [], ◌∷◌, Option, Some, option_map, unwrap_or, slice_get, refl, ap, sym, subst, ◌∙◌, arith}
use Rattle.prefix6.specs.Prefix.{Prefix6}
use Rattle.ripng_wire.specs.declared.rte.Rte.{Rte}
use Rattle.ripng_wire.specs.declared.rte.Command.TheVariants.{Response}
use Rattle.ripng_wire.specs.Layout.{Spells}
use Rattle.route_table.specs.Route.{RouteValue, infinity}
use Rattle.route_table.specs.declared.route.Origin.{Origin}
use Rattle.route_table.specs.declared.route.Origin.TheVariants.{Own, Learned}
use Rattle.router_core.specs.Machine.{State, gateway_of}
use Rattle.router_core.specs.Offers.{prefix_named}
use Rattle.router_core.specs.declared.answer.Answer.{Answer}
use Rattle.ripng_world.specs.Network.{Network, Node, AreLinked, AreZoned, config_of, interface_at}
use Rattle.ripng_world.specs.Truth.{IsNeighbor}
use Rattle.ripng_world.specs.Walks.{Hop, Reaches, cost_of_interface}
use Rattle.ripng_world.specs.World.{World, Event, address_at, arrival_of}
use Rattle.ripng_world.specs.declared.network.NetInterface.{NetInterface}
use Rattle.ripng_world.specs.declared.event.Sent.{Sent}
use Rattle.ripng_world.proofs.Members.{At}
use Rattle.ripng_world.proofs.RoundNeighbors.{neighbor, is_another}
use Rattle.ripng_world.proofs.WorldRuns.{not_own}
use Rattle.ripng_phases.proofs.Moving.{HearsHere}
use Rattle.ripng_phases.proofs.Rows.{IsTaken}

-- the route was taken from an entry of a datagram with such a number or a later one
pub record IsRestingOn (net : Network) (w : World) (first router : ℕ) (p : Prefix6) (r : RouteValue) : Type 0 where
  pub datagram : ℕ
  pub recent : first ≤ datagram
  pub sent : Sent
  pub sent_is : slice_get w.sent datagram ≡ Some sent
  pub iface : ℕ
  pub linked : AreLinked net router iface sent.router sent.iface
  pub apart : router ≢ sent.router
  pub entries : List Rte
  pub spelled : Spells Response entries sent.bytes
  pub entry : Rte
  pub stands : At entries entry
  pub names : prefix_named entry ≡ p
  pub metric : r.metric ≡ min (entry.metric + cost_of_interface net router iface) infinity
  pub next_hop : ℕ
  pub origin : r.origin ≡ Learned iface (address_at net sent.router sent.iface) next_hop

-- a route that is taken rests on the datagram that is heard
unfoldable pub taken_rests : (net : Network) → AreZoned net → (w : World) (e : Event) (answer : Answer) (router : ℕ) (s t : State) (node : Node) → slice_get net router ≡ Some node → s.config ≡ config_of node
    → (here : HearsHere net w e answer router s t) (p : Prefix6) (r : RouteValue) (until : ℕ)
    → IsTaken (gateway_of s (max s.last here.now) (arrival_of net here.sent here.iface here.now)) here.hears.entries p r until
    → (first : ℕ) → first ≤ here.datagram → IsRestingOn net w first router p r
taken_rests net zoned w e answer router s t node node_is config_is here p r until taken first recent =
    let other : router ≢ here.sent.router =
    is_another net zoned here.sent router here.iface s node node_is config_is here.linked (not_own s.config (arrival_of net here.sent here.iface here.now) here.clean here.response) in
    let near : IsNeighbor net router (gateway_of s (max s.last here.now) (arrival_of net here.sent here.iface here.now)) here.sent.router here.sent.iface =
    neighbor net here.sent router here.iface (max s.last here.now) here.now s node node_is config_is here.linked other in
    record {
      datagram = here.datagram;
      recent = recent;
      sent = here.sent;
      sent_is = here.sent_is;
      iface = here.iface;
      linked = near.linked;
      apart = other;
      entries = here.hears.entries;
      spelled = here.hears.read;
      entry = taken.entry;
      stands = taken.stands;
      names = taken.names;
      metric = taken.metric ∙ ap (λ c. min (taken.entry.metric + c) infinity) near.cost;
      next_hop = taken.next_hop;
      origin = taken.origin;
    }

-- the metric is the bound or more, or there is a walk that is no dearer
abbrev pub IsAbove : Network → ℕ → ℕ → Prefix6 → ℕ → Type 0
IsAbove net m router p metric = (m ≤ metric) ⊎ ((x : ℕ) × (tag : ℕ) × (walk : List Hop) × Reaches net router p x tag walk × (x ≤ metric))

-- a walk begins by the interface and the gateway of the origin
abbrev pub BeginsFrom : Network → Origin → List Hop → Type 0
BeginsFrom net Own [] = Unit {0}
BeginsFrom net (Learned iface from next_hop) (h ∷ walk) = (h.iface ≡ iface) × (option_map (λ (i : NetInterface). i.interface.addr) (interface_at net h.router h.router_iface) ≡ Some from)
BeginsFrom net Own (h ∷ walk) = ⊥
BeginsFrom net (Learned iface from next_hop) [] = ⊥

-- a route's metric is the bound or more, or there is a walk that is no dearer and begins so
abbrev pub IsRowAbove : Network → ℕ → ℕ → Prefix6 → RouteValue → Type 0
IsRowAbove net m router p r =
    (m ≤ r.metric) ⊎ ((x : ℕ) × (tag : ℕ) × (walk : List Hop) × Reaches net router p x tag walk × (x ≤ r.metric) × BeginsFrom net r.origin walk)

pub row_above : (net : Network) (m router : ℕ) (p : Prefix6) (r : RouteValue) → IsRowAbove net m router p r → IsAbove net m router p r.metric
row_above net m router p r (inl x) = inl x
row_above net m router p r (inr x) = inr (x.0, x.1, x.2, x.3, x.4)

-- so it stays with a route of the same metric and origin
pub row_same : (net : Network) (m router : ℕ) (p : Prefix6) (q r : RouteValue) → r.metric ≡ q.metric → r.origin ≡ q.origin → IsRowAbove net m router p q → IsRowAbove net m router p r
row_same net m router p q r metric origin (inl x) = inl (subst (λ n. m ≤ n) (sym metric) x)
row_same net m router p q r metric origin (inr x) = inr (x.0, x.1, x.2, x.3, subst (λ n. x.0 ≤ n) (sym metric) x.4, subst (λ o. BeginsFrom net o x.2) (sym origin) x.5)

-- one more than what its gateway told
pub rests_above : (net : Network) (w : World) (first m router : ℕ) (p : Prefix6) (r : RouteValue) (rests : IsRestingOn net w first router p r) → 1 ≤ cost_of_interface net router rests.iface
    → r.metric < infinity → IsAbove net m rests.sent.router p rests.entry.metric → IsRowAbove net (m + 1) router p r
rests_above net w first m router p r rests one low above =
    elim above [
      | inl y ↦ inl (next m (cost_of_interface net router rests.iface) rests.entry.metric r.metric rests.metric low one y)
      | inr z ↦ inr (
        cost_of_interface net router rests.iface + z.0,
        z.1,
        record { iface = rests.iface; router = rests.sent.router; router_iface = rests.sent.iface } ∷ z.2,
        record {
          is_walk = ((rests.apart, rests.linked), z.3.is_walk);
          costs = ap (λ n. cost_of_interface net router rests.iface + n) z.3.costs;
          owner = z.3.owner;
        },
        within (cost_of_interface net router rests.iface) z.0 rests.entry.metric r.metric rests.metric low z.4,
        subst (λ o. BeginsFrom net o (record { iface = rests.iface; router = rests.sent.router; router_iface = rests.sent.iface } ∷ z.2)) (sym rests.origin)
            (refl, known (interface_at net rests.sent.router rests.sent.iface) rests.linked.there rests.linked.there_is),
      )
    ]
  where
    known : (o : Option NetInterface) (there : NetInterface) → o ≡ Some there
        → option_map (λ (i : NetInterface). i.interface.addr) o ≡ Some (unwrap_or (option_map (λ (i : NetInterface). i.interface.addr) o) 0)
    known o there is = subst (λ (x : Option NetInterface). option_map (λ (i : NetInterface). i.interface.addr) x ≡ Some (unwrap_or (option_map (λ (i : NetInterface). i.interface.addr) x) 0)) (sym is) refl

    next : (m c x n : ℕ) → n ≡ min (x + c) 16 → n < 16 → 1 ≤ c → m ≤ x → m + 1 ≤ n
    next m c x n a b d e = omega arith

    within : (c v x n : ℕ) → n ≡ min (x + c) 16 → n < 16 → v ≤ x → c + v ≤ n
    within c v x n a b d = omega arith

-- what its gateway told was below infinity
pub rests_low : (net : Network) (w : World) (first router : ℕ) (p : Prefix6) (r : RouteValue) (rests : IsRestingOn net w first router p r) → r.metric < infinity → rests.entry.metric < infinity
rests_low net w first router p r rests low = below (cost_of_interface net router rests.iface) rests.entry.metric r.metric rests.metric low
  where
    below : (c x n : ℕ) → n ≡ min (x + c) 16 → n < 16 → x < 16
    below c x n a b = omega arith
