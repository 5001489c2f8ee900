-- Where every walk up to infinity is found, and all that is held below infinity is backed, each table has exactly the least costs.
use Rattle.std.proofs.Common.{◌≡◌, ◌⊎◌, inl, inr, ℕ, ◌<◌, ◌≤◌, List, [], ◌∷◌, Some, ap, sym, subst, ◌∙◌, arith, le_trans}
use Rattle.std.specs.FinMap as map_of
use Rattle.prefix6.specs.Prefix.{Prefix6}
use Rattle.route_table.specs.Route.{RouteValue, infinity}
use Rattle.route_table.specs.declared.route.Origin.{Origin}
use Rattle.route_table.specs.declared.route.Origin.TheVariants.{Own, Learned}
use Rattle.route_table.proofs.TableLaws.{Some-same}
use Rattle.router_core.specs.Machine.{State}
use Rattle.ripng_world.specs.Healing.{AreHealed, IsLed}
use Rattle.ripng_world.specs.Network.{Network}
use Rattle.ripng_world.specs.Walks.{BeginsAs, Hop, Reaches, IsLeast}
use Rattle.ripng_world.specs.World.{World}
use Rattle.ripng_world.proofs.HealMany.{AreToGateways, IsToGateway}
use Rattle.ripng_world.proofs.Improving.{one_route}
use Rattle.ripng_phases.proofs.Bounding.{TablesAbove}
use Rattle.ripng_phases.proofs.Resting.{BeginsFrom, IsRowAbove}
use Rattle.ripng_phases.proofs.Upper.{Found}

module _ (net : Network) where
  pub above_to : (m n router : ℕ) (p : Prefix6) (r : RouteValue) → n ≤ m → IsRowAbove net m router p r → IsRowAbove net n router p r
  above_to m n router p r le (inl x) = inl (le_trans le x)
  above_to m n router p r le (inr x) = inr x

  -- a walk that begins by the gateway begins as the origin says
  begins_as : (o : Origin) (walk : List Hop) → BeginsFrom net o walk → IsToGateway o → BeginsAs net o walk
  begins_as Own [] b g = tt
  begins_as Own (h ∷ walk) b g = absurd b
  begins_as (Learned iface from next_hop) [] b g = absurd b
  begins_as (Learned iface from next_hop) (h ∷ walk) b g = (b.0, b.1, g)

  pub healed : (v : World) → Found net v 15 → TablesAbove net v 16 → AreToGateways v → AreHealed net v
  healed v found tables to_gateways router s is = record { least = is_least; led = is_led; found = all_found }
    where
      fifteen : (n : ℕ) → n < 16 → n ≤ 15
      fifteen n e = omega arith

      lower : (a b : ℕ) → a ≤ b → b < 16 → a < 16
      lower a b e f = omega arith

      no : (n : ℕ) → 16 ≤ n → n < 16 → ⊥
      no n e f = omega arith

      same : (a b : ℕ) → a ≤ b → b ≤ a → a ≡ b
      same a b e f = omega arith

      split : (n : ℕ) → (16 ≤ n) ⊎ (n < 16)
      split n = grind arith

      above : (a b : ℕ) → a < 16 → 16 ≤ b → a ≤ b
      above a b e f = omega arith

      -- no walk is cheaper
      no_dearer : (p : Prefix6) (r : RouteValue) → map_of.get s.table p ≡ Some r → (metric tag : ℕ) (walk : List Hop) → Reaches net router p metric tag walk → metric < infinity → r.metric ≤ metric
      no_dearer p r at metric tag walk reach low =
          let f = found router p metric tag walk reach (fifteen metric low) low in
          subst (λ (x : RouteValue). x.metric ≤ metric) (one_route v router p f.0 r f.1 (s, is, at)) f.2

      is_led : IsLed net router s.table
      is_led p r at low = elim (tables router p r (s, is, at) low) [
        | inl x ↦ absurd (no r.metric x low)
        | inr b ↦ (
          b.2,
          (b.1, subst (λ n. Reaches net router p n b.1 b.2) (same b.0 r.metric b.4 (no_dearer p r at b.0 b.1 b.2 b.3 (lower b.0 r.metric b.4 low))) b.3),
          begins_as r.origin b.2 b.5 (to_gateways router s is p r at low),
        )
      ]

      is_least : (p : Prefix6) (r : RouteValue) → map_of.get s.table p ≡ Some r → r.metric < infinity → IsLeast net router p r.metric
      is_least p r at low =
          let l = is_led p r at low in
          record {
            reached = (l.1.0, l.0, l.1.1);
            least = λ metric tag walk reach. elim (split metric) [
              | inl e ↦ above r.metric metric low e
              | inr e ↦ no_dearer p r at metric tag walk reach e
            ];
          }

      all_found : (p : Prefix6) (metric : ℕ) → IsLeast net router p metric → metric < infinity → (r : RouteValue) × (map_of.get s.table p ≡ Some r) × (r.metric ≡ metric)
      all_found p metric l low =
          let f = found router p metric l.reached.0 l.reached.1 l.reached.2 (fifteen metric low) low in
          let at : map_of.get s.table p ≡ Some f.0 = ap (λ (x : State). map_of.get x.table p) (Some-same s f.1.0 (sym is ∙ f.1.1)) ∙ f.1.2 in
          let b = is_least p f.0 at (lower f.0.metric metric f.2 low) in
          (f.0, at, same f.0.metric metric f.2 (l.least f.0.metric b.reached.0 b.reached.1 b.reached.2))
