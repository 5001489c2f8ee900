-- Packets arrive in a network that has healed, and each router has one way at most.
use Rattle.std.proofs.Common.{◌≡◌, ℕ, ◌<◌, ◌≤◌, Bool, true, false, cond, nat_lt, List, [], ◌∷◌, Option, Some, None, option_map, option_and_then, slice_get, refl, ap, ap₂, sym, subst, ◌∙◌}
use Rattle.std.specs.FinMap as map_of
use Rattle.std.proofs.lemmas.Bool.{lt-ltb, ltb-true}
use Rattle.prefix6.specs.Prefix.{Prefix6}
use Rattle.fib.specs.Forwarding.{Forward, Forwarding, IsLongestMatch}
use Rattle.fib.specs.declared.change.Hop.{Hop as FibHop}
use Rattle.fib.specs.declared.change.Hop.TheVariants.{Direct, Via}
use Rattle.fib.proofs.LongestMatch.{one_longest}
use Rattle.route_table.specs.Route.{RouteValue, infinity}
use Rattle.route_table.specs.Table.{Table}
use Rattle.route_table.specs.declared.route.Origin.{Origin}
use Rattle.route_table.specs.declared.route.Origin.TheVariants.{Own, Learned}
use Rattle.route_table.proofs.TableLaws.{Some-same, None-Some, get-map_values}
use Rattle.router_core.specs.Changes.{forward, forwards, hop_of}
use Rattle.router_core.specs.Machine.{State}
use Rattle.ripng_world.specs.Healing.{IsHealed, AreHealed}
use Rattle.ripng_world.specs.Network.{Network, Node, AreLinked, IsNetwork, HasDistinctAddresses}
use Rattle.ripng_world.specs.Packets.{Forwardings, forwardings_of, ForwardsBy, HandsOn, ArriveBy, PacketsArrive, AreThere}
use Rattle.ripng_world.specs.Walks.{Hop, Reaches, BeginsAs}
use Rattle.ripng_world.specs.World.{World}
use Rattle.ripng_world.proofs.Packets.{BeginsBy, IsGuide, delivers}
use Rattle.ripng_world.proofs.RoundNeighbors.{one_sender}

-- ---- the forwarding table of a healed table guides

begins_by : (net : Network) (o : Origin) (walk : List Hop) → BeginsAs net o walk → BeginsBy net (hop_of o) walk
begins_by net Own [] b = tt
begins_by net Own (h ∷ walk) b = absurd b
begins_by net (Learned iface from next_hop) [] b = absurd b
begins_by net (Learned iface from next_hop) (h ∷ walk) b = (b.0, b.1 ∙ ap (λ (n : ℕ). Some n) (sym b.2))

abbrev entry_of : RouteValue → Forward
entry_of r = record { hop = hop_of r.origin; metric = r.metric }

module _ (net : Network) (router : ℕ) (table : Table) (healed : IsHealed net router table) where
  -- an entry is of a route below infinity
  record IsOf (p : Prefix6) (f : Forward) : Type 0 where
    pub route : RouteValue
    pub at : map_of.get table p ≡ Some route
    pub low : route.metric < infinity
    pub entry : entry_of route ≡ f

  is_of : (p : Prefix6) (f : Forward) → map_of.get (forwards table) p ≡ Some f → IsOf p f
  is_of p f is = by_value (map_of.get table p) refl (sym (get-map_values forward table p) ∙ is)
    where
      by_value : (o : Option RouteValue) → map_of.get table p ≡ o → option_and_then forward o ≡ Some f → IsOf p f
      by_value None at e = absurd (None-Some f e)
      by_value (Some r) at e = by_test (nat_lt r.metric infinity) refl e
        where
          by_test : (b : Bool) → nat_lt r.metric infinity ≡ b → cond b (Some (entry_of r)) None ≡ Some f → IsOf p f
          by_test true low h = record { route = r; at = at; low = ltb-true r.metric infinity low; entry = Some-same (entry_of r) f h }
          by_test false high h = absurd (None-Some f h)

  pub guides : IsGuide net router (forwards table)
  guides =
      record {
        low = λ p f is. let x = is_of p f is in subst (λ (g : Forward). g.metric < infinity) x.entry x.low;
        least = λ p f is metric tag walk reach. let x = is_of p f is in subst (λ (g : Forward). g.metric ≤ metric) x.entry ((healed.least p x.route x.at x.low).least metric tag walk reach);
        begins = λ p f is.
            let x = is_of p f is in
            let l = healed.led p x.route x.at x.low in
            subst (λ (g : Forward). (tag : ℕ) × (walk : List Hop) × Reaches net router p g.metric tag walk × BeginsBy net g.hop walk) x.entry (l.1.0, l.0, l.1.1, begins_by net x.route.origin l.0 l.2);
        found = λ p metric least low.
            let r = healed.found p metric least low in
            let below : r.0.metric < infinity = subst (λ n. n < infinity) (sym r.2) low in (
              entry_of r.0,
              get-map_values forward table p ∙ ap (option_and_then forward) r.1 ∙ ap (λ b. cond b (Some (entry_of r.0)) None) (lt-ltb r.0.metric infinity below),
              r.2,
            );
      }

-- ---- packets arrive

module _ (net : Network) (w : World) (is_net : IsNetwork net) (there : AreThere net w) (healed : AreHealed net w) where
  guide : (router : ℕ) (table : Forwarding) → forwardings_of w router ≡ Some table → IsGuide net router table
  guide router table is = by_value (slice_get w.states router) refl is
    where
      by_value : (o : Option State) → slice_get w.states router ≡ o → option_map (λ (s : State). forwards s.table) o ≡ Some table → IsGuide net router table
      by_value None at e = absurd (None-Some table e)
      by_value (Some s) at e = subst (IsGuide net router) (Some-same (forwards s.table) table e) (guides net router s.table (healed router s at))

  everyone : (router : ℕ) (node : Node) → slice_get net router ≡ Some node → (table : Forwarding) × (forwardings_of w router ≡ Some table)
  everyone router node is = let s = there router node is in (forwards s.0.table, ap (option_map (λ (x : State). forwards x.table)) s.1)

  pub all_arrive : PacketsArrive net w
  all_arrive = delivers net is_net (forwardings_of w) guide everyone

-- ---- there is one way at most

pub one_hop : (fibs : Forwardings) (addr router : ℕ) (h k : FibHop) → ForwardsBy fibs addr router h → ForwardsBy fibs addr router k → h ≡ k
one_hop fibs addr router h k a b =
    one_longest b.table addr h k (subst (λ (t : Forwarding). IsLongestMatch t addr h) (Some-same a.table b.table (sym a.table_is ∙ b.table_is)) a.longest) b.longest

pub same_iface : (i h j k : ℕ) → Via i h ≡ Via j k → i ≡ j
same_iface i h j k e = cc

pub same_next_hop : (i h j k : ℕ) → Via i h ≡ Via j k → h ≡ k
same_next_hop i h j k e = cc

pub not_both : (iface next_hop : ℕ) → Via iface next_hop ≡ Direct → ⊥
not_both iface next_hop e = cc

module _ (net : Network) (distinct : HasDistinctAddresses net) (fibs : Forwardings) (addr : ℕ) where
  pub one_next : (router : ℕ) (h k : Hop) → HandsOn net fibs addr router h → HandsOn net fibs addr router k → h ≡ k
  one_next router h k x y =
      let e : Via h.iface x.next_hop ≡ Via k.iface y.next_hop = one_hop fibs addr router _ _ x.by y.by in
      let i : h.iface ≡ k.iface = same_iface h.iface x.next_hop k.iface y.next_hop e in
      let s = one_sender net distinct router k.iface y.next_hop h.router h.router_iface k.router k.router_iface
      (subst (λ (n : ℕ). AreLinked net router n h.router h.router_iface) i x.is_hop.1) y.is_hop.1
      (x.address ∙ ap (λ (n : ℕ). Some n) (same_next_hop h.iface x.next_hop k.iface y.next_hop e)) y.address in
      λ t. record { iface = i t; router = s.0 t; router_iface = s.1 t }

  pub one_way : (router : ℕ) (way other : List Hop) → ArriveBy net fibs addr router way → ArriveBy net fibs addr router other → way ≡ other
  one_way router [] [] a b = refl
  one_way router [] (y ∷ other) a b = absurd (not_both y.iface b.0.next_hop (one_hop fibs addr router _ _ b.0.by a))
  one_way router (x ∷ way) [] a b = absurd (not_both x.iface a.0.next_hop (one_hop fibs addr router _ _ a.0.by b))
  one_way router (x ∷ way) (y ∷ other) a b =
      let e : x ≡ y = one_next router x y a.0 b.0 in
      ap₂ (λ (n : Hop) (ns : List Hop). n ∷ ns) e (one_way y.router way other (subst (λ (n : Hop). ArriveBy net fibs addr n.router way) e a.1) b.1)
