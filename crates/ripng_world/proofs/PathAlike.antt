-- A way in a network is one in each network with the same links and addresses.
use Rattle.std.proofs.Common.{◌≡◌, ℕ, List, [], ◌∷◌, Option, Some, None, option_map, refl, ap, sym, ◌∙◌}
use Rattle.ripng_world.specs.Network.{Network, interface_at}
use Rattle.ripng_world.specs.Packets.{Forwardings, HandsOn, ArriveBy}
use Rattle.ripng_world.specs.Path.{AreHandedOn, ForwardsToNobody, IsPath, LeadsTo, PathValue}
use Rattle.ripng_world.specs.Walks.{Hop, end_of}
use Rattle.ripng_world.specs.declared.network.NetInterface.{NetInterface}
use Rattle.ripng_world.proofs.NetworkNow.{AreAlike, alike_back, linked_alike, place_of}

address_of_place : (o : Option NetInterface) → option_map (λ (x : ℕ × ℕ × ℕ × ℕ). x.1) (option_map place_of o) ≡ option_map (λ (i : NetInterface). i.interface.addr) o
address_of_place None = refl
address_of_place (Some i) = refl

module _ (net other : Network) (same : AreAlike net other) where
  same_address : (router iface : ℕ) → option_map (λ (i : NetInterface). i.interface.addr) (interface_at other router iface) ≡ option_map (λ (i : NetInterface). i.interface.addr) (interface_at net router iface)
  same_address router iface =
      sym (address_of_place (interface_at other router iface))
      ∙ ap (option_map (λ (x : ℕ × ℕ × ℕ × ℕ). x.1)) (same.places router iface)
      ∙ address_of_place (interface_at net router iface)

  leads_alike : (router iface next_hop : ℕ) (h : Hop) → LeadsTo net router iface next_hop h → LeadsTo other router iface next_hop h
  leads_alike router iface next_hop h x =
      record {
        leaves = x.leaves;
        is_hop = (x.is_hop.0, linked_alike net other same router h.iface h.router h.router_iface x.is_hop.1);
        address = same_address h.router h.router_iface ∙ x.address;
      }

  module _ (fibs : Forwardings) (addr : ℕ) where
    hands_alike : (router : ℕ) (h : Hop) → HandsOn net fibs addr router h → HandsOn other fibs addr router h
    hands_alike router h x =
        let l = leads_alike router h.iface x.next_hop h (record { leaves = refl; is_hop = x.is_hop; address = x.address }) in
        record { next_hop = x.next_hop; by = x.by; is_hop = l.is_hop; address = l.address }

    handed_alike : (router : ℕ) (way : List Hop) → AreHandedOn net fibs addr router way → AreHandedOn other fibs addr router way
    handed_alike router [] all = tt
    handed_alike router (h ∷ way) all = (hands_alike router h all.0, handed_alike h.router way all.1)

    arrive_alike : (router : ℕ) (way : List Hop) → ArriveBy net fibs addr router way → ArriveBy other fibs addr router way
    arrive_alike router [] arrive = arrive
    arrive_alike router (h ∷ way) arrive = (hands_alike router h arrive.0, arrive_alike h.router way arrive.1)

nobody_alike : (net other : Network) (same : AreAlike net other) (fibs : Forwardings) (addr router : ℕ) → ForwardsToNobody net fibs addr router → ForwardsToNobody other fibs addr router
nobody_alike net other same fibs addr router x =
    record { iface = x.iface; next_hop = x.next_hop; by = x.by; nobody = λ h leads. x.nobody h (leads_alike other net (alike_back net other same) router x.iface x.next_hop h leads) }

pub path_alike : (net other : Network) (same : AreAlike net other) (fibs : Forwardings) (addr router : ℕ) (path : PathValue) → IsPath net fibs addr router path → IsPath other fibs addr router path
path_alike net other same fibs addr router path is =
    let back = alike_back net other same in
    record {
      handed_on = handed_alike net other same fibs addr router path.hops is.handed_on;
      once = is.once;
      delivered = (λ e. arrive_alike net other same fibs addr router path.hops (is.delivered.0 e), λ arrive. is.delivered.1 (arrive_alike other net back fibs addr router path.hops arrive));
      no_route = is.no_route;
      nobodys = (λ e. nobody_alike net other same fibs addr (end_of router path.hops) (is.nobodys.0 e), λ nobody. is.nobodys.1 (nobody_alike other net back fibs addr (end_of router path.hops) nobody));
      loops = is.loops;
    }
