-- What the tests of an event come to, where the checks of a router and of an interface have passed.
use Rattle.std.proofs.Common.{◌≡◌, ℕ, ◌<◌, ◌≤◌, Bool, true, false, not, cond, nat_le, List, [], ◌∷◌, length, Option, Some, None, option_map, option_and_then, slice_get, refl, ap, ap₂, sym, subst, ◌∙◌, arith}
use Rattle.std.specs.Option.{option_map_or}
use Rattle.std.proofs.lemmas.Bool.Decides.{nat_tests}
use Rattle.std.proofs.lemmas.Option.{slice_get-map, slice_get_past}
use Rattle.ripng_wire.specs.Wire.{first_reason}
use Rattle.router_core.proofs.ReasonsOfEach.{first_reason-append}
use Rattle.router_core.specs.Machine.{State}
use Rattle.router_core.specs.Received.{Received}
use Rattle.ripng_world.specs.Labs.{LabValue, event_fault, is_heard_at, is_one_link, link_at, link_of_datagram, missing_interface_reasons, missing_router_reasons}
use Rattle.ripng_world.specs.Lying.{lie_fault}
use Rattle.ripng_world.specs.Network.{Network, Node, interface_at}
use Rattle.ripng_world.specs.Stations.{StationValue, network_of}
use Rattle.ripng_world.specs.World.{World, Deliver, Stranger, is_heard}
use Rattle.ripng_world.specs.declared.event.LabError.TheVariants.{NoSuchRouter, NoSuchDatagram, OtherLink, NotAStranger, NotALiar}
use Rattle.ripng_world.specs.declared.event.Sent.{Sent}

-- ---- a router, and an interface of it

pub present : (net : Network) (router routers : ℕ) → routers ≡ length net → router < routers → None ≡ first_reason (missing_router_reasons net router)
present net router routers same here =
    let passed : nat_le (length net) router ≡ false = grind (arith, nat_tests, same, here) in
    ap (λ (b : Bool). cond b (Some NoSuchRouter) None) (sym passed)

pub absent : (net : Network) (router routers : ℕ) → routers ≡ length net → routers ≤ router → Some NoSuchRouter ≡ first_reason (missing_router_reasons net router)
absent net router routers same past =
    let failed : nat_le (length net) router ≡ true = grind (arith, nat_tests, same, past) in
    ap (λ (b : Bool). cond b (Some NoSuchRouter) None) (sym failed)

pub interface_of : (stations : List StationValue) (router iface : ℕ) (s : StationValue) → slice_get stations router ≡ Some s
    → interface_at (network_of stations) router iface ≡ slice_get s.node.interfaces iface
interface_of stations router iface s here =
    ap (option_and_then (λ (n : Node). slice_get n.interfaces iface)) (slice_get-map (λ (t : StationValue). t.node) stations router ∙ ap (option_map (λ (t : StationValue). t.node)) here)

pub no_interface : (stations : List StationValue) (router iface : ℕ) → length stations ≤ router → interface_at (network_of stations) router iface ≡ None
no_interface stations router iface past =
    ap (option_and_then (λ (n : Node). slice_get n.interfaces iface))
    (slice_get-map (λ (t : StationValue). t.node) stations router ∙ ap (option_map (λ (t : StationValue). t.node)) (slice_get_past stations router past))

-- ---- where there is such an interface

module _ (lab : LabValue) (router iface : ℕ) (there : None ≡ first_reason (missing_interface_reasons lab.network router iface)) (datagram now : ℕ) where
  tested : (past other : Bool) → nat_le (length lab.world.sent) datagram ≡ past
      → not (is_one_link (link_of_datagram lab datagram) (link_at lab.network router iface)) ≡ other
      → event_fault lab (Deliver datagram router iface now) ≡ cond past (Some NoSuchDatagram) (cond other (Some OtherLink) None)
  tested past other p q =
      first_reason-append (missing_interface_reasons lab.network router iface) (
      (nat_le (length lab.world.sent) datagram, NoSuchDatagram)
      ∷ (not (is_one_link (link_of_datagram lab datagram) (link_at lab.network router iface)), OtherLink)
      ∷ []
      ) (sym there)
      ∙ ap₂ (λ (a b : Bool). cond a (Some NoSuchDatagram) (cond b (Some OtherLink) None)) p q

  pub no_datagram : length lab.world.sent ≤ datagram → Some NoSuchDatagram ≡ event_fault lab (Deliver datagram router iface now)
  no_datagram past =
      let failed : nat_le (length lab.world.sent) datagram ≡ true = grind (arith, nat_tests, past) in
      sym (tested true _ failed refl)

  module _ (d : Sent) (own : Option ℕ) (link : ℕ) (few : datagram < length lab.world.sent) (is : slice_get lab.world.sent datagram ≡ Some d) (own_is : link_at lab.network d.router d.iface ≡ own)
      (link_is : link_at lab.network router iface ≡ Some link) where
    passed : nat_le (length lab.world.sent) datagram ≡ false
    passed = grind (arith, nat_tests, few)

    links : is_one_link (link_of_datagram lab datagram) (link_at lab.network router iface) ≡ is_one_link own (Some link)
    links = ap₂ is_one_link (ap (option_and_then (λ (x : Sent). link_at lab.network x.router x.iface)) is ∙ own_is) link_is

    pub delivery_tested : (b : Bool) → is_one_link own (Some link) ≡ b → cond (not b) (Some OtherLink) None ≡ event_fault lab (Deliver datagram router iface now)
    delivery_tested b same = sym (tested false (not b) passed (ap not (links ∙ same)))

-- ---- whether the router would accept it

pub there_as : (net : Network) (router : ℕ) (x y : Received) → y ≡ x → None ≡ first_reason (missing_interface_reasons net router y.iface) → None ≡ first_reason (missing_interface_reasons net router x.iface)
there_as net router x y same there = subst (λ (z : Received). None ≡ first_reason (missing_interface_reasons net router z.iface)) same there

module _ (lab : LabValue) (router : ℕ) (x : Received) (there : None ≡ first_reason (missing_interface_reasons lab.network router x.iface)) (b : Bool) (heard : is_heard_at lab.world router x ≡ b) where
  pub stranger_tested : cond b (Some NotAStranger) None ≡ event_fault lab (Stranger router x)
  stranger_tested =
      sym (first_reason-append (missing_interface_reasons lab.network router x.iface) ((is_heard_at lab.world router x, NotAStranger) ∷ []) (sym there)
      ∙ ap (λ (a : Bool). cond a (Some NotAStranger) None) heard)

  pub lie_tested : cond (not b) (Some NotALiar) None ≡ lie_fault lab router x
  lie_tested =
      sym (first_reason-append (missing_interface_reasons lab.network router x.iface) ((not (is_heard_at lab.world router x), NotALiar) ∷ []) (sym there)
      ∙ ap (λ (a : Bool). cond (not a) (Some NotALiar) None) heard)

pub heard_at : (w : World) (router : ℕ) (x : Received) (o : Option State) (b : Bool) → o ≡ slice_get w.states router → option_map_or (λ s. is_heard s x) o false ≡ b → is_heard_at w router x ≡ b
heard_at w router x o b at is = ap (λ (p : Option State). option_map_or (λ s. is_heard s x) p false) (sym at) ∙ is
