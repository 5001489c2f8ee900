-- A packet fails alone the test that it fails at a router.
use Rattle.std.proofs.Common.{◌≡◌, ◌∙◌, ◌==◌, ◌&&◌, not, ℕ, Bool, true, false, if◌then◌else◌, List, [], ◌∷◌, ◌++◌, map, length, Option, Some, ap, refl, sym, subst, arith}
use Rattle.std.proofs.lemmas.Bool.Decides.{nat_tests}
use Rattle.prefix6.specs.Addr.{is_link_local}
use Rattle.ripng_wire.specs.Wire.{first_reason, is_response, wire_reasons}
use Rattle.ripng_capture.specs.Packets.{PacketValue}
use Rattle.router_core.specs.Config.{Config, is_own_address}
use Rattle.router_core.specs.Faults as router
use Rattle.router_core.specs.Faults.{asker_reasons, fault, neighbor_reasons, ripng_port}
use Rattle.router_core.specs.declared.arrival.Fault.{Fault}
use Rattle.router_core.specs.declared.arrival.Fault.TheVariants.{Wire, NotRipngPort, NotLinkLocal, OwnAddress, HopLimit, EmptyRequest}
use Rattle.ripng_show.specs.Judged.{arrival_reasons, arrived, fault_alone, group, reasons, request_reasons, response_reasons, sender_reasons}

-- reasons that come first do not matter
through : (ws xs ys : List (Bool × Fault)) → first_reason xs ≡ first_reason ys → first_reason (ws ++ xs) ≡ first_reason (ws ++ ys)
through [] xs ys h = h
through (w ∷ ws) xs ys h = ap (λ (o : Option Fault). if w.0 then Some w.1 else o) (through ws xs ys h)

-- nor which of two lists it is
picked : (b : Bool) (xs ys xs' ys' : List (Bool × Fault)) → first_reason xs ≡ first_reason xs' → first_reason ys ≡ first_reason ys'
    → first_reason (if b then xs else ys) ≡ first_reason (if b then xs' else ys')
picked true xs ys xs' ys' h k = h
picked false xs ys xs' ys' h k = k

-- a source that is not the router's own
senders : (config : Config) (p : PacketValue) (now iface : ℕ) → is_own_address config iface p.source ≡ false
    → first_reason (sender_reasons p) ≡ first_reason (neighbor_reasons config (arrived p now iface))
senders config p now iface other =
    subst (λ (own : Bool). first_reason (sender_reasons p) ≡ first_reason ((not (is_link_local p.source), NotLinkLocal)
    ∷ (own, OwnAddress) ∷ (p.destination == group && not (p.hop_limit == 255), HopLimit) ∷ [])) (sym other) refl

-- all reasons
pub judged_alike : (p : PacketValue) (config : Config) (now iface : ℕ) → p.destination_port ≡ 521 → is_own_address config iface p.source ≡ false
    → fault_alone p ≡ fault config (arrived p now iface)
judged_alike p config now iface port other =
    let x = arrived p now iface in
    let sent = senders config p now iface other in
    let response = through ((not (p.source_port == ripng_port), NotRipngPort) ∷ []) (sender_reasons p) (neighbor_reasons config x) sent in
    let asked = picked (p.source_port == ripng_port) (sender_reasons p) (asker_reasons x) (neighbor_reasons config x) (asker_reasons x) sent refl in
    let request = through ((length p.payload == 4, EmptyRequest) ∷ []) (if p.source_port == ripng_port then sender_reasons p else asker_reasons x)
    (if p.source_port == ripng_port then neighbor_reasons config x else asker_reasons x) asked in
    let arrival = picked (is_response p.payload) (response_reasons p) (request_reasons p) (router.response_reasons config x) (router.request_reasons config x) response request in
    let is_port : (p.destination_port == ripng_port) ≡ true = grind (arith, nat_tests) in
    let at_port : reasons p ≡ arrival_reasons p = ap (λ (b : Bool). if b then arrival_reasons p else []) is_port in
    let told = ap (λ (l : List (Bool × Fault)). first_reason l) at_port ∙ arrival in
    through (map (λ t. (t.0, Wire t.1)) (wire_reasons p.payload)) (reasons p) (router.arrival_reasons config x) told
