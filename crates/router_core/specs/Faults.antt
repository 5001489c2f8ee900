-- Which arrivals are refused (RFC 2080, 2.4.1 and 2.4.2).
use Rattle.std.specs.Prelude.{ℕ, ◌==◌, ◌&&◌, ◌||◌, not, Bool, if◌then◌else◌, List, [], ◌∷◌, ◌++◌, map, length, codes, decimal, Option}
use Rattle.prefix6.specs.Addr.{is_link_local, is_multicast, is_unspecified}
use Rattle.ripng_wire.specs.Wire.{first_reason, wire_reasons, is_response, wire_error_name, wire_error_number}
use Rattle.router_core.specs.Config.{Config, is_own_address}
use Rattle.router_core.specs.Received.{Received}
use Rattle.router_core.specs.declared.arrival.Fault.{Fault}
use Rattle.router_core.specs.declared.arrival.Fault.TheVariants.{Wire, NotRipngPort, NotLinkLocal, OwnAddress, HopLimit, EmptyRequest, BadSource}

-- the UDP port of RIPng (RFC 2080, 2.1)
abbrev pub ripng_port : ℕ
ripng_port = 521

-- the reasons to doubt that the sender is a router of the same link, each with whether it applies (RFC 2080, 2.4.2)
abbrev pub neighbor_reasons : Config → Received → List (Bool × Fault)
neighbor_reasons config x =
    (not (is_link_local x.source), NotLinkLocal)
    ∷ (is_own_address config x.iface x.source, OwnAddress)
    ∷ (x.to_group && not (x.hop_limit == 255), HopLimit)
    ∷ []

-- the reasons to refuse a Response (RFC 2080, 2.4.2)
abbrev pub response_reasons : Config → Received → List (Bool × Fault)
response_reasons config x = (not (x.source_port == ripng_port), NotRipngPort) ∷ neighbor_reasons config x

-- the reasons to refuse a Request that does not come from a router, but from a management tool (RFC 2080, 2.1 and 2.4.1)
abbrev pub asker_reasons : Received → List (Bool × Fault)
asker_reasons x = (is_multicast x.source || is_unspecified x.source || x.source_port == 0, BadSource) ∷ []

-- the reasons to refuse a Request (RFC 2080, 2.4.1)
abbrev pub request_reasons : Config → Received → List (Bool × Fault)
request_reasons config x =
    (length x.bytes == 4, EmptyRequest) ∷ (if x.source_port == ripng_port then neighbor_reasons config x else asker_reasons x)

-- the reasons to refuse an arrival that is a datagram, in order
abbrev pub arrival_reasons : Config → Received → List (Bool × Fault)
arrival_reasons config x = if is_response x.bytes then response_reasons config x else request_reasons config x

-- why an arrival is refused, if it is: the first reason that applies
abbrev pub fault : Config → Received → Option Fault
fault config x = first_reason (map (λ t. (t.0, Wire t.1)) (wire_reasons x.bytes) ++ arrival_reasons config x)

-- the number of a fault, as it is printed
abbrev pub fault_number : Fault → ℕ
fault_number (Wire why) = wire_error_number why
fault_number NotRipngPort = 7
fault_number NotLinkLocal = 8
fault_number OwnAddress = 9
fault_number HopLimit = 10
fault_number EmptyRequest = 11
fault_number BadSource = 12

-- the name of a fault, as the variant is spelled
abbrev pub fault_name : Fault → List ℕ
fault_name (Wire why) = wire_error_name why
fault_name NotRipngPort = codes "NotRipngPort"
fault_name NotLinkLocal = codes "NotLinkLocal"
fault_name OwnAddress = codes "OwnAddress"
fault_name HopLimit = codes "HopLimit"
fault_name EmptyRequest = codes "EmptyRequest"
fault_name BadSource = codes "BadSource"

-- a fault as it is printed: `NUMBER NAME`
abbrev pub fault_text : Fault → List ℕ
fault_text why = decimal (fault_number why) ++ (codes " " ++ fault_name why)
