-- Which of the tests of a router a packet fails, as far as it tells by itself (RFC 2080, 2.4.1 and 2.4.2).
use Rattle.std.specs.Prelude.{ℕ, ◌==◌, ◌&&◌, not, Bool, if◌then◌else◌, List, [], ◌∷◌, ◌++◌, map, length, Option}
use Rattle.prefix6.specs.Addr.{is_link_local}
use Rattle.ripng_wire.specs.Wire.{first_reason, is_response, wire_reasons}
use Rattle.ripng_capture.specs.Packets.{PacketValue}
use Rattle.router_core.specs.Faults.{asker_reasons, ripng_port}
use Rattle.router_core.specs.Received.{Received}
use Rattle.router_core.specs.declared.arrival.Fault.{Fault}
use Rattle.router_core.specs.declared.arrival.Fault.TheVariants.{Wire, NotRipngPort, NotLinkLocal, HopLimit, EmptyRequest}

-- FF02::9, the group of all RIPng routers (RFC 2080, 2.5)
abbrev pub group : ℕ
group = 338963523518870617245727861364146307081

-- the packet as it comes to an interface of a router
abbrev pub arrived : PacketValue → ℕ → ℕ → Received
arrived p now iface = record {
  now = now;
  iface = iface;
  source = p.source;
  source_port = p.source_port;
  hop_limit = p.hop_limit;
  to_group = p.destination == group;
  bytes = p.payload;
}

-- the reasons to doubt that the sender is a router of the same link, but not that its address is the router's own
abbrev pub sender_reasons : PacketValue → List (Bool × Fault)
sender_reasons p = (not (is_link_local p.source), NotLinkLocal) ∷ (p.destination == group && not (p.hop_limit == 255), HopLimit) ∷ []

-- those to refuse a Response
abbrev pub response_reasons : PacketValue → List (Bool × Fault)
response_reasons p = (not (p.source_port == ripng_port), NotRipngPort) ∷ sender_reasons p

-- those to refuse a Request
abbrev pub request_reasons : PacketValue → List (Bool × Fault)
request_reasons p =
    (length p.payload == 4, EmptyRequest) ∷ (if p.source_port == ripng_port then sender_reasons p else asker_reasons (arrived p 0 0))

-- those to refuse a datagram that goes to the port of RIPng; one that goes elsewhere meets no router
abbrev pub arrival_reasons : PacketValue → List (Bool × Fault)
arrival_reasons p = if is_response p.payload then response_reasons p else request_reasons p

abbrev pub reasons : PacketValue → List (Bool × Fault)
reasons p = if p.destination_port == ripng_port then arrival_reasons p else []

-- why the packet is refused, if it is: the first reason that applies
abbrev pub fault_alone : PacketValue → Option Fault
fault_alone p = first_reason (map (λ t. (t.0, Wire t.1)) (wire_reasons p.payload) ++ reasons p)
