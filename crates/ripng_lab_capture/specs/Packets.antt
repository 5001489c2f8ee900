-- The packets of a laboratory.
use Rattle.std.specs.Prelude.{ℕ, ◌==◌, if◌then◌else◌, List, length, Option, Some, None, string_bytes}
use Rattle.ripng_world.specs.declared.event.Sent.{Sent}
use Rattle.ripng_capture.specs.Packets.{PacketValue}
use Rattle.ripng_lab_capture.specs.declared.seen.Seen.{Seen}
use Rattle.router_core.specs.Received.{Received}
use Rattle.router_core.specs.declared.answer.Destination.{Destination}
use Rattle.router_core.specs.declared.answer.Destination.TheVariants.{Group, Peer}

-- FF02::9, the group of all RIPng routers (RFC 2080, 2.5)
abbrev pub group : ℕ
group = 338963523518870617245727861364146307081

-- where a datagram goes to
abbrev pub address_of : Destination → ℕ
address_of Group = group
address_of (Peer addr port) = addr

abbrev pub port_of : Destination → ℕ
port_of Group = 521
port_of (Peer addr port) = port

-- a datagram that a router sends from an address, with hop limit 255 (RFC 2080, 2.5.2)
abbrev pub packet_sent : ℕ → Sent → PacketValue
packet_sent source d = record {
  source = source;
  destination = address_of d.to;
  source_port = 521;
  destination_port = port_of d.to;
  hop_limit = 255;
  payload = d.bytes;
}

-- one that comes to the interface with an address
abbrev pub packet_arrived : ℕ → Received → PacketValue
packet_arrived addr x = record {
  source = x.source;
  destination = if x.to_group then group else addr;
  source_port = x.source_port;
  destination_port = 521;
  hop_limit = x.hop_limit;
  payload = x.bytes;
}

-- what was seen, as a packet
abbrev pub packet_seen : Seen → PacketValue
packet_seen s = record {
  source = s.source;
  destination = s.destination;
  source_port = s.source_port;
  destination_port = s.destination_port;
  hop_limit = s.hop_limit;
  payload = s.payload.items;
}

-- what is said of it, if anything is
abbrev pub comment_of : Seen → Option (List ℕ)
comment_of s = if length (string_bytes s.comment) == 0 then None else Some (string_bytes s.comment)
