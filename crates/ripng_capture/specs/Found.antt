-- The datagram that stands in a frame.
use Rattle.std.specs.Prelude.{◌≡◌, ◌≤◌, ℕ, ◌+◌, ◌-◌, ◌/◌, List, length, take, drop, slice_index}
use Rattle.byteorder.specs.Endian.{big_number}
use Rattle.ripng_capture.specs.Packets.{PacketValue}

-- some bytes stand in others
abbrev pub StandsIn : List ℕ → List ℕ → Type 0
StandsIn whole part = (n : ℕ) × (n + length part ≤ length whole) × (part ≡ take (length part) (drop n whole))

-- the last bytes of some bytes
abbrev pub IsTail : List ℕ → List ℕ → Type 0
IsTail whole tail = (n : ℕ) × (n ≤ length whole) × (tail ≡ drop n whole)

-- the length that the header of UDP has, with its own 8 bytes (RFC 768)
abbrev pub udp_len : List ℕ → ℕ
udp_len datagram = big_number 2 (drop 4 datagram)

-- bytes begin with the header of IPv6, which has the addresses and the hop limit of a packet (RFC 8200, 3)
pub record HasAddresses (bytes : List ℕ) (p : PacketValue) : Type 0 where
  pub version : slice_index bytes 0 / 16 ≡ 6
  pub hop_limit : slice_index bytes 7 ≡ p.hop_limit
  pub source : big_number 16 (drop 8 bytes) ≡ p.source
  pub destination : big_number 16 (drop 24 bytes) ≡ p.destination

-- bytes begin with the header of UDP, which has its ports, and behind it its payload (RFC 768)
pub record HasPorts (bytes : List ℕ) (p : PacketValue) : Type 0 where
  pub source_port : big_number 2 bytes ≡ p.source_port
  pub destination_port : big_number 2 (drop 2 bytes) ≡ p.destination_port
  pub payload : take (udp_len bytes - 8) (drop 8 bytes) ≡ p.payload
  pub whole : length p.payload ≡ udp_len bytes - 8

-- somewhere in the frame stands a header of IPv6 of the packet, and somewhere in what it says is behind it one of UDP
abbrev pub IsPacketIn : List ℕ → PacketValue → Type 0
IsPacketIn frame p =
    (header : List ℕ) × IsTail frame header × HasAddresses header p
    × (datagram : List ℕ) × IsTail (take (big_number 2 (drop 4 header)) (drop 40 header)) datagram × HasPorts datagram p
