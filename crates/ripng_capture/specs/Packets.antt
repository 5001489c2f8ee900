-- A datagram of UDP over IPv6 as bytes. Numbers stand highest byte first.
use Rattle.std.specs.Prelude.{ℕ, ◌+◌, List, [], ◌∷◌, ◌++◌, length}
use Rattle.byteorder.specs.Endian.{big_bytes}
use Rattle.ripng_capture.specs.Checksum.{checksum_of}

-- a datagram of UDP over IPv6: its payload is what stands behind both headers
pub record PacketValue : Type 0 where
  pub source : ℕ
  pub destination : ℕ
  pub source_port : ℕ
  pub destination_port : ℕ
  pub hop_limit : ℕ
  pub payload : List ℕ

-- the length of a payload with the header of UDP (RFC 768)
abbrev pub udp_len : PacketValue → ℕ
udp_len p = 8 + length p.payload

-- the header of UDP with some checksum, and the payload (RFC 768)
abbrev pub udp_bytes : PacketValue → ℕ → List ℕ
udp_bytes p checksum = big_bytes 2 p.source_port ++ big_bytes 2 p.destination_port ++ big_bytes 2 (udp_len p) ++ big_bytes 2 checksum ++ p.payload

-- what the checksum is of: the pseudo-header, and the datagram with 0 for its checksum (RFC 8200, 8.1)
unfoldable pub summed_bytes : PacketValue → List ℕ
summed_bytes p = big_bytes 16 p.source ++ big_bytes 16 p.destination ++ big_bytes 4 (udp_len p) ++ (0 ∷ 0 ∷ 0 ∷ 17 ∷ []) ++ udp_bytes p 0

-- version 6, no traffic class and no flow label; 17 is the number of UDP (RFC 8200, 3)
abbrev pub ipv6_header : PacketValue → List ℕ
ipv6_header p = (96 ∷ 0 ∷ 0 ∷ 0 ∷ []) ++ big_bytes 2 (udp_len p) ++ (17 ∷ p.hop_limit ∷ []) ++ big_bytes 16 p.source ++ big_bytes 16 p.destination

-- the packet, with the right checksum
unfoldable pub packet_bytes : PacketValue → List ℕ
packet_bytes p = ipv6_header p ++ udp_bytes p (checksum_of (summed_bytes p))
