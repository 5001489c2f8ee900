-- The layout of a RIPng datagram (RFC 2080, 2.1): a header of 4 bytes, then entries of 20 bytes each.
-- Numbers stand highest byte first.
use Rattle.std.specs.Prelude.{◌≡◌, ℕ, ◌-◌, ◌/◌, ◌^◌, ◌<◌, ◌≤◌, ◌==◌, Bool, List, [], ◌∷◌, ◌++◌, length, flat_map, All}
use Rattle.byteorder.specs.Endian.{big_bytes}
use Rattle.ripng_wire.specs.declared.rte.Command.{Command}
use Rattle.ripng_wire.specs.declared.rte.Command.TheVariants.{Request, Response}
use Rattle.ripng_wire.specs.declared.rte.Rte.{Rte}

-- every number of an entry fits its field (RFC 2080, 2.1)
pub record Fits (e : Rte) : Type 0 where
  pub addr : e.addr < 2 ^ 128
  pub tag : e.tag < 2 ^ 16
  pub len : e.len < 2 ^ 8
  pub metric : e.metric < 2 ^ 8

-- an entry: 16 bytes of the address, 2 of the route tag, 1 of the prefix length and 1 of the metric (RFC 2080, 2.1)
unfoldable pub entry_bytes : Rte → List ℕ
entry_bytes e = big_bytes 16 e.addr ++ big_bytes 2 e.tag ++ e.len ∷ e.metric ∷ []

-- the byte of a command (RFC 2080, 2.1)
abbrev pub command_byte : Command → ℕ
command_byte Request = 1
command_byte Response = 2

-- the version of RIPng (RFC 2080, 2.1)
abbrev pub version : ℕ
version = 1

-- the most entries of a datagram: UDP gives its length in 16 bits (RFC 768)
abbrev pub most_entries : ℕ
most_entries = 3276

-- the bytes are the datagram: command, version, two zero bytes, and the entries in order (RFC 2080, 2.1)
pub record Spells (command : Command) (entries : List Rte) (bytes : List ℕ) : Type 0 where
  pub bytes_are : bytes ≡ command_byte command ∷ version ∷ 0 ∷ 0 ∷ flat_map entry_bytes entries
  pub few : length entries ≤ most_entries
  pub fit : All Fits entries

-- how many entries the MTU of a link leaves room for, after the headers of IPv6 (40 bytes), UDP (8) and RIPng (4)
abbrev pub entries_for_mtu : ℕ → ℕ
entries_for_mtu mtu = (mtu - 52) / 20

-- a next hop entry is marked by its metric (RFC 2080, 2.1.1)
abbrev pub is_next_hop : Rte → Bool
is_next_hop e = e.metric == 255
