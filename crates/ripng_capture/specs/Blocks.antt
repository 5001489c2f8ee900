-- The blocks of a file of pcapng (draft-ietf-opsawg-pcapng, sections 3 and 4), in the order of bytes of the network.
use Rattle.std.specs.Prelude.{ℕ, ◌+◌, ◌-◌, ◌%◌, ◌^◌, nat_lt, if◌then◌else◌, List, [], ◌∷◌, ◌++◌, length, replicate, Option, Some, None}
use Rattle.byteorder.specs.Endian.{big_bytes}
use Rattle.ripng_capture.specs.Packets.{PacketValue, packet_bytes}

-- bytes up to a multiple of 4, with zeros
abbrev pub padded : List ℕ → List ℕ
padded bytes = bytes ++ replicate ((4 - length bytes % 4) % 4) 0

-- a block of a type: its length stands at both ends
abbrev pub block : ℕ → List ℕ → List ℕ
block kind body = big_bytes 4 kind ++ big_bytes 4 (12 + length body) ++ body ++ big_bytes 4 (12 + length body)

-- an option of a block, and the option that ends them
abbrev pub option : ℕ → List ℕ → List ℕ
option code value = big_bytes 2 code ++ big_bytes 2 (length value) ++ padded value

abbrev pub no_more_options : List ℕ
no_more_options = 0 ∷ 0 ∷ 0 ∷ 0 ∷ []

-- a section begins: the number that shows the order of bytes, version 1.0, and no length
abbrev pub section_block_of : List ℕ
section_block_of = block 168627466 (big_bytes 4 439041101 ++ big_bytes 2 1 ++ big_bytes 2 0 ++ replicate 8 255)

-- an interface: link type 229, whose packets begin with the header of IPv6; any length; its name (2); times in 10^-3 seconds (9)
abbrev pub interface_block_of : List ℕ → List ℕ
interface_block_of name = block 1 (big_bytes 2 229 ++ big_bytes 2 0 ++ big_bytes 4 0 ++ option 2 name ++ option 9 (3 ∷ []) ++ no_more_options)

-- a comment (1), if there is one that an option has room for
abbrev pub comment_options : Option (List ℕ) → List ℕ
comment_options None = []
comment_options (Some comment) = if nat_lt (length comment) (2 ^ 16) then option 1 comment ++ no_more_options else []

-- a packet, whole, of the interface of that number, at that time
unfoldable pub packet_body : ℕ → ℕ → List ℕ → Option (List ℕ) → List ℕ
packet_body interface now bytes comment =
    big_bytes 4 interface ++ big_bytes 8 now ++ big_bytes 4 (length bytes) ++ big_bytes 4 (length bytes) ++ padded bytes ++ comment_options comment

abbrev pub packet_block_of : ℕ → ℕ → PacketValue → Option (List ℕ) → List ℕ
packet_block_of interface now p comment = block 6 (packet_body interface now (packet_bytes p) comment)
