-- What `show` writes of a datagram (the format is this project's choice).
use Rattle.std.specs.Prelude.{◌≡◌, ℕ, Bool, true, false, List, [], ◌∷◌, ◌++◌, length, codes, decimal, Some, MatchResult, if◌then◌else◌}
use Rattle.std.specs.List.{enumerate_from, flat_map}
use Rattle.hex.specs.Hex.{decode_of}
use Rattle.prefix6.specs.Written.{written_addr}
use Rattle.ripng_wire.specs.Layout.{Spells, is_next_hop}
use Rattle.ripng_wire.specs.Wire.{wire_error_text, wire_fault}
use Rattle.ripng_wire.specs.declared.rte.Command.{Command}
use Rattle.ripng_wire.specs.declared.rte.Command.TheVariants.{Request, Response}
use Rattle.ripng_wire.specs.declared.rte.Rte.{Rte}
use Rattle.ripng_wire.specs.declared.error.WireError.{WireError}

-- the end of a line
abbrev pub newline : List ℕ
newline = 10 ∷ []

-- the word for a command
abbrev pub command_text : Command → List ℕ
command_text Request = codes "request"
command_text Response = codes "response"

-- `request entries N` or `response entries N`
abbrev pub head_line : Command → ℕ → List ℕ
head_line command count = command_text command ++ (codes " entries " ++ (decimal count ++ newline))

-- `I nexthop ADDR`
abbrev pub next_hop_line : ℕ → Rte → List ℕ
next_hop_line i e = decimal i ++ (codes " nexthop " ++ (written_addr e.addr ++ newline))

-- `I ADDR/LEN tag TAG metric M`
abbrev pub route_line : ℕ → Rte → List ℕ
route_line i e = decimal i ++ (codes " " ++ (written_addr e.addr ++ (codes "/" ++ (decimal e.len
    ++ (codes " tag " ++ (decimal e.tag ++ (codes " metric " ++ (decimal e.metric ++ newline))))))))

-- the line of the entry with a number
unfoldable pub entry_line : ℕ → Rte → List ℕ
entry_line i e = if is_next_hop e then next_hop_line i e else route_line i e

-- the head, and a line for each entry, numbered from 0
abbrev pub listing : Command → List Rte → List ℕ
listing command entries = head_line command (length entries)
    ++ flat_map (λ p. entry_line p.0 p.1) (enumerate_from 0 entries)

-- the line for bytes that are refused: `refused NUMBER NAME`
abbrev pub refusal_line : WireError → List ℕ
refusal_line e = codes "refused " ++ (wire_error_text e ++ newline)

-- the text for some bytes, and whether they are a datagram
abbrev pub IsBytesText : List ℕ → Bool → List ℕ → Type 0
IsBytesText bytes true text = (command : Command) × (entries : List Rte)
    × Spells command entries bytes × (text ≡ listing command entries)
IsBytesText bytes false text =
    (e : WireError) × (wire_fault bytes ≡ Some e) × (text ≡ refusal_line e)

-- the text for hexadecimal digits, and whether they stand for a datagram
abbrev pub IsShown : List ℕ → Bool → List ℕ → Type 0
IsShown hex accepted text = MatchResult (decode_of hex) (λ bytes. IsBytesText bytes accepted text)
    (λ _. (accepted ≡ false) × (text ≡ codes "refused bad hex" ++ newline))
