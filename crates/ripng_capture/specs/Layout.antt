-- Where a capture is damaged (draft-ietf-opsawg-pcapng, sections 3 and 4; draft-ietf-opsawg-pcap).
use Rattle.std.specs.Prelude.{ℕ, ◌-◌, ◌%◌, ◌==◌, ◌||◌, ◌&&◌, not, nat_lt, Bool, if◌then◌else◌, List, [], ◌∷◌, length, drop, Option}
use Rattle.ripng_capture.specs.Numbers.{first_reason, number_in}
use Rattle.ripng_capture.specs.declared.damage.Damage.{Damage}
use Rattle.ripng_capture.specs.declared.damage.Damage.TheVariants.{NotACapture, BadVersion, BadByteOrder, Cut, BadLength, LengthsDiffer}
use Rattle.ripng_capture.specs.declared.number.Endianness.{Endianness}
use Rattle.ripng_capture.specs.declared.number.Endianness.TheVariants.{Big, Little}

-- the number in n bytes from a place
abbrev pub number_at : Endianness → ℕ → ℕ → List ℕ → ℕ
number_at order n place bytes = number_in order n (drop place bytes)

-- the number that shows the order of bytes has this place in the first block of a section
abbrev pub shows_order : Endianness → List ℕ → Bool
shows_order order bytes = number_at order 4 8 bytes == 439041101

-- why a section does not begin here
abbrev pub order_fault : List ℕ → Option Damage
order_fault bytes = first_reason (
    (nat_lt (length bytes) 12, Cut)
    ∷ (not (shows_order Big bytes || shows_order Little bytes), BadByteOrder)
    ∷ [])

-- the length that a block has at its beginning
abbrev pub block_len : Endianness → List ℕ → ℕ
block_len order bytes = number_at order 4 4 bytes

-- why no block begins here
abbrev pub block_fault : Endianness → List ℕ → Option Damage
block_fault order bytes = let len = block_len order bytes in first_reason (
    (nat_lt (length bytes) 12, Cut)
    ∷ (nat_lt len 12 || not (len % 4 == 0), BadLength)
    ∷ (nat_lt (length bytes) len, Cut)
    ∷ (not (number_at order 4 (len - 4) bytes == len), LengthsDiffer)
    ∷ [])

-- how many bytes of a packet its block has
abbrev pub captured_len : Endianness → List ℕ → ℕ
captured_len order body = number_at order 4 12 body

-- why the body of a block has no packet
abbrev pub captured_fault : Endianness → List ℕ → Option Damage
captured_fault order body = first_reason (
    (nat_lt (length body) 20, BadLength)
    ∷ (nat_lt (length body - 20) (captured_len order body), BadLength)
    ∷ [])

-- why no record of pcap begins here
abbrev pub record_fault : Endianness → List ℕ → Option Damage
record_fault order bytes = first_reason (
    (nat_lt (length bytes) 16, Cut)
    ∷ (nat_lt (length bytes - 16) (number_at order 4 8 bytes), Cut)
    ∷ [])

-- the number that a file of pcap begins with, whose times are in microseconds or in nanoseconds
abbrev pub is_pcap : Endianness → List ℕ → Bool
is_pcap order file = number_in order 4 file == 2712847316 || number_in order 4 file == 2712812621

-- the order of a file of pcap
abbrev pub pcap_order : List ℕ → Endianness
pcap_order file = if is_pcap Big file then Big else Little

-- a file of pcapng begins with a section, in either order
abbrev pub is_pcapng : List ℕ → Bool
is_pcapng file = number_in Big 4 file == 168627466

-- why a file is no capture
abbrev pub beginning_fault : List ℕ → Option Damage
beginning_fault file = first_reason (
    (nat_lt (length file) 4, NotACapture)
    ∷ (not (is_pcapng file || is_pcap Big file || is_pcap Little file), NotACapture)
    ∷ (not (is_pcapng file) && nat_lt (length file) 24, Cut)
    ∷ (not (is_pcapng file) && not (number_at (pcap_order file) 2 4 file == 2), BadVersion)
    ∷ [])
