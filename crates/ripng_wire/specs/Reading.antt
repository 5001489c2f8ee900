-- What the bytes of a datagram are read as (RFC 2080, 2.1). `decode` is proved to read exactly what `Spells` says.
use Rattle.std.specs.Prelude.{ℕ, zero, suc, ◌≤◌, ◌/◌, List, [], ◌∷◌, length, drop, slice_index, All}
use Rattle.byteorder.specs.Endian.{big_number}
use Rattle.ripng_wire.specs.declared.rte.Command.{Command}
use Rattle.ripng_wire.specs.declared.rte.Rte.{Rte}
use Rattle.ripng_wire.specs.Layout.{Fits, most_entries}

-- a datagram as contracts see it
pub record MessageValue : Type 0 where
  pub command : Command
  pub entries : List Rte

-- a datagram that some bytes spell
pub record IsMessage (m : MessageValue) : Type 0 where
  pub few : length m.entries ≤ most_entries
  pub fit : All Fits m.entries

-- the entry in the first 20 bytes
unfoldable pub entry_of : List ℕ → Rte
entry_of bytes = record {
  addr = big_number 16 bytes;
  tag = big_number 2 (drop 16 bytes);
  len = slice_index bytes 18;
  metric = slice_index bytes 19;
}

-- the first n entries
unfoldable pub first_entries : ℕ → List ℕ → List Rte
first_entries zero bytes = []
first_entries (suc n) bytes = entry_of bytes ∷ first_entries n (drop 20 bytes)

-- all whole entries
abbrev pub entries_of : List ℕ → List Rte
entries_of bytes = first_entries (length bytes / 20) bytes
