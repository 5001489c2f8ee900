-- The names that the clauses of this crate cite, passed on from one place. Declares nothing.
pub use Rattle.std.specs.Iterator.{UpTo, YieldsFirst, at_most, item_count}
pub use Rattle.std.specs.Iterator.SizeHint.{IsWithinCount}
pub use Rattle.std.specs.Result.{result_err}
pub use Rattle.ripng_wire.specs.Layout.{Spells, Fits, command_byte, is_next_hop, entries_for_mtu, most_entries}
pub use Rattle.ripng_wire.specs.Reading.{IsMessage, MessageValue, entries_of, entry_of}
pub use Rattle.ripng_wire.specs.Wire.{wire_fault}
pub use Rattle.ripng_wire.specs.declared.rte.Command.{Command}
pub use Rattle.ripng_wire.specs.declared.rte.Rte.{Rte}
