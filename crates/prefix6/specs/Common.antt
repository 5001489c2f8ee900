-- The names that the clauses of this crate cite, passed on from one place. Declares nothing.
pub use Rattle.std.specs.Cmp.{partial_order_from_own_ties}
pub use Rattle.std.specs.Cmp.Rules.{comparing}
pub use Rattle.std.specs.Int.{w128, to_be_bytes, from_be_bytes}
pub use Rattle.std.specs.Net.Text.{hex}
pub use Rattle.std.specs.Ordering.{nat_cmp, as_partial_cmp}
pub use Rattle.prefix6.specs.Addr.{is_link_local, is_multicast, is_unspecified, groups_of}
pub use Rattle.prefix6.specs.HalfWords.{AreHalves, same_high, same_low}
pub use Rattle.prefix6.specs.Halves.{IsUnder, IsMeet, middle}
pub use Rattle.prefix6.specs.Prefix.{Prefix6, IsPrefix, Holds, first_bits, cleared, is_routable, prefix_cmp}
pub use Rattle.prefix6.specs.Text.{ReadsAs, Reads, ReadsPrefix, IsLengthText, address_part, length_part, ParsesAddr, ParsesPrefix}
pub use Rattle.prefix6.specs.Written.{written, written_addr, written_prefix, IsCanonical, IsPlainGroup}
pub use Rattle.prefix6.specs.declared.error.PrefixError.TheVariants.{LengthTooLarge, BadLengthText}
