-- The names that the clauses of this crate cite, passed on from one place. Declares nothing.
pub use Rattle.std.specs.FinMap.{find, is_sorted, entries, from_sorted}
pub use Rattle.std.specs.FinMap.Entries.{put}
pub use Rattle.std.specs.Fn.{FnOnceReturnsAtMut}
pub use Rattle.std.specs.Option.{option_copied}
pub use Rattle.std.specs.declared.cmp.Ordering.TheVariants.{Less}
pub use Rattle.prefix6.specs.Halves.{IsUnder}
pub use Rattle.prefix6.specs.Places.{IsAt, IsGap}
pub use Rattle.prefix6.specs.Prefix.{prefix_cmp, Prefix6}
pub use Rattle.route_table.specs.Blocks.{block_limit, half_block, StartsAt, Covers, block_at, joined, AreBlocks, AreFilled, HasRoom, IsHome, IsPlaced, IsStart, IsBlock, IsStore}
pub use Rattle.route_table.specs.Due.{earlier, first_where, without_mark, least_deadline, deadline_at, first_due, is_reached, next_due, IsFirstDue, first_changed, unmarked}
pub use Rattle.route_table.specs.Place.{IsStartPast, Entries}
pub use Rattle.route_table.specs.Route.{RouteValue}
pub use Rattle.route_table.specs.Summary.{meets, summary_of, summary_of_route, wanted_of, both, no_routes, may_meet}
pub use Rattle.route_table.specs.Table.{map_entries, past, Table, table_limit, first_past, add_refused_name, add_refused_number, table_with}
pub use Rattle.route_table.specs.Trie.{without, linked, owned, fork_entries, AreParts, AreShared, HasEntries, AreIn, entries_with, IsTrie}
pub use Rattle.route_table.specs.Updating.{ChangesEntry, UpdatesEntries, Updates}
