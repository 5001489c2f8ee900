-- The names that the clauses of this crate cite, passed on from one place. Declares nothing.
pub use Rattle.std.specs.Coded.{codes}
pub use Rattle.std.specs.FinMap.{from_sorted}
pub use Rattle.std.specs.FinMap.Entries.{find, put}
pub use Rattle.std.specs.Iterator.{YieldsFirst, item_count}
pub use Rattle.std.specs.List.{filter}
pub use Rattle.std.specs.declared.cmp.Ordering.TheVariants.{Less}
pub use Rattle.prefix6.specs.Places.{IsAt, IsGap}
pub use Rattle.prefix6.specs.Prefix.{prefix_cmp, Prefix6}
pub use Rattle.fib.specs.Blocks.{block_limit, forward_in, forward_of_entry, half_block, without, StartsAt, block_at, joined, AreBlocks, AreFilled, IsHome, IsFrom, IsPlaced, IsVacant, Pairs, IsBlock, IsFib}
pub use Rattle.fib.specs.Entries.{at_prefix, fib_entry, AreAllPast, IsLastOf, listed, AreAfter, IsLookedUp, AreInOrder, IsLastUpTo, IsPast, Entry}
pub use Rattle.fib.specs.Forwarding.{is_install, Replays, IsMatch, IsLongestMatch, Forwarding}
pub use Rattle.fib.specs.Undo.{undone, undo_of, has_install, is_gone, restored, CanRestore, CanUndo}
pub use Rattle.fib.specs.declared.change.Hop.{Hop}
pub use Rattle.fib.specs.declared.change.RouteChange.{RouteChange}
