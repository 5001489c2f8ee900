use Rattle.std.proofs.Common.{◌≡◌, None, sym, ap, ◌∙◌, arith}
use mathlib.Core.Bool.{false≢true}
use Rattle.std.specs.Prelude.{is_some}
use Rattle.std.specs.FinMap.Entries.{find}
use Rattle.prefix6.specs.Prefix.{prefix_cmp}
use Rattle.prefix6.proofs.SortedEntries.{find_gap}
use Rattle.fib.specs.Blocks.{joined, block_at, forward_of_entry, IsPlaced, IsVacant}
use Rattle.fib.proofs.BlockLists.{find_home}
use Rattle.fib.proofs.BlockChanges.{blocks_same, placed_some, some_blocks}
use Rattle.fib.proofs.blocks.insert_parted.Goals as goal

pub unreachable-requires : goal.unreachable-requires
unreachable-requires c =
    let bs = c.args.blocks.now.items in
    let cs = c.part.new.blocks.items in
    let p = c.args.entry.0 in
    let placed : IsPlaced cs p c.in_default.field-0 = rw c.deref.ensures.value at c.in_default.ensures.found in
    let none : find prefix_cmp p (joined cs) ≡ None = ap (find prefix_cmp p) c.part.ensures.same ∙ sym (find_home bs p c.args.place.0 c.requires.home) ∙ find_gap (block_at bs c.args.place.0) p c.args.place.1 c.requires.gap in
    false≢true (ap is_some (sym none ∙ placed_some cs (blocks_same bs cs c.requires.ordered c.part.ensures.filled c.part.ensures.same) p c.in_default.field-0 (c.args.entry.0, forward_of_entry c.args.entry) placed))

pub insert-requires-clause-home : goal.insert-requires-clause-home
insert-requires-clause-home c =
    let cs = c.part.new.blocks.items in
    let vacant : IsVacant cs c.args.entry.0 c.in-Err.place = rw c.deref.ensures.value at c.in-Err.ensures.absent in
    vacant.home (some_blocks c.args.blocks.now.items cs c.part.ensures.same c.requires.ordered.filled (omega (arith, c.requires.home.in_range)))

pub insert-requires-clause-gap : goal.insert-requires-clause-gap
insert-requires-clause-gap c =
    let cs = c.part.new.blocks.items in
    let vacant : IsVacant cs c.args.entry.0 c.in-Err.place = rw c.deref.ensures.value at c.in-Err.ensures.absent in
    vacant.gap (some_blocks c.args.blocks.now.items cs c.part.ensures.same c.requires.ordered.filled (omega (arith, c.requires.home.in_range)))
