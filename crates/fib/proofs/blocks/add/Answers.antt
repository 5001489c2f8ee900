use Rattle.std.proofs.Common.{◌≡◌, ◌<◌, [], length, ap, ◌∙◌, arith}
use Rattle.std.proofs.lemmas.List.{get_or_read, length-map}
use Rattle.fib.specs.Blocks.{block_at}
use Rattle.fib.specs.Entries.{at_prefix}
use Rattle.fib.proofs.BlockChanges.{below_behind, not_empty}
use Rattle.fib.proofs.blocks.add.Goals as goal

pub insert_block-requires-then-place-entries-clause-below : goal.insert_block-requires-then-place-entries-clause-below
insert_block-requires-then-place-entries-clause-below c =
    let bs = c.args.blocks.now.items in
    let i = c.args.place.0 in
    let some : 0 < length bs = not_empty c.is_empty.result _ _ c.is_empty.ensures c.if-is_empty.false c.args.blocks.now.ok.0 in
    let home = c.requires.vacant.home some in
    let last : c.args.place.1 ≡ length (block_at bs i) =
    omega (arith, c.if-place-entries.true, length-map c.entries.result.now at_prefix, ap length (c.entries.ensures ∙ get_or_read bs i c.index-2.result.now home.in_range c.index-2.ensures [])) in
    below_behind bs c.args.entry.0 i c.args.place.1 home (c.requires.vacant.gap some) last
