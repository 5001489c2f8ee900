use Rattle.std.proofs.Common.{◌≡◌, ◌<◌, [], List, length, set, sym, ap, ◌∙◌, arith}
use Rattle.std.proofs.lemmas.List.{get_or_read, length-set}
use Rattle.fib.specs.Blocks.{Pairs, joined, block_at, without}
use Rattle.fib.proofs.BlockLists.{without_home}
use Rattle.fib.proofs.BlockChanges.{removed_empty}
use Rattle.fib.proofs.blocks.remove.Goals as goal

pub returns-then-is_empty-clause-left : goal.returns-then-is_empty-clause-left
returns-then-is_empty-clause-left c =
    let bs = c.args.blocks.now.items in
    let p = c.args.prefix.now in
    let i = c.args.place.0 in
    let placed = c.requires.placed in
    let is : c.index_mut.result.now ≡ block_at bs i = get_or_read bs i c.index_mut.result.now placed.home.in_range c.index_mut.ensures.value [] in
    let cs : List Pairs = set bs i c.remove.new.self in
    let lt : i < length cs = omega (arith, placed.home.in_range, length-set bs i c.remove.new.self) in
    let left : c.index.result.now ≡ block_at cs i = get_or_read cs i c.index.result.now lt c.index.ensures [] in
    ap joined c.remove-then-is_empty.ensures.items
    ∙ removed_empty cs i lt (ap length (sym left) ∙ c.is_empty.ensures.0 c.if-is_empty.true)
    ∙ without_home bs p i placed.home c.remove.new.self (c.remove.ensures ∙ ap (without p) is)

pub returns-else-is_empty-clause-left : goal.returns-else-is_empty-clause-left
returns-else-is_empty-clause-left c =
    let bs = c.args.blocks.now.items in
    let p = c.args.prefix.now in
    let i = c.args.place.0 in
    let placed = c.requires.placed in
    let is : c.index_mut.result.now ≡ block_at bs i = get_or_read bs i c.index_mut.result.now placed.home.in_range c.index_mut.ensures.value [] in
    without_home bs p i placed.home c.remove.new.self (c.remove.ensures ∙ ap (without p) is)
