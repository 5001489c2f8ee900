use Rattle.std.proofs.Common.{◌≡◌, ◌<◌, [], length, sym, subst, ap, ◌∙◌}
use Rattle.std.specs.FinMap.Entries.{find, put}
use Rattle.std.proofs.lemmas.List.{get_or_read}
use Rattle.std.proofs.lemmas.List.Elements.{All-set}
use Rattle.prefix6.specs.Prefix.{prefix_cmp}
use Rattle.fib.specs.Blocks.{Pairs, block_at, forward_in, forward_of_entry}
use Rattle.fib.proofs.BlockLists.{put_home}
use Rattle.fib.proofs.BlockChanges.{found_placed}
use Rattle.fib.proofs.EntryParts.{put_some}
use Rattle.fib.proofs.blocks.replace.Goals as goal

pub returns-clause-was : goal.returns-clause-was
returns-clause-was c =
    let bs = c.args.blocks.now.items in
    let p = c.args.entry.0 in
    let i = c.args.place.0 in
    let placed = c.requires.placed in
    let is : c.index_mut.result.now ≡ block_at bs i = get_or_read bs i c.index_mut.result.now placed.home.in_range c.index_mut.ensures.value [] in
    found_placed bs p c.args.place (forward_in c.replace.result) placed (ap (find prefix_cmp p) (sym is) ∙ c.replace.ensures.was)

pub returns-clause-now : goal.returns-clause-now
returns-clause-now c =
    let bs = c.args.blocks.now.items in
    let p = c.args.entry.0 in
    let i = c.args.place.0 in
    let v = forward_of_entry c.args.entry in
    let placed = c.requires.placed in
    let is : c.index_mut.result.now ≡ block_at bs i = get_or_read bs i c.index_mut.result.now placed.home.in_range c.index_mut.ensures.value [] in
    put_home bs p i placed.home v c.replace.new.self (c.replace.ensures.now ∙ ap (put prefix_cmp p v) is)

pub returns-clause-filled : goal.returns-clause-filled
returns-clause-filled c =
    let some : 0 < length c.replace.new.self = subst (λ (l : Pairs). 0 < length l) (sym c.replace.ensures.now) (put_some c.args.entry.0 (forward_of_entry c.args.entry) c.index_mut.result.now) in
    All-set (λ (b : Pairs). 0 < length b) c.args.blocks.now.items c.args.place.0 c.replace.new.self some c.requires.filled
