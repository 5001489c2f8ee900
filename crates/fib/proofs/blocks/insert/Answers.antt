use Rattle.std.proofs.Common.{◌≡◌, ◌<◌, [], length, sym, subst, ap, ◌∙◌}
use Rattle.std.specs.FinMap.Entries.{put}
use Rattle.std.proofs.lemmas.List.{get_or_read}
use Rattle.std.proofs.lemmas.List.Elements.{All-set}
use Rattle.std.proofs.lemmas.Result.{on_ok_weaker}
use Rattle.prefix6.specs.Prefix.{prefix_cmp}
use Rattle.prefix6.specs.Places.{IsGap}
use Rattle.fib.specs.Blocks.{Pairs, block_at, forward_of_entry}
use Rattle.fib.proofs.BlockLists.{put_home}
use Rattle.fib.proofs.BlockChanges.{filled_either}
use Rattle.fib.proofs.blocks.insert.Goals as goal

pub insert-requires : goal.insert-requires
insert-requires c =
    let bs = c.args.blocks.now.items in
    let i = c.args.place.0 in
    subst (λ (b : Pairs). IsGap b c.args.entry.0 c.args.place.1) (sym (get_or_read bs i c.index_mut.result.now c.requires.home.in_range c.index_mut.ensures.value [])) c.requires.gap

pub returns-clause-ok : goal.returns-clause-ok
returns-clause-ok c =
    let bs = c.args.blocks.now.items in
    let p = c.args.entry.0 in
    let i = c.args.place.0 in
    let v = forward_of_entry c.args.entry in
    let is : c.index_mut.result.now ≡ block_at bs i = get_or_read bs i c.index_mut.result.now c.requires.home.in_range c.index_mut.ensures.value [] in
    on_ok_weaker c.insert.result (λ put_it. put_home bs p i c.requires.home v c.insert.new.self (put_it ∙ ap (put prefix_cmp p v) is)) c.insert.ensures.ok

pub returns-clause-filled : goal.returns-clause-filled
returns-clause-filled c =
    let bs = c.args.blocks.now.items in
    let i = c.args.place.0 in
    let is : c.index_mut.result.now ≡ block_at bs i = get_or_read bs i c.index_mut.result.now c.requires.home.in_range c.index_mut.ensures.value [] in
    let some : 0 < length c.index_mut.result.now = subst (λ (l : Pairs). 0 < length l) (sym is) (c.requires.ordered.filled i [] c.requires.home.in_range) in
    All-set (λ (b : Pairs). 0 < length b) bs i c.insert.new.self
    (filled_either c.args.entry.0 (forward_of_entry c.args.entry) c.index_mut.result.now c.insert.new.self c.insert.result c.insert.ensures.ok c.insert.ensures.err some) c.requires.ordered.filled
