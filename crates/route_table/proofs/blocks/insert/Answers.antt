use Rattle.std.proofs.Common.{◌≡◌, ◌<◌, [], length, sym, subst, ap, ◌∙◌}
use Rattle.std.specs.FinMap.Entries.{find, put}
use Rattle.std.proofs.lemmas.List.{get_or_read}
use Rattle.std.proofs.lemmas.List.Elements.{All-set}
use Rattle.std.proofs.lemmas.Result.{on_ok_weaker}
use Rattle.prefix6.specs.Prefix.{prefix_cmp}
use Rattle.route_table.specs.Place.{Entries}
use Rattle.route_table.specs.Blocks.{block_at, HasRoom}
use Rattle.route_table.proofs.BlockLists.{find_home, put_home}
use Rattle.route_table.proofs.BlockChanges.{filled_either}
use Rattle.route_table.proofs.blocks.insert.Goals as goal

pub insert-requires-clause-absent : goal.insert-requires-clause-absent
insert-requires-clause-absent c =
    let bs = c.home_with_room.new.blocks.items in
    let p = c.args.prefix in
    let i = c.in_ok-at.at in
    let room : HasRoom bs p i = c.in_ok-at.ensures.ok in
    let is : c.index_mut.result.now ≡ block_at bs i = get_or_read bs i c.index_mut.result.now room.home.in_range c.index_mut.ensures.value [] in
    ap (find prefix_cmp p) is ∙ find_home bs p i room.home ∙ ap (find prefix_cmp p) c.home_with_room.ensures.same ∙ c.requires.absent

pub returns-clause-ok : goal.returns-clause-ok
returns-clause-ok c =
    let bs = c.home_with_room.new.blocks.items in
    let p = c.args.prefix in
    let i = c.in_ok-at.at in
    let room : HasRoom bs p i = c.in_ok-at.ensures.ok in
    let is : c.index_mut.result.now ≡ block_at bs i = get_or_read bs i c.index_mut.result.now room.home.in_range c.index_mut.ensures.value [] in
    on_ok_weaker c.insert.result (λ put_it. put_home bs p i room.home c.args.route c.insert.new.self (put_it ∙ ap (put prefix_cmp p c.args.route) is) ∙ ap (put prefix_cmp p c.args.route) c.home_with_room.ensures.same) c.insert.ensures.ok

pub returns-clause-filled : goal.returns-clause-filled
returns-clause-filled c =
    let bs = c.home_with_room.new.blocks.items in
    let i = c.in_ok-at.at in
    let room : HasRoom bs c.args.prefix i = c.in_ok-at.ensures.ok in
    let is : c.index_mut.result.now ≡ block_at bs i = get_or_read bs i c.index_mut.result.now room.home.in_range c.index_mut.ensures.value [] in
    let some : 0 < length c.index_mut.result.now = subst (λ (l : Entries). 0 < length l) (sym is) (c.home_with_room.ensures.filled i [] room.home.in_range) in
    All-set (λ (b : Entries). 0 < length b) bs i c.insert.new.self (filled_either c.args.prefix c.args.route c.index_mut.result.now c.insert.new.self c.insert.result c.insert.ensures.ok c.insert.ensures.err some) c.home_with_room.ensures.filled
