use Rattle.std.proofs.Common.{◌≡◌, ◌<◌, [], length, sym, subst, ap, ◌∙◌}
use Rattle.std.specs.FinMap.Entries.{find, put}
use Rattle.std.proofs.lemmas.List.{get_or_read}
use Rattle.std.proofs.lemmas.List.Elements.{All-set}
use Rattle.prefix6.specs.Prefix.{prefix_cmp}
use Rattle.route_table.specs.Place.{Entries}
use Rattle.route_table.specs.Blocks.{joined, block_at, IsPlaced}
use Rattle.route_table.proofs.BlockBounds.{covers_with}
use Rattle.route_table.proofs.BlockLists.{find_home, put_home}
use Rattle.route_table.proofs.TrieLists.{put_some}
use Rattle.route_table.proofs.blocks.update.Goals as goal

pub returns-clause-updates : goal.returns-clause-updates
returns-clause-updates g c =
    let bs = c.args.blocks.now.items in
    let p = c.args.prefix.now in
    let i = c.in-Some.block in
    let it = c.update-answer.ensures.0 in
    let placed : IsPlaced bs p (i, c.in-Some.at) = rw c.deref.ensures.value at c.in-Some.ensures.found in
    let is : c.index_mut.result.now ≡ block_at bs i = get_or_read bs i c.index_mut.result.now placed.home.in_range c.index_mut.ensures.value [] in
    record {
      before = it.before;
      after = it.after;
      held = sym (find_home bs p i placed.home) ∙ sym (ap (find prefix_cmp p) is) ∙ it.held;
      made = it.made;
      placed = put_home bs p i placed.home it.after c.update-answer.new.self (it.placed ∙ ap (put prefix_cmp p it.after) is);
    }

pub returns-clause-covered : goal.returns-clause-covered
returns-clause-covered g c =
    let bs = c.args.blocks.now.items in
    let p = c.args.prefix.now in
    let i = c.in-Some.block in
    let it = c.update-answer.ensures.0 in
    let placed : IsPlaced bs p (i, c.in-Some.at) = rw c.deref.ensures.value at c.in-Some.ensures.found in
    let is : c.index_mut.result.now ≡ block_at bs i = get_or_read bs i c.index_mut.result.now placed.home.in_range c.index_mut.ensures.value [] in
    covers_with c.args.bound.now c.update-answer.result.1 c.and.result p it.after (joined bs) _ c.requires.covered c.update-answer.ensures.1 c.and.ensures
    (put_home bs p i placed.home it.after c.update-answer.new.self (it.placed ∙ ap (put prefix_cmp p it.after) is))

pub returns-clause-filled : goal.returns-clause-filled
returns-clause-filled g c =
    let it = c.update-answer.ensures.0 in
    let some : 0 < length c.update-answer.new.self = subst (λ (l : Entries). 0 < length l) (sym it.placed) (put_some c.args.prefix.now it.after c.index_mut.result.now) in
    All-set (λ (b : Entries). 0 < length b) c.args.blocks.now.items c.in-Some.block c.update-answer.new.self some c.requires.ordered.filled
