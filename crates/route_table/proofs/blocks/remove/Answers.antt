use Rattle.std.proofs.Common.{◌≡◌, ◌<◌, [], List, length, set, sym, ap, ◌∙◌, arith}
use Rattle.std.proofs.lemmas.List.{get_or_read, get_or-set_same, length-set}
use Rattle.route_table.specs.Place.{Entries}
use Rattle.route_table.specs.Trie.{without}
use Rattle.route_table.specs.Blocks.{joined, block_at, AreBlocks, IsPlaced}
use Rattle.route_table.proofs.BlockLists.{without_home}
use Rattle.route_table.proofs.BlockChanges.{left_blocks, removed_empty, same_blocks}
use Rattle.route_table.proofs.blocks.remove.Goals as goal
use Rattle.route_table.proofs.blocks.remove.Goals.{After-len}

module _ (c : After-len) where
  abbrev bs : List Entries
  bs = c.args.blocks.now.items

  abbrev cs : List Entries
  cs = set bs c.in-Some.block c.remove.new.self

  placed : IsPlaced bs c.args.prefix.now (c.in-Some.block, c.in-Some.at)
  placed = rw c.deref.ensures.value at c.in-Some.ensures.found

  left : joined cs ≡ without c.args.prefix.now (joined bs)
  left =
      let is : c.index_mut.result.now ≡ block_at bs c.in-Some.block = get_or_read bs c.in-Some.block c.index_mut.result.now placed.home.in_range c.index_mut.ensures.value [] in
      without_home bs c.args.prefix.now c.in-Some.block placed.home c.remove.new.self (c.remove.ensures ∙ ap (without c.args.prefix.now) is)

  inside : c.in-Some.block < length cs
  inside = omega (arith, placed.home.in_range, length-set bs c.in-Some.block c.remove.new.self)

  read : c.index.result.now ≡ c.remove.new.self
  read = c.index.ensures ∙ get_or-set_same bs c.in-Some.block c.remove.new.self c.index.result.now placed.home.in_range

  some_left : (c.len.result ≡ 0 → ⊥) → AreBlocks cs
  some_left some = left_blocks bs c.args.prefix.now c.in-Some.block c.remove.new.self c.requires.ordered left (omega (arith, ap length read, c.len.ensures.value, some))

pub returns-then-len-eq0-clause-kept : goal.returns-then-len-eq0-clause-kept
returns-then-len-eq0-clause-kept c =
    let d = (goal.at.returns-then-len-eq0-clause-kept c).After-len in
    let none : length (block_at (cs d) c.in-Some.block) ≡ 0 = ap length (get_or-set_same (bs d) c.in-Some.block c.remove.new.self [] (placed d).home.in_range ∙ sym (read d)) ∙ sym c.len.ensures.value ∙ c.if-len-eq0.true in
    ap joined c.remove-then-len-eq0.ensures.items ∙ removed_empty (cs d) c.in-Some.block (inside d) none ∙ left d

pub join-requires : goal.join-requires
join-requires c = some_left (goal.at.join-requires c).After-len c.if-len-eq0.false

pub join-requires-2 : goal.join-requires-2
join-requires-2 c = same_blocks _ _ (some_left (goal.at.join-requires-2 c).After-len c.if-len-eq0.false) c.join.ensures.same c.join.ensures.filled

pub returns-clause-kept : goal.returns-clause-kept
returns-clause-kept c = c.join-2.ensures.same ∙ c.join.ensures.same ∙ left (goal.at.returns-clause-kept c).After-len
