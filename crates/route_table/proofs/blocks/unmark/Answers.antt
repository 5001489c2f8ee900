use Rattle.std.proofs.Common.{◌≡◌, ◌+◌, ◌<◌, ◌≤◌, [], length, map, set, take, refl, sym, subst, ap, ◌∙◌, arith}
use Rattle.std.proofs.lemmas.List.{take_all}
use Rattle.std.proofs.lemmas.List.Edits.{map_over_more}
use Rattle.route_table.specs.Blocks.{joined, block_at, Covers, AreFilled}
use Rattle.route_table.proofs.BlockBounds.{covers_exactly}
use Rattle.route_table.proofs.BlockChanges.{plain, all_plain, joined_plain, filled_plain, not_yet, plain_more}
use Rattle.route_table.proofs.blocks.unmark.Goals as goal

pub loop-k-init : goal.loop-k-init
loop-k-init c = record {
  items = refl;
  covered = subst (λ s. Covers s []) (sym c.nothing-bound.ensures) (covers_exactly []);
}

pub loop-k-preserved : goal.loop-k-preserved
loop-k-preserved c =
    let v = c.args.blocks.now in
    let lt : c.loop-k.k < length v.items = omega (arith, c.loop-k-test.true, c.len-k-end.ensures, v.ok.0) in
    let is : c.index_mut.result.now ≡ block_at v.items c.loop-k.k = not_yet v.items c.loop-k.blocks.items c.loop-k.k c.index_mut.result.now lt c.loop-k.invariant.items c.index_mut.ensures.value in
    record {
      items = ap (set c.loop-k.blocks.items c.loop-k.k) c.unmark.ensures.unmarked
          ∙ map_over_more plain v.items c.loop-k.blocks.items c.loop-k.k c.index_mut.result.now lt c.loop-k.invariant.items c.index_mut.ensures.value;
      covered = subst (λ s. Covers s (joined (map plain (take (c.loop-k.k + 1) v.items)))) (sym c.and-bound.ensures) (plain_more v.items c.loop-k.k c.loop-k.bound c.unmark.result c.unmark.new.self lt (c.unmark.ensures.unmarked ∙ ap plain is) c.loop-k.invariant.covered c.unmark.ensures.covered);
    }

pub returns-clause-unmarked : goal.returns-clause-unmarked
returns-clause-unmarked c =
    let v = c.args.blocks.now in
    let le : length v.items ≤ c.loop-k.k = omega (arith, c.loop-k-test.false, c.len-k-end.ensures, v.ok.0) in
    ap joined (c.loop-k.invariant.items ∙ all_plain v.items c.loop-k.k le) ∙ joined_plain v.items

pub returns-clause-filled : goal.returns-clause-filled
returns-clause-filled c =
    let v = c.args.blocks.now in
    let le : length v.items ≤ c.loop-k.k = omega (arith, c.loop-k-test.false, c.len-k-end.ensures, v.ok.0) in
    let is : c.loop-k.blocks.items ≡ map plain v.items = c.loop-k.invariant.items ∙ all_plain v.items c.loop-k.k le in
    subst AreFilled (sym is) (filled_plain v.items c.requires)

pub returns-clause-covered : goal.returns-clause-covered
returns-clause-covered c =
    let v = c.args.blocks.now in
    let le : length v.items ≤ c.loop-k.k = omega (arith, c.loop-k-test.false, c.len-k-end.ensures, v.ok.0) in
    let is : c.loop-k.blocks.items ≡ map plain v.items = c.loop-k.invariant.items ∙ all_plain v.items c.loop-k.k le in
    subst (λ l. Covers c.loop-k.bound (joined l)) (ap (map plain) (take_all c.loop-k.k v.items le) ∙ sym is) c.loop-k.invariant.covered
