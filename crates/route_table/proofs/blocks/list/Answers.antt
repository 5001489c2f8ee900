use Rattle.std.proofs.Common.{◌≡◌, [], ◌++◌, length, ap, ap₂, ◌∙◌, arith}
use Rattle.std.proofs.lemmas.List.{get_or_read}
use Rattle.route_table.specs.Place.{Entries}
use Rattle.route_table.specs.Blocks.{block_at}
use Rattle.route_table.proofs.BlockWalks.{listed_more, left_more}
use Rattle.route_table.proofs.blocks.list.Goals as goal

pub list-requires : goal.list-requires
list-requires c =
    let bs = c.args.blocks.now in
    let i = c.loop-block.block-index in
    let is : c.block-item.result ≡ block_at bs i = get_or_read bs i c.block-item.result c.loop-block-test.true c.block-item.is [] in
    omega (arith, c.loop-block.invariant.room, left_more bs i c.loop-block-test.true, ap length is)

pub loop-block-preserved : goal.loop-block-preserved
loop-block-preserved c =
    let bs = c.args.blocks.now in
    let i = c.loop-block.block-index in
    let is : c.block-item.result ≡ block_at bs i = get_or_read bs i c.block-item.result c.loop-block-test.true c.block-item.is [] in
    record {
      items = c.list.ensures.items ∙ ap₂ (λ (xs ys : Entries). xs ++ ys) c.loop-block.invariant.items is ∙ listed_more bs i c.args.out.now.items c.loop-block-test.true;
      room = omega (arith, c.loop-block.invariant.room, left_more bs i c.loop-block-test.true, ap length is, c.list.ensures.len, c.list.ensures.capacity);
    }
