use Rattle.std.proofs.Common.{[], subst}
use Rattle.std.proofs.lemmas.List.{get_or_read}
use Rattle.prefix6.specs.Places.{IsAt}
use Rattle.route_table.specs.Blocks.{block_at}
use Rattle.route_table.proofs.BlockLists.{home_of_place}
use Rattle.route_table.proofs.blocks.locate_from.Goals as goal

pub returns-then-has_at-clause-found : goal.returns-then-has_at-clause-found
returns-then-has_at-clause-found c =
    let bs = c.args.blocks.now in
    let i = c.args.first.0 in
    let place : IsAt (block_at bs i) c.args.prefix.now c.args.first.1 = subst (λ b. IsAt b c.args.prefix.now c.args.first.1) (get_or_read bs i c.index-blocks-first.result c.if-first-blocks.true c.index-blocks-first.is []) (c.has_at.ensures c.if-has_at.true) in
    record { home = home_of_place bs c.requires i c.if-first-blocks.true c.args.prefix.now c.args.first.1 place; place = place }
