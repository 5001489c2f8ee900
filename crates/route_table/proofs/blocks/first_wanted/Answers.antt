use Rattle.std.proofs.Common.{[], sym, ap, ◌∙◌}
use Rattle.std.proofs.lemmas.List.{get_or_read}
use Rattle.route_table.specs.Due.{first_where}
use Rattle.route_table.specs.Summary.{meets}
use Rattle.route_table.proofs.BlockWalks.{walk_starts, walk_goes_on, walk_finds, walk_ends}
use Rattle.route_table.proofs.blocks.first_wanted.Goals as goal

pub loop-k-init : goal.loop-k-init
loop-k-init c = walk_starts (meets c.args.wanted) c.args.after.now c.args.blocks.now c.start-k.result c.start-k.ensures

pub loop-k-preserved : goal.loop-k-preserved
loop-k-preserved c =
    walk_goes_on (meets c.args.wanted) c.args.after.now c.args.blocks.now c.loop-k.k c.loop-k-test.true c.loop-k.invariant c.first_wanted-found.result
    (c.first_wanted-found.ensures ∙ ap (first_where (meets c.args.wanted) c.args.after.now) (get_or_read c.args.blocks.now c.loop-k.k c.index-blocks-k.result c.loop-k-test.true c.index-blocks-k.is []))
    (sym c.is_some.ensures ∙ c.if-is_some.false)

pub returns-then-is_some : goal.returns-then-is_some
returns-then-is_some c =
    walk_finds (meets c.args.wanted) c.args.after.now c.args.blocks.now c.loop-k.k c.loop-k-test.true c.loop-k.invariant c.first_wanted-found.result
    (c.first_wanted-found.ensures ∙ ap (first_where (meets c.args.wanted) c.args.after.now) (get_or_read c.args.blocks.now c.loop-k.k c.index-blocks-k.result c.loop-k-test.true c.index-blocks-k.is []))
    (sym c.is_some.ensures ∙ c.if-is_some.true)

pub returns : goal.returns
returns c = walk_ends (meets c.args.wanted) c.args.after.now c.args.blocks.now c.loop-k.k c.loop-k-test.false c.loop-k.invariant
