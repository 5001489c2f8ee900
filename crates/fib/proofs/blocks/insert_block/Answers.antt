use Rattle.std.proofs.Common.{◌<◌, length, sym, subst, ap, ◌∙◌, arith}
use Rattle.std.specs.List.{insert}
use Rattle.fib.specs.Blocks.{Pairs, joined, forward_of_entry, AreFilled}
use Rattle.fib.proofs.BlockChanges.{put_between, filled_between}
use Rattle.fib.proofs.blocks.insert_block.Goals as goal

pub returns-clause-ok : goal.returns-clause-ok
returns-clause-ok c =
    let bs = c.args.blocks.now.items in
    ap joined c.in_ok-insert.ensures.items
    ∙ ap (λ (b : Pairs). joined (insert bs c.args.at b)) c.in_ok-block.ensures
    ∙ put_between bs c.args.at c.args.entry.0 (forward_of_entry c.args.entry) c.requires.below c.requires.above

pub returns-clause-filled : goal.returns-clause-filled
returns-clause-filled c =
    subst AreFilled (sym c.in_ok-insert.ensures.items)
    (filled_between c.args.blocks.now.items c.args.at c.in_ok-block.block c.requires.filled (subst (λ (b : Pairs). 0 < length b) (sym c.in_ok-block.ensures) (omega arith)))
