use Rattle.std.proofs.Common.{◌≡◌, ◌<◌, ◌-◌, [], length, subst, arith}
use Rattle.std.specs.Prelude.{All}
use Rattle.std.specs.declared.cmp.Ordering.TheVariants.{Less}
use Rattle.std.proofs.lemmas.List.{get_or_read}
use Rattle.prefix6.specs.Prefix.{prefix_cmp}
use Rattle.route_table.specs.Place.{Entries}
use Rattle.route_table.proofs.BlockChanges.{all_behind}
use Rattle.route_table.proofs.blocks.begins_block.Goals as goal

pub returns-clause-behind : goal.returns-clause-behind
returns-clause-behind c passed =
    let bs = c.args.blocks.now in
    let p = c.args.prefix.now in
    let m = length bs - 1 in
    let lt : m < length bs = omega (arith, c.if-len-eq0.false) in
    all_behind bs c.requires m p (omega (arith, c.if-len-eq0.false))
    (subst (λ (b : Entries). All (λ e. prefix_cmp e.0 p ≡ Less) b) (get_or_read bs m c.index-blocks-len.result lt c.index-blocks-len.is []) (c.ends_before.ensures passed))
