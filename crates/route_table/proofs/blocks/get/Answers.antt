use Rattle.std.proofs.Common.{[], ap, ◌∙◌}
use Rattle.std.specs.FinMap.{find}
use Rattle.std.proofs.lemmas.List.{get_or_read}
use Rattle.prefix6.specs.Prefix.{prefix_cmp}
use Rattle.route_table.proofs.BlockLists.{find_home}
use Rattle.route_table.proofs.blocks.get.Goals as goal

pub returns : goal.returns
returns c =
    let bs = c.args.blocks.now in
    let h = c.home.ensures in
    c.get.ensures
    ∙ ap (find prefix_cmp c.args.prefix.now) (get_or_read bs c.home.result c.index-blocks-home.result h.in_range c.index-blocks-home.is [])
    ∙ find_home bs c.args.prefix.now c.home.result h
