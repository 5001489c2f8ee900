use Rattle.std.proofs.Common.{[], sym, refl, ap, ◌∙◌}
use Rattle.std.specs.FinMap.{find}
use Rattle.std.proofs.lemmas.List.{get_or_read}
use Rattle.prefix6.specs.Prefix.{prefix_cmp}
use Rattle.route_table.proofs.BlockLists.{find_home}
use Rattle.route_table.proofs.blocks.locate.Goals as goal

pub returns-in-None-clause-absent : goal.returns-in-None-clause-absent
returns-in-None-clause-absent c _ =
    let bs = c.args.blocks.now in
    let h = c.home-block.ensures in
    sym (find_home bs c.args.prefix.now c.home-block.result h)
    ∙ ap (find prefix_cmp c.args.prefix.now) (sym (get_or_read bs c.home-block.result c.index-blocks-block.result h.in_range c.index-blocks-block.is []))
    ∙ c.in-None.ensures.absent refl
