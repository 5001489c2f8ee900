use Rattle.std.proofs.Common.{◌++◌, take, sym, ap, ◌∙◌}
use Rattle.route_table.specs.Blocks.{joined}
use Rattle.route_table.specs.Summary.{wanted_of}
use Rattle.route_table.specs.Table.{past}
use Rattle.route_table.proofs.SortedTable.{entries_are}
use Rattle.route_table.proofs.sorted.SortedRoutesRouteStore.list_wanted.Goals as goal

pub returns : goal.returns
returns c =
    let bs = c.self.inside.blocks.items in
    let out = c.args.out.now.items in
    c.list_wanted.ensures
    ∙ ap (λ l. out ++ take c.args.most (wanted_of c.args.wanted (past c.args.after (joined l)))) c.deref.ensures.value
    ∙ ap (λ l. out ++ take c.args.most (wanted_of c.args.wanted (past c.args.after l))) (sym (entries_are (joined bs) c.self.invariant.blocks.sorted c.args.self.now c.self.view_is))
