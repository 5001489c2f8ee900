use Rattle.std.proofs.Common.{◌++◌, sym, ap, ◌∙◌, arith}
use Rattle.route_table.specs.Blocks.{joined}
use Rattle.route_table.proofs.SortedTable.{len_is, entries_are}
use Rattle.route_table.proofs.sorted.SortedRoutesRouteStore.list.Goals as goal

pub list-requires : goal.list-requires
list-requires c =
    let bs = c.self.inside.blocks.items in
    rw c.deref.ensures.value (omega (arith, len_is (joined bs) c.self.invariant.blocks.sorted c.args.self.now c.self.view_is, c.requires.room))

pub returns : goal.returns
returns c =
    let bs = c.self.inside.blocks.items in
    c.list.ensures ∙ ap (λ l. c.args.out.now.items ++ joined l) c.deref.ensures.value ∙ ap (λ l. c.args.out.now.items ++ l) (sym (entries_are (joined bs) c.self.invariant.blocks.sorted c.args.self.now c.self.view_is))
