use Rattle.std.proofs.Common.{sym, ap, ◌∙◌}
use Rattle.route_table.specs.Due.{first_where}
use Rattle.route_table.specs.Summary.{meets}
use Rattle.route_table.specs.Blocks.{joined}
use Rattle.route_table.proofs.BlockBounds.{nothing_wanted}
use Rattle.route_table.proofs.SortedTable.{entries_are}
use Rattle.route_table.proofs.sorted.SortedRoutesRouteStore.first_wanted.Goals as goal

pub returns-then-not-may_be_in : goal.returns-then-not-may_be_in
returns-then-not-may_be_in c = nothing_wanted c.args.wanted c.args.after c.self.inside.bound (joined c.self.inside.blocks.items) (sym c.may_be_in.ensures ∙ c.if-not-may_be_in.true) c.self.invariant.covered
    ∙ ap (first_where (meets c.args.wanted) c.args.after) (sym (entries_are (joined c.self.inside.blocks.items) c.self.invariant.blocks.sorted c.args.self.now c.self.view_is))

pub returns : goal.returns
returns c = c.first_wanted.ensures ∙ ap (λ l. first_where (meets c.args.wanted) c.args.after (joined l)) c.deref.ensures.value ∙ ap (first_where (meets c.args.wanted) c.args.after) (sym (entries_are (joined c.self.inside.blocks.items) c.self.invariant.blocks.sorted c.args.self.now c.self.view_is))
