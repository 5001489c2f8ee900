use Rattle.std.proofs.Common.{sym, ◌∙◌}
use Rattle.route_table.proofs.BlockBounds.{nothing_wanted}
use Rattle.route_table.proofs.block.Block.first_wanted.Goals as goal

pub returns-then-not-may_be_in : goal.returns-then-not-may_be_in
returns-then-not-may_be_in c = rw (← c.self.view_is) (nothing_wanted c.args.wanted c.args.after.now c.self.inside.bound c.self.inside.routes.items (sym c.may_be_in.ensures ∙ c.if-not-may_be_in.true) c.self.invariant.covered)
