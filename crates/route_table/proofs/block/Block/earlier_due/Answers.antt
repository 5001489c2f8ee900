use Rattle.route_table.proofs.BlockBounds.{no_earlier}
use Rattle.route_table.proofs.block.Block.earlier_due.Goals as goal

pub returns-then-not-is_due_before : goal.returns-then-not-is_due_before
returns-then-not-is_due_before c = rw (← c.self.view_is) (no_earlier c.self.inside.bound c.self.inside.routes.items c.args.due c.self.invariant.covered (c.is_due_before.ensures c.if-not-is_due_before.true))
