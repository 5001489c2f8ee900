use Rattle.route_table.proofs.BlockBounds.{covers_summed}
use Rattle.route_table.proofs.block.bound_of.Goals as goal

pub returns-then-is_exact : goal.returns-then-is_exact
returns-then-is_exact c = covers_summed c.sum_up.result c.args.routes.now c.sum_up.ensures
