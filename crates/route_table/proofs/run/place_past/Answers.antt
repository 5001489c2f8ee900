use Rattle.route_table.proofs.SortedEntries.{start_after}
use Rattle.route_table.proofs.run.place_past.Goals as goal

pub returns-in-Ok : goal.returns-in-Ok
returns-in-Ok c = rw c.in-Some.is (start_after c.args.routes.now c.in-Some.prefix c.in-Ok.at c.requires c.in-Ok.ensures.found)
