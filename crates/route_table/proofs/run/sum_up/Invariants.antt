use Rattle.std.proofs.Common.{◌≡◌, take}
use Rattle.route_table.specs.Summary.{summary_of}
use Rattle.route_table.proofs.run.sum_up.Given as goal

abbrev pub invariant-loop-route : goal.invariant-loop-route
invariant-loop-route l = l.summary ≡ summary_of (take l.route-index l.routes)
