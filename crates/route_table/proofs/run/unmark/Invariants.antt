use Rattle.std.proofs.Common.{◌≡◌, ◌++◌, take, drop}
use Rattle.route_table.specs.Due.{without_mark}
use Rattle.route_table.specs.Table.{map_entries}
use Rattle.route_table.proofs.run.unmark.Given as goal

-- the routes that the loop has come past have no mark
abbrev pub invariant-loop-entry : goal.invariant-loop-entry
invariant-loop-entry l = l.routes ≡ map_entries without_mark (take l.entry-index l.fn.routes) ++ drop l.entry-index l.fn.routes
