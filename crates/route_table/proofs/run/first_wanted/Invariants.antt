use Rattle.route_table.specs.Summary.{meets}
use Rattle.route_table.proofs.SortedDue.{IsSearched}
use Rattle.route_table.proofs.run.first_wanted.Given as goal

abbrev pub invariant-loop-k : goal.invariant-loop-k
invariant-loop-k l = IsSearched (meets l.wanted) l.fn.after l.routes l.k
