use Rattle.std.proofs.Common.{◌≡◌, drop}
use Rattle.std.specs.FinMap as map_of
use Rattle.ripng_trace.specs.Records.{with_routes}
use Rattle.ripng_trace.proofs.known.learn_routes.Given as goal

abbrev pub invariant-loop-entry : goal.invariant-loop-entry
invariant-loop-entry l = record {
  listed : l.known ≡ with_routes l.fn.known l.news.items;
  all : with_routes l.known (drop l.entry-index (map_of.entries l.table))
      ≡ with_routes l.fn.known (map_of.entries l.table);
}
