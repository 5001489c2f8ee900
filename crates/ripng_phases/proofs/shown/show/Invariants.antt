use Rattle.std.proofs.Common.{◌≡◌, ◌++◌, map, drop}
use Rattle.std.specs.FinMap as map_of
use Rattle.ripng_phases.specs.Changing.{shown_route}
use Rattle.ripng_phases.proofs.shown.show.Given as goal

abbrev pub invariant-loop-prefix : goal.invariant-loop-prefix
invariant-loop-prefix g l =
    l.shown.items ++ map (shown_route l.number) (drop l.prefix-index l.prefix-items) ≡ l.fn.shown.items ++ map (shown_route l.number) (map_of.entries l.router.table)
