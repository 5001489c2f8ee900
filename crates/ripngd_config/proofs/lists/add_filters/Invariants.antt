use Rattle.std.proofs.Common.{◌≡◌, ◌++◌, drop, map}
use Rattle.ripngd_config.specs.Configuration.{filter_of}
use Rattle.ripngd_config.proofs.lists.add_filters.Given as goal

-- the filters so far and those of the ranges that are left are all
abbrev pub invariant-loop-range : goal.invariant-loop-range
invariant-loop-range l = l.filters.items ++ map (filter_of l.iface l.action) (drop l.range-index l.ranges) ≡ l.initial.filters.items ++ map (filter_of l.iface l.action) l.ranges
