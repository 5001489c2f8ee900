use Rattle.std.proofs.Common.{◌≡◌, ◌++◌, drop}
use Rattle.ripngd_config.specs.Configuration.{limits_from}
use Rattle.ripngd_config.proofs.lists.limits_of.Given as goal

-- the limits so far and those of the interfaces that are left are all
abbrev pub invariant-loop-iface : goal.invariant-loop-iface
invariant-loop-iface l = l.limits.items ++ limits_from l.iface (drop l.iface l.tables) ≡ limits_from 0 l.tables
