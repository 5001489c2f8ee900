use Rattle.std.proofs.Common.{◌≡◌, ◌++◌, drop}
use Rattle.ripngd_config.specs.Configuration.{passive_from}
use Rattle.ripngd_config.proofs.lists.passive_of.Given as goal

-- the numbers so far and those of the interfaces that are left are all
abbrev pub invariant-loop-iface : goal.invariant-loop-iface
invariant-loop-iface l = l.passive.items ++ passive_from l.iface (drop l.iface l.tables) ≡ passive_from 0 l.tables
