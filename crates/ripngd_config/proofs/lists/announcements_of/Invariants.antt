use Rattle.std.proofs.Common.{◌≡◌, ◌++◌, drop}
use Rattle.ripngd_config.specs.Configuration.{announcements_from}
use Rattle.ripngd_config.proofs.lists.announcements_of.Given as goal

-- the filters so far and those of the interfaces that are left are all
abbrev pub invariant-loop-iface : goal.invariant-loop-iface
invariant-loop-iface l = l.filters.items ++ announcements_from l.iface (drop l.iface l.tables) ≡ announcements_from 0 l.tables
