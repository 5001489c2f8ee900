use Rattle.std.proofs.Common.{take}
use Rattle.ripngd_config.specs.Twice.{ArePortsDistinct}
use Rattle.ripngd_config.proofs.twice.check_ports.Given as goal

abbrev pub invariant-loop-index : goal.invariant-loop-index
invariant-loop-index l = ArePortsDistinct (take l.index-counter l.interfaces)
