use Rattle.std.proofs.Common.{take}
use Rattle.ripngd_config.specs.Twice.{AreAllPeersDistinct}
use Rattle.ripngd_config.proofs.twice.check_peers.Given as goal

abbrev pub invariant-loop-index : goal.invariant-loop-index
invariant-loop-index l = AreAllPeersDistinct (take l.index-counter l.interfaces)
