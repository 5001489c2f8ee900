use Rattle.std.proofs.Common.{take}
use Rattle.ripngd_config.specs.Twice.{ArePeersDistinct}
use Rattle.ripngd_config.proofs.twice.peer_twice.Given as goal

abbrev pub invariant-loop-index : goal.invariant-loop-index
invariant-loop-index l = ArePeersDistinct (take l.index l.peers)
