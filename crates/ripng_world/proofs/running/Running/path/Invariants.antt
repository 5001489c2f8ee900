use Rattle.std.proofs.Common.{◌+◌, ◌-◌, length}
use Rattle.ripng_world.specs.Packets.{forwardings_of}
use Rattle.ripng_world.proofs.PathWalked.{IsWalked}
use Rattle.ripng_world.proofs.running.Running.path.Given as goal

abbrev pub invariant-loop-addr : goal.invariant-loop-addr
invariant-loop-addr g l = record {
  walked : IsWalked l.self.network (forwardings_of l.self.world) l.addr l.router l.hops.items l.passed.items l.at;
}

abbrev pub decreases-loop-addr : goal.decreases-loop-addr
decreases-loop-addr g l = length l.self.network + 1 - length l.passed.items
