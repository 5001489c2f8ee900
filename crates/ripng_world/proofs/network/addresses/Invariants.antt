use Rattle.std.proofs.Common.{◌≡◌, take}
use Rattle.ripng_world.specs.NetworkFaults.{addresses}
use Rattle.ripng_world.proofs.network.addresses.Given as goal

abbrev pub invariant-loop-router : goal.invariant-loop-router
invariant-loop-router l = l.all.items ≡ addresses (take l.router-index l.routers)
