use Rattle.std.proofs.Common.{◌≡◌, ℕ, length, Some, slice_get}
use Rattle.ripng_world.specs.Packets.{forwardings_of}
use Rattle.ripng_lab_fates.specs.Ways.{IsStep}
use Rattle.ripng_lab_fates.specs.declared.ways.Step.{Step}
use Rattle.ripng_lab_fates.proofs.ways.steps_of.Given as goal

-- so do the routers so far
abbrev pub invariant-loop-router : goal.invariant-loop-router
invariant-loop-router l =
    (length l.steps.items ≡ l.router)
    × ((router : ℕ) (s : Step) → slice_get l.steps.items router ≡ Some s → IsStep l.lab.network (forwardings_of l.lab.world) l.addr router s)
