use Rattle.std.proofs.Common.{◌<◌, ℕ}
use Rattle.ripng_lab.specs.Healing.{IsHealedAt}
use Rattle.ripng_lab.proofs.healing.first_unhealed.Given as goal

abbrev pub invariant-loop-router : goal.invariant-loop-router
invariant-loop-router l = (router : ℕ) → router < l.router → IsHealedAt l.outages l.lab router
