use Rattle.ripng_phases.specs.Making.{IsLatest}
use Rattle.ripng_phases.proofs.making.latest.Given as goal

abbrev pub invariant-loop-router : goal.invariant-loop-router
invariant-loop-router g l = IsLatest l.lab.world.states l.router l.latest
