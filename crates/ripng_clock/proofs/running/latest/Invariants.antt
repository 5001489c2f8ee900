use Rattle.ripng_phases.specs.Making.{IsLatest}
use Rattle.ripng_clock.proofs.running.latest.Given as goal

abbrev pub invariant-loop-router : goal.invariant-loop-router
invariant-loop-router g l = IsLatest l.running.world.states l.router l.latest
