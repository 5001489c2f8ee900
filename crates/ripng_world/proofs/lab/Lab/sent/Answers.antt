use Rattle.ripng_world.proofs.LabRuns.{truth, fixed}
use Rattle.ripng_world.proofs.lab.Lab.sent.Goals as goal

pub returns-clause-truth : goal.returns-clause-truth
returns-clause-truth g c = rw (← c.self.view_is) (truth _ _ c.self.invariant)

pub returns-clause-fixed : goal.returns-clause-fixed
returns-clause-fixed g c = rw (← c.self.view_is, c.sent.ensures) (fixed _ _ c.self.invariant).truth
