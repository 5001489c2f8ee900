use Rattle.ripng_world.proofs.lab.Lab.has_run.Goals as goal

pub returns : goal.returns
returns g c = rw (← c.self.view_is) c.self.invariant
