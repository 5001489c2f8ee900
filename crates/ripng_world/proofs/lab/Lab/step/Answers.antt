use Rattle.ripng_world.specs.Events.{event_of}
use Rattle.ripng_world.specs.Labs.{HasRun}
use Rattle.ripng_world.proofs.LabRuns.{keeps, step_on}
use Rattle.ripng_world.proofs.lab.Lab.step.Goals as goal

-- the lab goes on
module _ (g : _) (c : goal.After-step g) where
  has_run : HasRun c.step.new.self.network c.step.new.self.world
  has_run = step_on c.self.inside.running c.step.new.self (event_of c.args.event.now) c.step.result c.step.ensures.happens c.step.ensures.network c.step.ensures.ends.unchanged c.self.invariant

pub invariant_of-self : goal.invariant_of-self
invariant_of-self g c = has_run g c

pub returns-clause-keeps : goal.returns-clause-keeps
returns-clause-keeps g c = keeps _ (has_run g c)

pub returns-clause-ends : goal.returns-clause-ends
returns-clause-ends g c = rw (← c.self.view_is) c.step.ensures.ends
