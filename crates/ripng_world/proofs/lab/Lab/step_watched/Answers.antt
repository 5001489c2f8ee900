use Rattle.ripng_world.specs.Events.{event_of}
use Rattle.ripng_world.specs.Labs.{HasRun}
use Rattle.ripng_world.proofs.LabRuns.{keeps, step_watched_on}
use Rattle.ripng_world.proofs.lab.Lab.step_watched.Goals as goal

-- the lab goes on
module _ (g : _) (c : goal.After-step_watched g) where
  has_run : HasRun c.step_watched.new.self.network c.step_watched.new.self.world
  has_run =
      step_watched_on g.V.Observer.takes g.V.Observer.fails c.self.inside.running c.step_watched.new.self (event_of c.args.event.now) c.args.watch.now c.step_watched.new.watch c.step_watched.result
      c.step_watched.ensures.happens c.step_watched.ensures.stopped c.step_watched.ensures.network c.self.invariant

pub invariant_of-self : goal.invariant_of-self
invariant_of-self g c = has_run g c

pub returns-clause-keeps : goal.returns-clause-keeps
returns-clause-keeps g c = keeps _ (has_run g c)
