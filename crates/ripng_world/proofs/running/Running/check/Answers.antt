use Rattle.std.proofs.Common.{◌∙◌, ap, sym}
use Rattle.ripng_world.specs.Events.{event_of}
use Rattle.ripng_world.specs.Labs.{event_fault}
use Rattle.ripng_world.proofs.running.Running.check.Goals as goal

pub returns-in-Deliver : goal.returns-in-Deliver
returns-in-Deliver g c = c.check_delivery.ensures c.in-Deliver.now ∙ ap (λ e. event_fault c.args.self.now (event_of e)) (sym c.in-Deliver.is)

pub returns-in-Stranger : goal.returns-in-Stranger
returns-in-Stranger g c = c.check_stranger.ensures ∙ ap (λ e. event_fault c.args.self.now (event_of e)) (sym c.in-Stranger.is)
