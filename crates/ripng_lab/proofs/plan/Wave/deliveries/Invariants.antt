use Rattle.std.proofs.Common.{All, map}
use Rattle.ripng_world.specs.Events.{event_of}
use Rattle.ripng_lab.specs.Doing.{IsDelivery}
use Rattle.ripng_lab.proofs.plan.Wave.deliveries.Given as goal

abbrev pub invariant-loop-router : goal.invariant-loop-router
invariant-loop-router l = All (IsDelivery l.self.moment) (map event_of l.events.items)
