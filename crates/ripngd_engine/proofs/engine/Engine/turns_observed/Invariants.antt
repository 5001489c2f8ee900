use Rattle.std.proofs.Common.{◌≡◌, false}
use Rattle.ripngd_engine.specs.Seen.{seen}
use Rattle.ripngd_engine.specs.Runner.{runner_seen}
use Rattle.ripngd_engine.proofs.Steps.{RanTold}
use Rattle.ripngd_engine.proofs.engine.Engine.turns_observed.Given as goal

abbrev pub invariant-loop-done : goal.invariant-loop-done
invariant-loop-done g l = record {
  ran : RanTold g.V.TrafficObserver.takes l.fn.observer l.observer l.done (seen g.R.Rng.stream g.W.Write.contents l.fn.self l.fn.log)
      (runner_seen g.L.Link.calls g.C.TimeSource.moments g.R.Rng.stream g.W.Write.contents l.self-inside.runner l.log);
  going : l.self-inside.runner.outlet.ended ≡ false;
}
