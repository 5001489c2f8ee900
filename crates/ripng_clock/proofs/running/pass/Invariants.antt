use Rattle.std.proofs.Common.{List}
use Rattle.ripng_phases.specs.Phases.{Step}
use Rattle.ripng_clock.specs.Turning.{AreTurns, place}
use Rattle.ripng_clock.proofs.running.pass.Given as goal

abbrev pub invariant-loop : goal.invariant-loop
invariant-loop g l = record {
  turns : List (List Step);
  are : AreTurns g.V.Observer.takes l.fn.span (place (g.L.Runs.value l.fn.lab) l.fn.watch l.fn.timetable l.fn.course) turns (place (g.L.Runs.value l.lab) l.watch l.timetable l.course);
}
