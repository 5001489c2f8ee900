use Rattle.std.proofs.Common.{take}
use Rattle.ripng_clock.specs.Turning.{place}
use Rattle.ripng_clock.proofs.Going.{IsBringing}
use Rattle.ripng_clock.proofs.acting.bring.Given as goal

abbrev pub invariant-loop-router : goal.invariant-loop-router
invariant-loop-router g l =
    IsBringing g.V.Observer.takes l.fn.span (place (g.L.Runs.value l.fn.lab) l.fn.watch l.fn.timetable l.fn.course) l.datagram l.now l.loss (take l.router-index l.router-items)
    (place (g.L.Runs.value l.lab) l.watch l.timetable l.course)
