use Rattle.ripng_trace.proofs.tracer.TracerWatch.noticed.Goals as goal

pub returns-in-Lied-clause-notes : goal.returns-in-Lied-clause-notes
returns-in-Lied-clause-notes g c = rw c.in-Lied.is c.report.ensures.whole
