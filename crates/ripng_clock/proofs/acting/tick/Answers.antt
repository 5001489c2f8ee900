use Rattle.ripng_clock.specs.Turning.{place}
use Rattle.ripng_clock.proofs.Going.{tick_done}
use Rattle.ripng_clock.proofs.Times.{on_ok}
use Rattle.ripng_clock.proofs.acting.tick.Goals as goal

pub returns-clause-done : goal.returns-clause-done
returns-clause-done g c =
    on_ok c.happen.result
    (tick_done g.V.Observer.takes c.args.span.now (place (g.L.Runs.value c.args.lab.now) c.args.watch.now c.args.timetable.now c.args.course.now)
    (place (g.L.Runs.value c.happen.new.lab) c.happen.new.watch c.happen.new.timetable c.happen.new.course) c.args.router c.args.word) c.happen.ensures.step
