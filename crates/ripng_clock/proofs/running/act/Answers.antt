use Rattle.std.proofs.Common.{List, refl, sym, subst}
use Rattle.ripng_phases.specs.Phases.{Step}
use Rattle.ripng_clock.specs.Turning.{IsDone, place}
use Rattle.ripng_clock.specs.declared.due.Due.{Due}
use Rattle.ripng_clock.specs.declared.timetable.Timetable.{Timetable}
use Rattle.ripng_clock.proofs.Going.{come_done}
use Rattle.ripng_clock.proofs.running.act.Goals as goal

pub returns-in_ok-bring-in-Comes-clause-done : goal.returns-in_ok-bring-in-Comes-clause-done
returns-in_ok-bring-in-Comes-clause-done g c =
    let p = place (g.L.Runs.value c.args.lab.now) c.args.watch.now c.args.timetable.now c.args.course.now in
    let mid = place (g.L.Runs.value c.bring.new.lab) c.bring.new.watch c.bring.new.timetable c.bring.new.course in
    let left : Timetable = record { links = c.bring.new.timetable.links; under_way = c.remove.new.self; over = c.bring.new.timetable.over } in
    let q = place (g.L.Runs.value c.bring.new.lab) c.bring.new.watch left c.bring.new.course in
    subst (λ (due : Due). (steps : List Step) × IsDone g.V.Observer.takes c.args.span.now due p steps q) (sym c.in-Comes.is)
    (come_done g.V.Observer.takes c.args.span.now p mid q c.in-Comes.time c.in-Comes.datagram c.in_ok-bring-in-Comes.ensures.brought c.remove.ensures refl refl)
