use Rattle.std.proofs.Common.{◌≡◌, ◌∷◌, []}
use Rattle.ripng_world.specs.Events.{event_of}
use Rattle.ripng_clock.specs.Turning.{place}
use Rattle.ripng_clock.specs.declared.refused.RunRefused.TheVariants.{OutOfMemory}
use Rattle.ripng_clock.proofs.Going.{step_made, stops_at}
use Rattle.ripng_clock.proofs.Passing.{cut_here, handed, passed_one}
use Rattle.ripng_clock.proofs.acting.happen.Goals as goal

pub returns-in_err-occur-clause-stopped : goal.returns-in_err-occur-clause-stopped
returns-in_err-occur-clause-stopped g c =
    let old = g.L.Runs.value c.args.lab.now in
    let new = g.L.Runs.value c.occur.new.lab in
    let why = c.in_err-occur.field-0.0 in
    handed c.from_residual.result why _ c.from_residual.ensures.1
    (stops_at g.V.Observer.takes g.V.Observer.fails c.args.span.now (event_of c.args.event.now) c.args.course.now.moment c.requires.own why (old, c.args.watch.now) (new, c.occur.new.watch)
    c.in_err-occur.ensures.network c.in_err-occur.ensures.memory c.in_err-occur.ensures.stopped)

pub returns-in-Ok-clause-step : goal.returns-in-Ok-clause-step
returns-in-Ok-clause-step g c =
    let old = g.L.Runs.value c.args.lab.now in
    let new = g.L.Runs.value c.occur.new.lab in
    step_made g.V.Observer.takes c.args.span.now (place old c.args.watch.now c.args.timetable.now c.args.course.now) (place new c.occur.new.watch c.follow.new.timetable c.follow.new.self) (event_of c.args.event.now)
    c.requires.own c.in_ok-occur.ensures.network c.in_ok-occur.ensures.there c.in_ok-occur.ensures.done c.running.result.now c.running.ensures c.in-Ok.ensures.set_out c.in-Ok.ensures.next c.in-Ok.ensures.moment
    c.router.result c.router.ensures c.in-Ok.ensures.alarms

pub returns-in-Err-clause-stopped : goal.returns-in-Err-clause-stopped
returns-in-Err-clause-stopped g c = λ s begin is.
    let old = g.L.Runs.value c.args.lab.now in
    let new = g.L.Runs.value c.occur.new.lab in
    cut_here g.V.Observer.takes c.args.span.now s begin c.args.course.now.moment (new, c.occur.new.watch)
    (passed_one g.V.Observer.takes c.args.span.now s begin c.args.course.now.moment (old, c.args.watch.now) is (event_of c.args.event.now) c.requires.own (new, c.occur.new.watch)
    c.in_ok-occur.ensures.network c.in_ok-occur.ensures.done) g.V.Observer.fails OutOfMemory (λ steps. tt)
