use Rattle.std.proofs.Common.{◌≡◌, ◌≤◌, ap, sym, subst, ◌∙◌, arith}
use Rattle.ripng_clock.specs.Turning.{place}
use Rattle.ripng_clock.specs.declared.carrying.Carriage.{Carriage}
use Rattle.ripng_clock.specs.declared.refused.RunRefused.TheVariants.{OutOfMemory}
use Rattle.ripng_clock.proofs.Going.{bringing_all, bringing_at, bringing_less, bringing_more, bringing_none, not_carried, receiver_part, steps_alarms, steps_links, steps_moment, steps_passed}
use Rattle.ripng_clock.proofs.Passing.{cut_here, handed}
use Rattle.ripng_clock.proofs.acting.bring.Goals as goal
use Rattle.ripng_clock.proofs.acting.bring.Goals.{then-next_u32-from+in_ok-happen, else-next_u32-from}

pub returns-in_default-clause-brought : goal.returns-in_default-clause-brought
returns-in_default-clause-brought g c =
    not_carried g.V.Observer.takes c.args.span.now (place (g.L.Runs.value c.args.lab.now) c.args.watch.now c.args.timetable.now c.args.course.now) c.args.datagram c.args.course.now.moment
    c.running-running.result.now c.running-running.ensures (c.carried.ensures.none c.in_default.is)

pub returns-in_default-receivers-clause-stopped : goal.returns-in_default-receivers-clause-stopped
returns-in_default-receivers-clause-stopped g c = λ s begin is.
    cut_here g.V.Observer.takes c.args.span.now s begin c.args.course.now.moment (g.L.Runs.value c.args.lab.now, c.args.watch.now) is g.V.Observer.fails OutOfMemory (λ steps. tt)

pub loop-router-init : goal.loop-router-init
loop-router-init g c =
    bringing_none g.V.Observer.takes c.args.span.now (place (g.L.Runs.value c.args.lab.now) c.args.watch.now c.args.timetable.now c.args.course.now) c.args.datagram c.args.course.now.moment c.carriage_of-loss.result.loss

pub happen-requires-clause-own : goal.happen-requires-clause-own
happen-requires-clause-own g c =
    let p = place (g.L.Runs.value c.args.lab.now) c.args.watch.now c.args.timetable.now c.args.course.now in
    let q = place (g.L.Runs.value c.loop-router.lab) c.loop-router.watch c.loop-router.timetable c.loop-router.course in (
      receiver_part c.args.span.now c.running-running.result.now c.in-Some.sent.now c.deref-router-items.result.now (c.deref-router-items.ensures.value ∙ c.in-Ok.ensures) c.loop-router.router-index c.loop-router-test.true,
      sym (steps_moment g.V.Observer.takes c.args.span.now c.loop-router.invariant.steps p q c.loop-router.invariant.are),
    )

pub happen-requires-clause-alarms : goal.happen-requires-clause-alarms
happen-requires-clause-alarms g c =
    let p = place (g.L.Runs.value c.args.lab.now) c.args.watch.now c.args.timetable.now c.args.course.now in
    let q = place (g.L.Runs.value c.loop-router.lab) c.loop-router.watch c.loop-router.timetable c.loop-router.course in
    steps_alarms g.V.Observer.takes c.args.span.now c.loop-router.invariant.steps p q c.loop-router.invariant.are c.requires

pub returns-in_err-happen-clause-stopped : goal.returns-in_err-happen-clause-stopped
returns-in_err-happen-clause-stopped g c =
    let p = place (g.L.Runs.value c.args.lab.now) c.args.watch.now c.args.timetable.now c.args.course.now in
    let q = place (g.L.Runs.value c.loop-router.lab) c.loop-router.watch c.loop-router.timetable c.loop-router.course in
    handed c.from_residual.result c.in_err-happen.field-0.0 _ c.from_residual.ensures.1
    (λ s begin is. c.in_err-happen.ensures.stopped s begin (steps_passed g.V.Observer.takes c.args.span.now s begin c.loop-router.invariant.steps p q c.loop-router.invariant.are is))

pub returns-in_err-happen-clause-links : goal.returns-in_err-happen-clause-links
returns-in_err-happen-clause-links g c =
    let p = place (g.L.Runs.value c.args.lab.now) c.args.watch.now c.args.timetable.now c.args.course.now in
    let q = place (g.L.Runs.value c.loop-router.lab) c.loop-router.watch c.loop-router.timetable c.loop-router.course in
    c.happen.ensures.links ∙ steps_links g.V.Observer.takes c.args.span.now c.loop-router.invariant.steps p q c.loop-router.invariant.are

pub loop-router-preserved : goal.loop-router-preserved
loop-router-preserved g c =
    let t = g.V.Observer.takes in
    let asked = c.args.span.now in
    let value = g.L.Runs.value in
    let p = place (value c.args.lab.now) c.args.watch.now c.args.timetable.now c.args.course.now in
    let mid = place (value c.loop-router.lab) c.loop-router.watch c.loop-router.timetable c.loop-router.course in
    let now = c.args.course.now.moment in
    let loss = c.carriage_of-loss.result.loss in
    let rs = c.deref-router-items.result.now in
    let i = c.loop-router.router-index in
    let at = c.if-next_u32-from in
    elim c.if-next_u32-from.branch [
      | then-next_u32-from+in_ok-happen w ↦
          bringing_at t asked p c.args.datagram now loss _ (value at.lab) (value w.happen.new.lab) at.watch w.happen.new.watch at.timetable w.happen.new.timetable at.course w.happen.new.course
          (ap value w.lab-is) w.watch-is w.timetable-is w.course-is
          (bringing_more t asked p c.args.datagram now loss rs i c.loop-router-test.true mid c.loop-router.invariant
          (place (value w.happen.new.lab) w.happen.new.watch w.happen.new.timetable w.happen.new.course) w.in_ok-happen.ensures.step)
      | else-next_u32-from w ↦
          bringing_at t asked p c.args.datagram now loss _ (value at.lab) (value c.loop-router.lab) at.watch c.loop-router.watch at.timetable c.loop-router.timetable at.course c.loop-router.course
          (ap value w.lab-is) w.watch-is w.timetable-is w.course-is
          (bringing_less t asked p c.args.datagram now loss rs i c.loop-router-test.true mid c.loop-router.invariant
          (λ none. omega (arith, none, c.from.ensures, w.if-next_u32-from.false)))
    ]

pub returns-clause-brought : goal.returns-clause-brought
returns-clause-brought g c =
    bringing_all g.V.Observer.takes c.args.span.now (place (g.L.Runs.value c.args.lab.now) c.args.watch.now c.args.timetable.now c.args.course.now) c.args.datagram c.args.course.now.moment c.carriage_of-loss.result.loss
    c.deref-router-items.result.now c.loop-router.router-index (omega (arith, c.loop-router-test.false)) (place (g.L.Runs.value c.loop-router.lab) c.loop-router.watch c.loop-router.timetable c.loop-router.course)
    c.loop-router.invariant c.running-running.result.now c.running-running.ensures c.in-Some.sent.now c.in-Some.ensures.there (c.deref-router-items.ensures.value ∙ c.in-Ok.ensures)
    (ap (λ (k : Carriage). k.loss) c.carriage_of-loss.ensures)

pub returns-clause-links : goal.returns-clause-links
returns-clause-links g c =
    let p = place (g.L.Runs.value c.args.lab.now) c.args.watch.now c.args.timetable.now c.args.course.now in
    let q = place (g.L.Runs.value c.loop-router.lab) c.loop-router.watch c.loop-router.timetable c.loop-router.course in
    steps_links g.V.Observer.takes c.args.span.now c.loop-router.invariant.steps p q c.loop-router.invariant.are
