use Rattle.std.proofs.Common.{[], ◌∷◌, ◌++◌, ◌∙◌}
use Rattle.ripng_clock.specs.Turning.{place}
use Rattle.ripng_clock.specs.declared.refused.RunRefused.TheVariants.{TooManyEvents}
use Rattle.ripng_clock.proofs.Going.{turns_alarms, turns_in_time, turns_links, turns_on, turns_passed}
use Rattle.ripng_clock.proofs.Passing.{cut_here, handed}
use Rattle.ripng_clock.proofs.running.pass.Goals as goal

pub go_on-requires-clause-alarms : goal.go_on-requires-clause-alarms
go_on-requires-clause-alarms g c =
    let p = place (g.L.Runs.value c.args.lab.now) c.args.watch.now c.args.timetable.now c.args.course.now in
    let mid = place (g.L.Runs.value c.loop.lab) c.loop.watch c.loop.timetable c.loop.course in
    turns_alarms g.V.Observer.takes c.args.span.now c.loop.invariant.turns p mid c.loop.invariant.are c.requires.alarms

pub go_on-requires-clause-in_time : goal.go_on-requires-clause-in_time
go_on-requires-clause-in_time g c =
    let p = place (g.L.Runs.value c.args.lab.now) c.args.watch.now c.args.timetable.now c.args.course.now in
    let mid = place (g.L.Runs.value c.loop.lab) c.loop.watch c.loop.timetable c.loop.course in
    turns_in_time g.V.Observer.takes c.args.span.now c.loop.invariant.turns p mid c.loop.invariant.are c.requires.in_time

pub returns-in_err-go_on-clause-stopped : goal.returns-in_err-go_on-clause-stopped
returns-in_err-go_on-clause-stopped g c =
    let p = place (g.L.Runs.value c.args.lab.now) c.args.watch.now c.args.timetable.now c.args.course.now in
    let mid = place (g.L.Runs.value c.loop.lab) c.loop.watch c.loop.timetable c.loop.course in
    handed c.from_residual.result c.in_err-go_on.field-0.0 _ c.from_residual.ensures.1
    (λ s begin is. c.in_err-go_on.ensures.stopped s begin (turns_passed g.V.Observer.takes c.args.span.now s begin c.loop.invariant.turns p mid c.loop.invariant.are is))

pub returns-in_err-go_on-clause-links : goal.returns-in_err-go_on-clause-links
returns-in_err-go_on-clause-links g c =
    let p = place (g.L.Runs.value c.args.lab.now) c.args.watch.now c.args.timetable.now c.args.course.now in
    let mid = place (g.L.Runs.value c.loop.lab) c.loop.watch c.loop.timetable c.loop.course in
    c.go_on.ensures.links ∙ turns_links g.V.Observer.takes c.args.span.now c.loop.invariant.turns p mid c.loop.invariant.are

pub returns-then-not-branch-clause-links : goal.returns-then-not-branch-clause-links
returns-then-not-branch-clause-links g c =
    let p = place (g.L.Runs.value c.args.lab.now) c.args.watch.now c.args.timetable.now c.args.course.now in
    let mid = place (g.L.Runs.value c.loop.lab) c.loop.watch c.loop.timetable c.loop.course in
    c.go_on.ensures.links ∙ turns_links g.V.Observer.takes c.args.span.now c.loop.invariant.turns p mid c.loop.invariant.are

pub loop-preserved : goal.loop-preserved
loop-preserved g c =
    let p = place (g.L.Runs.value c.args.lab.now) c.args.watch.now c.args.timetable.now c.args.course.now in
    let mid = place (g.L.Runs.value c.loop.lab) c.loop.watch c.loop.timetable c.loop.course in
    let q = place (g.L.Runs.value c.go_on.new.lab) c.go_on.new.watch c.go_on.new.timetable c.go_on.new.course in
    let turn = c.in_ok-go_on.ensures.turn c.if-not-branch.false in
    record {
      turns = c.loop.invariant.turns ++ turn.0 ∷ [];
      are = turns_on g.V.Observer.takes c.args.span.now c.loop.invariant.turns p mid q turn.0 c.loop.invariant.are turn.1;
    }

pub returns-clause-stopped : goal.returns-clause-stopped
returns-clause-stopped g c = λ s begin is.
    let p = place (g.L.Runs.value c.args.lab.now) c.args.watch.now c.args.timetable.now c.args.course.now in
    let mid = place (g.L.Runs.value c.loop.lab) c.loop.watch c.loop.timetable c.loop.course in
    cut_here g.V.Observer.takes c.args.span.now s begin c.loop.course.moment (g.L.Runs.value c.loop.lab, c.loop.watch)
    (turns_passed g.V.Observer.takes c.args.span.now s begin c.loop.invariant.turns p mid c.loop.invariant.are is) g.V.Observer.fails TooManyEvents (λ steps. tt)

pub returns-clause-links : goal.returns-clause-links
returns-clause-links g c =
    let p = place (g.L.Runs.value c.args.lab.now) c.args.watch.now c.args.timetable.now c.args.course.now in
    let mid = place (g.L.Runs.value c.loop.lab) c.loop.watch c.loop.timetable c.loop.course in
    turns_links g.V.Observer.takes c.args.span.now c.loop.invariant.turns p mid c.loop.invariant.are
