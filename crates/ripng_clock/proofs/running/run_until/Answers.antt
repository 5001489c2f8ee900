use Rattle.std.proofs.Common.{◌≡◌, ◌<◌, ◌≤◌, ℕ, max, length, refl, ap, sym, subst, ◌∙◌}
use Rattle.ripng_world.specs.Labs.{LabValue}
use Rattle.ripng_world.specs.declared.watch.Stopped.TheVariants.{Refused}
use Rattle.ripng_clock.specs.Carrying.{Asked}
use Rattle.ripng_clock.specs.Ending.{AreAlarms}
use Rattle.ripng_clock.specs.declared.refused.RunRefused.TheVariants.{BeforeBegin, OutOfMemory}
use Rattle.ripng_clock.proofs.Ended.{begin_made, begun_out, run_made, run_network, run_over, run_stopped, run_timely}
use Rattle.ripng_clock.proofs.Passing.{handed, not_begun, passed_none}
use Rattle.ripng_clock.proofs.running.run_until.Goals as goal

pub returns-in_default-clause-stopped : goal.returns-in_default-clause-stopped
returns-in_default-clause-stopped g c =
    let t = g.V.Observer.takes in
    let asked = c.args.span.now in
    let old = g.L.Runs.value c.args.lab.now in
    let begin_is = begin_made c.args.timetable.now old c.running.result.now c.running.ensures c.latest.result c.latest.ensures c.max-begin.result c.max-begin.ensures in
    let late = subst (λ (a : Asked). a.until < c.max-begin.result) c.span.view_is (c.moment_by.ensures.none c.in_default.is) in
    run_stopped t g.V.Observer.fails asked c.args.timetable.now (old, c.args.watch.now) c.max-begin.result begin_is (Refused (BeforeBegin c.max-begin.result)) (old, c.args.watch.now)
    (not_begun t g.V.Observer.fails asked (old, c.args.watch.now) c.max-begin.result (BeforeBegin c.max-begin.result) (refl, late, refl))

pub returns-in_default-alarms_of-clause-stopped : goal.returns-in_default-alarms_of-clause-stopped
returns-in_default-alarms_of-clause-stopped g c =
    let t = g.V.Observer.takes in
    let asked = c.args.span.now in
    let old = g.L.Runs.value c.args.lab.now in
    let begin_is = begin_made c.args.timetable.now old c.running.result.now c.running.ensures c.latest.result c.latest.ensures c.max-begin.result c.max-begin.ensures in
    run_stopped t g.V.Observer.fails asked c.args.timetable.now (old, c.args.watch.now) c.max-begin.result begin_is (Refused OutOfMemory) (old, c.args.watch.now)
    (not_begun t g.V.Observer.fails asked (old, c.args.watch.now) c.max-begin.result OutOfMemory tt)

pub returns-in_default-set_out-clause-stopped : goal.returns-in_default-set_out-clause-stopped
returns-in_default-set_out-clause-stopped g c =
    let t = g.V.Observer.takes in
    let asked = c.args.span.now in
    let old = g.L.Runs.value c.args.lab.now in
    let begin_is = begin_made c.args.timetable.now old c.running.result.now c.running.ensures c.latest.result c.latest.ensures c.max-begin.result c.max-begin.ensures in
    run_stopped t g.V.Observer.fails asked c.args.timetable.now (old, c.args.watch.now) c.max-begin.result begin_is (Refused OutOfMemory) (old, c.args.watch.now)
    (not_begun t g.V.Observer.fails asked (old, c.args.watch.now) c.max-begin.result OutOfMemory tt)

pub returns-in_err-pass-clause-network : goal.returns-in_err-pass-clause-network
returns-in_err-pass-clause-network g c =
    let t = g.V.Observer.takes in
    let asked = c.args.span.now in
    let old = g.L.Runs.value c.args.lab.now in
    (c.in_err-pass.ensures.stopped (old, c.args.watch.now) c.set_out.new.self.moment (passed_none t asked (old, c.args.watch.now) c.set_out.new.self.moment)).network

pub returns-in_err-pass-clause-stopped : goal.returns-in_err-pass-clause-stopped
returns-in_err-pass-clause-stopped g c =
    let t = g.V.Observer.takes in
    let asked = c.args.span.now in
    let old = g.L.Runs.value c.args.lab.now in
    let begin_is = begin_made c.args.timetable.now old c.running.result.now c.running.ensures c.latest.result c.latest.ensures c.set_out.new.self.moment
    (c.set_out.ensures.moment ∙ c.in-Some.ensures.some.0 ∙ c.max-begin.ensures) in
    handed c.from_residual.result c.in_err-pass.field-0.0 _ c.from_residual.ensures.1
    (run_stopped t g.V.Observer.fails asked c.args.timetable.now (old, c.args.watch.now) c.set_out.new.self.moment begin_is c.in_err-pass.field-0.0 (g.L.Runs.value c.pass.new.lab, c.pass.new.watch)
    (c.in_err-pass.ensures.stopped (old, c.args.watch.now) c.set_out.new.self.moment (passed_none t asked (old, c.args.watch.now) c.set_out.new.self.moment)))

pub returns-clause-network : goal.returns-clause-network
returns-clause-network g c =
    let t = g.V.Observer.takes in
    let asked = c.args.span.now in
    let old = g.L.Runs.value c.args.lab.now in
    let begin_is = begin_made c.args.timetable.now old c.running.result.now c.running.ensures c.latest.result c.latest.ensures c.set_out.new.self.moment
    (c.set_out.ensures.moment ∙ c.in-Some.ensures.some.0 ∙ c.max-begin.ensures) in
    let first : c.span.inside.first ≡ asked.first = ap (λ (a : Asked). a.first) c.span.view_is in
    let out = begun_out asked old c.running-3.result.now c.running-3.ensures c.in-Some.moment c.set_out.new.self.moment c.set_out.ensures.moment c.args.timetable.now c.set_out.new.timetable c.span.inside.first asked.first first c.set_out.new.self.next
    c.in-Ok-set_out.ensures.set_out in
    let next_is : c.set_out.new.self.next ≡ max asked.first (length old.world.sent) =
    c.in-Ok-set_out.ensures.next ∙ ap (λ k. max k (length c.running-3.result.now.world.sent)) first ∙ ap (λ (l : LabValue). max asked.first (length l.world.sent)) c.running-3.ensures in
    let alarms : AreAlarms asked old c.set_out.new.self.alarms =
    subst (AreAlarms asked old) (sym c.set_out.ensures.alarms) (subst (λ (l : LabValue). AreAlarms asked l c.in-Ok.alarms) c.running-2.ensures c.in-Ok.ensures) in
    let in_time : c.set_out.new.self.moment ≤ asked.until =
    subst (λ m. m ≤ asked.until) (sym (c.set_out.ensures.moment ∙ c.in-Some.ensures.some.0)) (subst (λ (a : Asked). c.max-begin.result ≤ a.until) c.span.view_is c.in-Some.ensures.some.1) in
    run_network t asked c.args.timetable.now old (g.L.Runs.value c.pass.new.lab) c.args.watch.now c.pass.new.watch c.set_out.new.timetable c.pass.new.timetable c.set_out.new.self c.pass.new.course
    begin_is out next_is alarms in_time c.in_ok-pass.ensures.turns c.in_ok-pass.ensures.over

pub returns-clause-ran : goal.returns-clause-ran
returns-clause-ran g c =
    let t = g.V.Observer.takes in
    let asked = c.args.span.now in
    let old = g.L.Runs.value c.args.lab.now in
    let begin_is = begin_made c.args.timetable.now old c.running.result.now c.running.ensures c.latest.result c.latest.ensures c.set_out.new.self.moment
    (c.set_out.ensures.moment ∙ c.in-Some.ensures.some.0 ∙ c.max-begin.ensures) in
    let first : c.span.inside.first ≡ asked.first = ap (λ (a : Asked). a.first) c.span.view_is in
    let out = begun_out asked old c.running-3.result.now c.running-3.ensures c.in-Some.moment c.set_out.new.self.moment c.set_out.ensures.moment c.args.timetable.now c.set_out.new.timetable c.span.inside.first asked.first first c.set_out.new.self.next
    c.in-Ok-set_out.ensures.set_out in
    let next_is : c.set_out.new.self.next ≡ max asked.first (length old.world.sent) =
    c.in-Ok-set_out.ensures.next ∙ ap (λ k. max k (length c.running-3.result.now.world.sent)) first ∙ ap (λ (l : LabValue). max asked.first (length l.world.sent)) c.running-3.ensures in
    let alarms : AreAlarms asked old c.set_out.new.self.alarms =
    subst (AreAlarms asked old) (sym c.set_out.ensures.alarms) (subst (λ (l : LabValue). AreAlarms asked l c.in-Ok.alarms) c.running-2.ensures c.in-Ok.ensures) in
    let in_time : c.set_out.new.self.moment ≤ asked.until =
    subst (λ m. m ≤ asked.until) (sym (c.set_out.ensures.moment ∙ c.in-Some.ensures.some.0)) (subst (λ (a : Asked). c.max-begin.result ≤ a.until) c.span.view_is c.in-Some.ensures.some.1) in
    run_made t asked c.args.timetable.now old (g.L.Runs.value c.pass.new.lab) c.args.watch.now c.pass.new.watch c.set_out.new.timetable c.pass.new.timetable c.set_out.new.self c.pass.new.course
    begin_is out next_is alarms in_time c.in_ok-pass.ensures.turns c.in_ok-pass.ensures.over

pub returns-clause-over : goal.returns-clause-over
returns-clause-over g c =
    let t = g.V.Observer.takes in
    let asked = c.args.span.now in
    let old = g.L.Runs.value c.args.lab.now in
    let begin_is = begin_made c.args.timetable.now old c.running.result.now c.running.ensures c.latest.result c.latest.ensures c.set_out.new.self.moment
    (c.set_out.ensures.moment ∙ c.in-Some.ensures.some.0 ∙ c.max-begin.ensures) in
    let first : c.span.inside.first ≡ asked.first = ap (λ (a : Asked). a.first) c.span.view_is in
    let out = begun_out asked old c.running-3.result.now c.running-3.ensures c.in-Some.moment c.set_out.new.self.moment c.set_out.ensures.moment c.args.timetable.now c.set_out.new.timetable c.span.inside.first asked.first first c.set_out.new.self.next
    c.in-Ok-set_out.ensures.set_out in
    let next_is : c.set_out.new.self.next ≡ max asked.first (length old.world.sent) =
    c.in-Ok-set_out.ensures.next ∙ ap (λ k. max k (length c.running-3.result.now.world.sent)) first ∙ ap (λ (l : LabValue). max asked.first (length l.world.sent)) c.running-3.ensures in
    let alarms : AreAlarms asked old c.set_out.new.self.alarms =
    subst (AreAlarms asked old) (sym c.set_out.ensures.alarms) (subst (λ (l : LabValue). AreAlarms asked l c.in-Ok.alarms) c.running-2.ensures c.in-Ok.ensures) in
    let in_time : c.set_out.new.self.moment ≤ asked.until =
    subst (λ m. m ≤ asked.until) (sym (c.set_out.ensures.moment ∙ c.in-Some.ensures.some.0)) (subst (λ (a : Asked). c.max-begin.result ≤ a.until) c.span.view_is c.in-Some.ensures.some.1) in
    run_over t asked c.args.timetable.now old (g.L.Runs.value c.pass.new.lab) c.args.watch.now c.pass.new.watch c.set_out.new.timetable c.pass.new.timetable c.set_out.new.self c.pass.new.course
    begin_is out next_is alarms in_time c.in_ok-pass.ensures.turns c.in_ok-pass.ensures.over

pub returns-clause-timely : goal.returns-clause-timely
returns-clause-timely g c =
    let t = g.V.Observer.takes in
    let asked = c.args.span.now in
    let old = g.L.Runs.value c.args.lab.now in
    let begin_is = begin_made c.args.timetable.now old c.running.result.now c.running.ensures c.latest.result c.latest.ensures c.set_out.new.self.moment
    (c.set_out.ensures.moment ∙ c.in-Some.ensures.some.0 ∙ c.max-begin.ensures) in
    let first : c.span.inside.first ≡ asked.first = ap (λ (a : Asked). a.first) c.span.view_is in
    let out = begun_out asked old c.running-3.result.now c.running-3.ensures c.in-Some.moment c.set_out.new.self.moment c.set_out.ensures.moment c.args.timetable.now c.set_out.new.timetable c.span.inside.first asked.first first c.set_out.new.self.next
    c.in-Ok-set_out.ensures.set_out in
    let next_is : c.set_out.new.self.next ≡ max asked.first (length old.world.sent) =
    c.in-Ok-set_out.ensures.next ∙ ap (λ k. max k (length c.running-3.result.now.world.sent)) first ∙ ap (λ (l : LabValue). max asked.first (length l.world.sent)) c.running-3.ensures in
    let alarms : AreAlarms asked old c.set_out.new.self.alarms =
    subst (AreAlarms asked old) (sym c.set_out.ensures.alarms) (subst (λ (l : LabValue). AreAlarms asked l c.in-Ok.alarms) c.running-2.ensures c.in-Ok.ensures) in
    let in_time : c.set_out.new.self.moment ≤ asked.until =
    subst (λ m. m ≤ asked.until) (sym (c.set_out.ensures.moment ∙ c.in-Some.ensures.some.0)) (subst (λ (a : Asked). c.max-begin.result ≤ a.until) c.span.view_is c.in-Some.ensures.some.1) in
    run_timely t asked c.args.timetable.now old (g.L.Runs.value c.pass.new.lab) c.args.watch.now c.pass.new.watch c.set_out.new.timetable c.pass.new.timetable c.set_out.new.self c.pass.new.course
    begin_is out next_is alarms in_time c.in_ok-pass.ensures.turns c.in_ok-pass.ensures.over
