use Rattle.std.proofs.Common.{◌≡◌, ◌⊎◌, inl, inr, Err, ℕ, ◌<◌, ◌≤◌, ◌^◌, Some, length, slice_get, refl, ap, sym, subst, ◌∙◌, arith}
use Rattle.std.specs.Prelude.{⊤}
use Rattle.ripng_world.specs.Labs.{LabValue}
use Rattle.ripng_world.specs.declared.watch.Stopped.TheVariants.{Refused}
use Rattle.ripng_phases.specs.Making.{GoesOn}
use Rattle.ripng_phases.specs.declared.refused.PhaseRefused.{PhaseRefused}
use Rattle.ripng_phases.specs.declared.acting.Course.{Course}
use Rattle.ripng_phases.specs.declared.acting.Update.{Update}
use Rattle.ripng_phases.specs.declared.refused.PhaseRefused.TheVariants.{NoUpdateInTime}
use Rattle.ripng_phases.proofs.Handing.{next_of}
use Rattle.ripng_phases.proofs.Outcomes.{ended, goes_handed, some_fact, stops_here, waits_until}
use Rattle.ripng_phases.proofs.making.tell_rest.Goals as goal
use Rattle.ripng_phases.proofs.making.tell_rest.Goals.{then-not-has_told+in_ok-course+in_ok-tick, else-not-has_told}

pub loop-router-init : goal.loop-router-init
loop-router-init g c = record { network = refl; goes = λ s first begin u. u; routers = refl; told = λ router lt. absurd (omega (arith, lt)) }

pub returns-in_err-tick-clause-goes : goal.returns-in_err-tick-clause-goes
returns-in_err-tick-clause-goes g c =
    goes_handed g.V.Observer.takes g.V.Observer.fails c.from_residual-in_err-tick.result c.in_err-tick.field-0.0 (c.args.lab.now, c.args.watch.now) (c.tick.new.lab, c.tick.new.watch) c.args.course.now c.tick.new.course c.tick.new.course
    c.from_residual-in_err-tick.ensures.1 (λ s first begin u. c.in_err-tick.ensures.goes s first begin
    (waits_until g.V.Observer.takes s first begin c.loop-router.course (c.loop-router.lab, c.loop-router.watch) (c.loop-router.invariant.goes s first begin u) c.in_ok-course.field-0
    (some_fact c.due_moment.result c.in_ok-course.field-0 _ c.in_ok-course.ensures.ok_part c.due_moment.ensures.inside)))

pub returns-in_err-course-clause-goes : goal.returns-in_err-course-clause-goes
returns-in_err-course-clause-goes g c =
    let router = c.loop-router.router in
    let x = ended c.due_moment.result (NoUpdateInTime router) c.in_err-course.field-0.0 c.in_err-course.ensures.value in
    goes_handed g.V.Observer.takes g.V.Observer.fails c.from_residual.result (Refused c.in_err-course.field-0.0) (c.args.lab.now, c.args.watch.now) (c.loop-router.lab, c.loop-router.watch) c.args.course.now c.loop-router.course c.loop-router.course
    c.from_residual.ensures.1
    (subst (λ (why : PhaseRefused). GoesOn {X = ⊤} g.V.Observer.takes g.V.Observer.fails (Err (Refused why)) (c.args.lab.now, c.args.watch.now) c.args.course.now (c.loop-router.lab, c.loop-router.watch) c.loop-router.course) (sym x.1)
    (λ s first begin u.
    stops_here g.V.Observer.takes g.V.Observer.fails ⊤ (NoUpdateInTime router) (c.loop-router.lab, c.loop-router.watch) c.loop-router.course c.loop-router.course
    (λ begin ends inside state at. subst (λ (n : ℕ). (n ≤ state.regular) ⊎ (2 ^ 60 < state.regular)) ends (c.due_moment.ensures.late x.0 inside state at))
    s first begin (c.loop-router.invariant.goes s first begin u)))

pub loop-router-preserved : goal.loop-router-preserved
loop-router-preserved g c =
    let inv = c.loop-router.invariant in
    let here : c.loop-router.router < length c.loop-router.course.told.items =
    omega (arith, c.loop-router-test.true, c.loop-router.auto.router-end, c.routers-router-end.ensures, inv.routers, c.requires) in
    elim c.if-not-has_told.branch [
      | then-not-has_told+in_ok-course+in_ok-tick w ↦
          let e = w.in_ok-tick.ensures in
          record {
            network = ap (λ (l : LabValue). l.network) w.lab-is ∙ e.network ∙ inv.network;
            goes = λ s first begin u.
                rw (w.lab-is, w.course-is, w.watch-is)
                (e.goes s first begin (waits_until g.V.Observer.takes s first begin c.loop-router.course (c.loop-router.lab, c.loop-router.watch) (inv.goes s first begin u) w.in_ok-course.field-0 (some_fact w.due_moment.result w.in_ok-course.field-0 _ w.in_ok-course.ensures.ok_part w.due_moment.ensures.inside)));
            routers = ap (λ (k : Course). length k.told.items) w.course-is ∙ e.routers ∙ inv.routers;
            told = λ router lt.
                rw (w.course-is)
                (elim (next_of router c.loop-router.router lt) [
                  | inl old ↦ let x = inv.told router old in e.kept router x.0 x.1
                  | inr new ↦ subst (λ (k : ℕ). (u : Update) × (slice_get w.tick.new.course.told.items k ≡ Some (Some u))) (sym new) (e.told (some_fact w.due_moment.result w.in_ok-course.field-0 _ w.in_ok-course.ensures.ok_part w.due_moment.ensures.due) here)
                ]);
          }
      | else-not-has_told w ↦
          record {
            network = ap (λ (l : LabValue). l.network) w.lab-is ∙ inv.network;
            goes = λ s first begin u. rw (w.lab-is, w.course-is, w.watch-is) (inv.goes s first begin u);
            routers = ap (λ (k : Course). length k.told.items) w.course-is ∙ inv.routers;
            told = λ router lt.
                rw (w.course-is)
                (elim (next_of router c.loop-router.router lt) [
                  | inl old ↦ inv.told router old
                  | inr new ↦
                      subst (λ (k : ℕ). (u : Update) × (slice_get c.loop-router.course.told.items k ≡ Some (Some u))) (sym new)
                      (c.has_told.ensures w.if-not-has_told.false)
                ]);
          }
    ]

pub returns-clause-told : goal.returns-clause-told
returns-clause-told g c = λ router here.
    c.loop-router.invariant.told router (omega (arith, here, c.loop-router-test.false, c.routers-router-end.ensures))

pub returns-clause-goes : goal.returns-clause-goes
returns-clause-goes g c = c.loop-router.invariant.goes
