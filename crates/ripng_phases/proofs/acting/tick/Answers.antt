use Rattle.std.proofs.Common.{Err, length, ap, sym, ◌∙◌}
use Rattle.std.proofs.lemmas.Bool.{false≢true}
use Rattle.ripng_phases.specs.declared.acting.Update.{Update}
use Rattle.ripng_phases.proofs.Going.{announced, nudged}
use Rattle.ripng_phases.proofs.Outcomes.{goes_handed, goes_nudged}
use Rattle.ripng_phases.proofs.acting.tick.Goals as goal

pub returns-in_err-happen-clause-goes : goal.returns-in_err-happen-clause-goes
returns-in_err-happen-clause-goes g c =
    let why = c.in_err-happen.field-0.0 in
    goes_handed g.V.Observer.takes g.V.Observer.fails c.from_residual.result why (c.args.lab.now, c.args.watch.now) (c.happen.new.lab, c.happen.new.watch) c.args.course.now c.args.course.now c.args.course.now c.from_residual.ensures.1
    (goes_nudged g.V.Observer.takes g.V.Observer.fails (Err why) (c.args.lab.now, c.args.watch.now) (c.happen.new.lab, c.happen.new.watch) c.args.course.now c.args.router c.args.word c.in_err-happen.ensures.network tt
    c.in_err-happen.ensures.stopped c.in_err-happen.ensures.memory)

pub returns-clause-goes : goal.returns-clause-goes
returns-clause-goes g c = λ s first begin u.
    let update : Update = record { first = length c.sent-first.result.now; end = length c.sent-end.result.now } in
    announced g.V.Observer.takes s first begin c.args.course.now (c.args.lab.now, c.args.watch.now) (c.happen.new.lab, c.happen.new.watch) u c.args.router c.args.word c.in_ok-happen.ensures.network c.in_ok-happen.ensures.done
    ((c.is_due-due.ensures.due c.args.word).0 c.if-not-due.false) update (ap length c.sent-first.ensures.value) (ap length c.sent-end.ensures.value) c.add.new.self c.add.ensures.same c.add.ensures.told

pub returns-clause-told : goal.returns-clause-told
returns-clause-told g c = λ due here. (_, c.add.ensures.told.here here)

pub returns-then-not-due-clause-goes : goal.returns-then-not-due-clause-goes
returns-then-not-due-clause-goes g c = λ s first begin u.
    nudged g.V.Observer.takes s first begin c.args.course.now (c.args.lab.now, c.args.watch.now) (c.happen.new.lab, c.happen.new.watch) u c.args.router c.args.word c.in_ok-happen.ensures.network c.in_ok-happen.ensures.done

pub returns-then-not-due-clause-told : goal.returns-then-not-due-clause-told
returns-then-not-due-clause-told g c = λ due here. absurd (false≢true (sym c.if-not-due.true ∙ (c.is_due-due.ensures.due c.args.word).1 due))
