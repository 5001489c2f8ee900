use Rattle.std.proofs.Common.{length, refl, ap, ◌∙◌}
use Rattle.ripng_phases.specs.declared.acting.Course.{Course}
use Rattle.ripng_phases.proofs.Going.{waits}
use Rattle.ripng_phases.proofs.Outcomes.{goes_handed}
use Rattle.ripng_phases.proofs.making.make_turns.Goals as goal

pub loop-init : goal.loop-init
loop-init g c = record { network = refl; goes = λ s first begin u. u; routers = refl }

pub returns-in_err-tick-clause-goes : goal.returns-in_err-tick-clause-goes
returns-in_err-tick-clause-goes g c =
    goes_handed g.V.Observer.takes g.V.Observer.fails c.from_residual.result c.in_err-tick.field-0.0 (c.args.lab.now, c.args.watch.now) (c.tick.new.lab, c.tick.new.watch) c.args.course.now c.tick.new.course c.tick.new.course
    c.from_residual.ensures.1
    (λ s first begin u. c.in_err-tick.ensures.goes s first begin
    (waits g.V.Observer.takes s first begin c.loop.course c.pass.new.self (c.loop.lab, c.loop.watch) (c.loop.invariant.goes s first begin u) c.pass.ensures.same c.pass.ensures.later c.pass.ensures.inside))

pub returns-in_err-hand_until-clause-goes : goal.returns-in_err-hand_until-clause-goes
returns-in_err-hand_until-clause-goes g c =
    goes_handed g.V.Observer.takes g.V.Observer.fails c.from_residual-in_err-hand_until.result c.in_err-hand_until.field-0.0 (c.args.lab.now, c.args.watch.now) (c.hand_until.new.lab, c.hand_until.new.watch) c.args.course.now c.hand_until.new.course c.hand_until.new.course
    c.from_residual-in_err-hand_until.ensures.1
    (λ s first begin u. c.in_err-hand_until.ensures.goes s first begin (c.in_ok-tick.ensures.goes s first begin
    (waits g.V.Observer.takes s first begin c.loop.course c.pass.new.self (c.loop.lab, c.loop.watch) (c.loop.invariant.goes s first begin u) c.pass.ensures.same c.pass.ensures.later c.pass.ensures.inside)))

pub loop-preserved : goal.loop-preserved
loop-preserved g c =
    record {
      network = c.in_ok-hand_until.ensures.network ∙ c.in_ok-tick.ensures.network ∙ c.loop.invariant.network;
      goes = λ s first begin u. c.in_ok-hand_until.ensures.goes s first begin (c.in_ok-tick.ensures.goes s first begin
          (waits g.V.Observer.takes s first begin c.loop.course c.pass.new.self (c.loop.lab, c.loop.watch) (c.loop.invariant.goes s first begin u) c.pass.ensures.same c.pass.ensures.later c.pass.ensures.inside));
      routers = ap length c.in_ok-hand_until.ensures.told ∙ c.in_ok-tick.ensures.routers ∙ ap (λ (k : Course). length k.told.items) c.pass.ensures.same ∙ c.loop.invariant.routers;
    }

pub returns-clause-goes : goal.returns-clause-goes
returns-clause-goes g c = c.loop.invariant.goes
