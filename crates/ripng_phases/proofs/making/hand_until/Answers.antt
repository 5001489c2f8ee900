use Rattle.std.proofs.Common.{refl, ◌∙◌}
use Rattle.ripng_phases.proofs.Outcomes.{goes_handed}
use Rattle.ripng_phases.proofs.making.hand_until.Goals as goal

pub loop-course-init : goal.loop-course-init
loop-course-init g c = record { network = refl; goes = λ s first begin u. u; told = refl; until = refl }

pub returns-in_err-hand_on-clause-goes : goal.returns-in_err-hand_on-clause-goes
returns-in_err-hand_on-clause-goes g c =
    goes_handed g.V.Observer.takes g.V.Observer.fails c.from_residual.result c.in_err-hand_on.field-0.0 (c.args.lab.now, c.args.watch.now) (c.hand_on.new.lab, c.hand_on.new.watch) c.args.course.now c.hand_on.new.course c.hand_on.new.course
    c.from_residual.ensures.1 (λ s first begin u. c.in_err-hand_on.ensures.goes s first begin (c.loop-course.invariant.goes s first begin u))

pub loop-course-preserved : goal.loop-course-preserved
loop-course-preserved g c =
    record {
      network = c.in_ok-hand_on.ensures.network ∙ c.loop-course.invariant.network;
      goes = λ s first begin u. c.in_ok-hand_on.ensures.goes s first begin (c.loop-course.invariant.goes s first begin u);
      told = c.in_ok-hand_on.ensures.told ∙ c.loop-course.invariant.told;
      until = c.in_ok-hand_on.ensures.same ∙ c.loop-course.invariant.until;
    }

pub returns-clause-goes : goal.returns-clause-goes
returns-clause-goes g c = c.loop-course.invariant.goes
