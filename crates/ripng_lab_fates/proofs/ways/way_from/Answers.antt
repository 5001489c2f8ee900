use Rattle.std.proofs.Common.{◌==◌, ◌∙◌, ℕ, ap, sym}
use Rattle.std.specs.List.{list_any}
use Rattle.ripng_lab_fates.proofs.Walking.{circles, stops, went_on}
use Rattle.ripng_lab_fates.proofs.ways.way_from.Goals as goal

pub returns-in-Err : goal.returns-in-Err
returns-in-Err c =
    sym (stops c.args.steps.now c.args.steps.now c.args.changes.now c.loop-step.passed.items c.loop-step.at c.loop-step._step-index c.loop-step-test.true c.in-Err.fate (sym c.pass.ensures ∙ c.in-Err.is))
    ∙ c.loop-step.invariant

pub returns-then-contains : goal.returns-then-contains
returns-then-contains c =
    sym (circles c.args.steps.now c.args.steps.now c.args.changes.now c.loop-step.passed.items c.loop-step.at c.loop-step._step-index c.loop-step-test.true c.in-Ok.next (sym c.pass.ensures ∙ c.in-Ok.is)
    (ap (list_any (λ (r : ℕ). r == c.in-Ok.next)) (sym (c.deref.ensures.value ∙ c.in_ok-push-in-Ok.ensures.items)) ∙ sym c.contains.ensures.value ∙ c.if-contains.true))
    ∙ c.loop-step.invariant

pub loop-step-preserved : goal.loop-step-preserved
loop-step-preserved c =
    went_on c.args.steps.now c.args.steps.now c.args.changes.now c.loop-step.passed.items c.loop-step.at c.loop-step._step-index c.loop-step-test.true c.in-Ok.next (sym c.pass.ensures ∙ c.in-Ok.is)
    (ap (list_any (λ (r : ℕ). r == c.in-Ok.next)) (sym (c.deref.ensures.value ∙ c.in_ok-push-in-Ok.ensures.items)) ∙ sym c.contains.ensures.value ∙ c.if-contains.false)
    c.push.new.self.items c.in_ok-push-in-Ok.ensures.items _ c.loop-step.invariant
