use Rattle.std.proofs.Common.{rules, arith, ap, ◌∙◌, ◌+◌, ◌≡◌}
use Rattle.ripngd_engine.proofs.Steps.{RanTold-none, RanTold-more, TurnsObserved-all, TurnsObserved-deaf, TurnsObserved-refused}
use Rattle.ripngd_engine.proofs.engine.Engine.turns_observed.Goals as goal

pub loop-done-init : goal.loop-done-init
loop-done-init g c = rw (← c.self.view_is) (record { ran = RanTold-none _ _ _; going = search rules })

pub loop-done-preserved : goal.loop-done-preserved
loop-done-preserved g c =
    record { ran = RanTold-more _ _ _ _ _ _ _ _ c.loop-done.invariant.ran c.in-Ok.ensures.0; going = c.in-Ok.ensures.1 }

pub returns-clause-runs : goal.returns-clause-runs
returns-clause-runs g c =
    let all : c.loop-done.done ≡ c.args.n = search rules in
    λ _. (TurnsObserved-all _ _ _ _ _ _ _ all c.loop-done.invariant.going c.loop-done.invariant.ran).answer

pub returns-clause-told : goal.returns-clause-told
returns-clause-told g c =
    let all : c.loop-done.done ≡ c.args.n = search rules in
    λ _. TurnsObserved-all _ _ _ _ _ _ _ all c.loop-done.invariant.going c.loop-done.invariant.ran

pub returns-in-Err-NoLink-clause-runs : goal.returns-in-Err-NoLink-clause-runs
returns-in-Err-NoLink-clause-runs g c =
    let deaf = (rw c.in-Err-NoLink.field-0-is at c.in-Err-NoLink.ensures).0 in
    λ _. (
      ap (λ m. m.ended) deaf.machine ∙ c.loop-done.invariant.going,
      search rules,
      record { middle = _; ran = c.loop-done.invariant.ran.ran; deaf = deaf },
    )

pub returns-in-Err-NoLink-clause-told : goal.returns-in-Err-NoLink-clause-told
returns-in-Err-NoLink-clause-told g c =
    let answers = rw c.in-Err-NoLink.field-0-is at c.in-Err-NoLink.ensures in
    λ _. rw answers.1 (
    TurnsObserved-deaf _ _ _ _ _ _ _ _ (ap (λ m. m.ended) answers.0.machine ∙ c.loop-done.invariant.going) (search rules)
    c.loop-done.invariant.ran answers.0)

pub returns-in-Err-NoMemory-clause-runs : goal.returns-in-Err-NoMemory-clause-runs
returns-in-Err-NoMemory-clause-runs g c =
    let turn = rw c.in-Err-NoMemory.field-0-is at c.in-Err-NoMemory.ensures in
    λ _. (
      turn.1,
      record {
        count = c.loop-done.done + 1;
        within = omega arith;
        ran = (RanTold-more _ _ _ _ _ _ _ _ c.loop-done.invariant.ran turn.0).ran;
      },
    )

pub returns-in-Err-NoMemory-clause-told : goal.returns-in-Err-NoMemory-clause-told
returns-in-Err-NoMemory-clause-told g c =
    let turn = rw c.in-Err-NoMemory.field-0-is at c.in-Err-NoMemory.ensures in
    λ _. TurnsObserved-refused _ _ _ (c.loop-done.done + 1) _ _ _ turn.1 (omega arith)
    (RanTold-more _ _ _ _ _ _ _ _ c.loop-done.invariant.ran turn.0)
