use Rattle.std.proofs.Common.{◌≡◌, ◌≢◌, rules, tests}
use Rattle.std.proofs.lemmas.Iterator.{cases_from_any, YieldsList-from_slice}
use Rattle.ripng_lab.specs.declared.exercise.Role.TheVariants.{Event}
use Rattle.ripng_lab.proofs.Exercises.{when_true}
use Rattle.ripng_lab.proofs.exercise.acts.Goals as goal

pub returns-clause-found : goal.returns-clause-found
returns-clause-found c =
    when_true _ c.any.result (cases_from_any _ _ _ (λ l. l.role ≡ Event) (λ l. l.role ≢ Event) c.any.ensures.ran (YieldsList-from_slice c.args.lines.now cc) (λ x q k. search (rules, tests)) (λ x q k. search (rules, tests)))
