use Rattle.std.proofs.Common.{◌≡◌, ◌∙◌, Err, List, ap, not, rules, subst}
use Rattle.std.specs.List.{AllZip}
use Rattle.std.proofs.lemmas.Result.{err_from_is_err_and}
use Rattle.ripng_lab.specs.Exercises.{Departs, Fills, HasRole, LeavesEvents, counted}
use Rattle.ripng_lab.specs.declared.exercise.Role.TheVariants.{Event, Start}
use Rattle.ripng_lab.specs.declared.exercise.Statement.{Statement}
use Rattle.ripng_lab.proofs.Exercises.{departs_unlike, leaves_by}
use Rattle.ripng_lab.proofs.exercise.against.Goals as goal

pub returns-in_err-compare-clause-refused : goal.returns-in_err-compare-clause-refused
returns-in_err-compare-clause-refused c =
    let leaves : LeavesEvents c.args.exercise.items (not c.acts-leaves_events.result) = subst (λ (ls : List Statement). LeavesEvents ls (not c.acts-leaves_events.result)) c.deref.ensures.value
    (leaves_by c.deref.result.now c.acts-leaves_events.result c.acts-leaves_events.ensures.found c.acts-leaves_events.ensures.absent) in
    let first : c.deref-4.result.now ≡ counted (not c.acts-leaves_events.result) c.args.exercise.items = c.deref-4.ensures.value ∙ c.keep_counted.ensures in
    let second : c.deref-5.result.now ≡ counted (not c.acts-leaves_events.result) c.args.script.items = c.deref-5.ensures.value ∙ c.keep_counted-2.ensures in
    let e = err_from_is_err_and c.from_residual.result c.from_residual.ensures.1 in
    let departs : Departs (counted (not c.acts-leaves_events.result) c.args.exercise.items) (counted (not c.acts-leaves_events.result) c.args.script.items) c.in_err-compare.field-0.0 =
    subst (λ (ls : List Statement). Departs (counted (not c.acts-leaves_events.result) c.args.exercise.items) ls c.in_err-compare.field-0.0) second
    (subst (λ (ls : List Statement). Departs ls c.deref-5.result.now c.in_err-compare.field-0.0) first c.in_err-compare.ensures.departs) in
    rw (e.1 ∙ ap (λ x. Err x) e.2) (departs_unlike c.args.exercise.items c.args.script.items (not c.acts-leaves_events.result) c.in_err-compare.field-0.0 leaves departs)

pub returns-clause-solved : goal.returns-clause-solved
returns-clause-solved c =
    let leaves : LeavesEvents c.args.exercise.items (not c.acts-leaves_events.result) = subst (λ (ls : List Statement). LeavesEvents ls (not c.acts-leaves_events.result)) c.deref.ensures.value
    (leaves_by c.deref.result.now c.acts-leaves_events.result c.acts-leaves_events.ensures.found c.acts-leaves_events.ensures.absent) in
    let first : c.deref-4.result.now ≡ counted (not c.acts-leaves_events.result) c.args.exercise.items = c.deref-4.ensures.value ∙ c.keep_counted.ensures in
    let second : c.deref-5.result.now ≡ counted (not c.acts-leaves_events.result) c.args.script.items = c.deref-5.ensures.value ∙ c.keep_counted-2.ensures in
    let start : HasRole c.deref-2.result.now Start = c.starts-starts.ensures.found (search rules) in
    let event : HasRole c.deref-3.result.now Event = c.acts-acts.ensures.found (search rules) in (
      not c.acts-leaves_events.result,
      leaves,
      subst (λ (ls : List Statement). AllZip Fills (counted (not c.acts-leaves_events.result) c.args.exercise.items) ls) second
          (subst (λ (ls : List Statement). AllZip Fills ls c.deref-5.result.now) first c.in_ok-compare.ensures.agree),
      subst (λ (ls : List Statement). HasRole ls Start) c.deref-2.ensures.value start,
      subst (λ (ls : List Statement). HasRole ls Event) c.deref-3.ensures.value event,
    )
