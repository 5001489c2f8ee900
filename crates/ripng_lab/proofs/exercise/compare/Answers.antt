use Rattle.std.proofs.Common.{◌≡◌, Some, arith, length, refl, rules, sym, ap, ◌∙◌}
use Rattle.std.specs.List.{slice_get}
use Rattle.std.proofs.lemmas.Option.{slice_get-get_or, slice_get_read, slice_get_within}
use Rattle.ripng_lab.specs.Exercises.{Fills}
use Rattle.ripng_lab.proofs.Exercises.{agree_more, agree_to_first, agree_to_second}
use Rattle.ripng_lab.proofs.exercise.compare.Goals as goal

pub returns-in_default-clause-departs : goal.returns-in_default-clause-departs
returns-in_default-clause-departs c =
    let past = c.in_default.ensures.lookup.3 in
    let ends : c.loop-place.place ≡ length c.args.script.now = omega (arith, c.loop-place.invariant.0, past) in
    let there : slice_get c.args.exercise.now c.loop-place.place ≡ Some c.index-exercise-place.result =
    slice_get_read c.args.exercise.now _ c.loop-place.place c.index-exercise-place.result refl c.loop-place-test.true c.index-exercise-place.is in (
      c.index-exercise-place.result,
      agree_to_second Fills c.args.exercise.now c.args.script.now c.loop-place.place ends c.loop-place.invariant.1,
      ap (λ i. slice_get c.args.exercise.now i) (sym ends) ∙ there,
      refl,
    )

pub returns-then-not-fills-clause-departs : goal.returns-then-not-fills-clause-departs
returns-then-not-fills-clause-departs c = (
  c.loop-place.place,
  c.index-exercise-place.result,
  c.in-Some.answer.now,
  c.loop-place.invariant.1,
  slice_get_read c.args.exercise.now _ c.loop-place.place c.index-exercise-place.result refl c.loop-place-test.true c.index-exercise-place.is,
  slice_get-get_or c.args.script.now c.loop-place.place c.in-Some.answer.now c.in-Some.ensures.lookup.3.0 ∙ ap Some (sym c.in-Some.ensures.lookup.1),
  search rules,
  refl,
  refl,
)

pub loop-place-preserved : goal.loop-place-preserved
loop-place-preserved c =
    let there : slice_get c.args.script.now c.loop-place.place ≡ Some c.in-Some.answer.now =
    slice_get-get_or c.args.script.now c.loop-place.place c.in-Some.answer.now c.in-Some.ensures.lookup.3.0 ∙ ap Some (sym c.in-Some.ensures.lookup.1) in
    let here : Fills c.index-exercise-place.result c.in-Some.answer.now = search rules in
    let within = slice_get_within c.args.script.now c.loop-place.place c.in-Some.answer.now there in (
      omega (arith, within),
      agree_more Fills c.args.exercise.now c.args.script.now c.loop-place.place c.index-exercise-place.result c.in-Some.answer.now
          c.loop-place-test.true c.index-exercise-place.is there c.loop-place.invariant.1 here,
    )

pub returns-in-Some-get-clause-departs : goal.returns-in-Some-get-clause-departs
returns-in-Some-get-clause-departs c =
    let ends : c.loop-place.place ≡ length c.args.exercise.now = omega (arith, c.loop-place-test.false, c.loop-place.auto.place-end) in (
      c.in-Some-get.line.now,
      agree_to_first Fills c.args.exercise.now c.args.script.now c.loop-place.place ends c.loop-place.invariant.1,
      slice_get-get_or c.args.script.now (length c.args.exercise.now) c.in-Some-get.line.now c.in-Some-get.ensures.lookup.3.0 ∙ ap Some (sym c.in-Some-get.ensures.lookup.1),
      refl,
    )
