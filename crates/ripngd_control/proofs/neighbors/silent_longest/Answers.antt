use Rattle.std.proofs.Common.{◌≡◌, ◌∙◌, Some, ap, arith, slice_get, sym}
use Rattle.std.proofs.lemmas.Option.{slice_get-get_or, slice_get_within}
use Rattle.ripngd_control.proofs.Silent.{silent_more, silent_next}
use Rattle.ripngd_control.proofs.neighbors.silent_longest.Goals.{then-is_before, else-is_before}
use Rattle.ripngd_control.proofs.neighbors.silent_longest.Goals as goal

pub loop-place-preserved : goal.loop-place-preserved
loop-place-preserved c =
    let next : slice_get c.args.rows.now c.loop-place.place ≡ Some c.index-rows-place.result =
    slice_get-get_or c.args.rows.now c.loop-place.place c.index-rows-place.result c.loop-place-test.true ∙ ap Some (sym c.index-rows-place.is) in
    elim c.if-is_before.branch [
      | then-is_before w ↦
          rw w.found-is (
            next,
            silent_next c.args.rows.now c.loop-place.place c.loop-place.found.1 c.index-rows-place.result c.loop-place.invariant.1 next
                (sym c.is_before.ensures ∙ w.if-is_before.true),
          )
      | else-is_before w ↦
          rw w.found-is (
            c.loop-place.invariant.0,
            silent_more c.args.rows.now c.loop-place.place c.loop-place.found.1 c.index-rows-place.result c.loop-place.invariant.1 next
                (sym c.is_before.ensures ∙ w.if-is_before.false),
          )
    ]

pub returns-clause-found : goal.returns-clause-found
returns-clause-found c = (
  c.loop-place.invariant.0,
  (λ i other at. c.loop-place.invariant.1 i other (omega (arith, slice_get_within c.args.rows.now i other at, c.loop-place-test.false)) at),
)
