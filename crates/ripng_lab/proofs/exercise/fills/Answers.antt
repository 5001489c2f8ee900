use Rattle.std.proofs.Common.{◌<◌, length, refl, rules}
use Rattle.std.proofs.lemmas.Option.{slice_get_read}
use Rattle.ripng_lab.specs.Exercises.{StandsFor}
use Rattle.ripng_lab.proofs.Exercises.{agree_more}
use Rattle.ripng_lab.proofs.exercise.fills.Goals as goal

pub loop-place-preserved : goal.loop-place-preserved
loop-place-preserved c =
    let first : c.loop-place.place < length c.args.asked.now.words.items = search rules in
    let second : c.loop-place.place < length c.args.line.now.words.items = search rules in
    let here : StandsFor c.index.result.now.now c.index-in-loop-place.result.now.now = search rules in
    agree_more (λ w v. StandsFor w.now v.now) c.args.asked.now.words.items c.args.line.now.words.items c.loop-place.place c.index.result.now c.index-in-loop-place.result.now
    first c.index.ensures
    (slice_get_read c.args.line.now.words.items _ c.loop-place.place c.index-in-loop-place.result.now refl second c.index-in-loop-place.ensures)
    c.loop-place.invariant here
