use Rattle.std.proofs.Common.{take}
use Rattle.std.specs.List.{AllZip}
use Rattle.ripng_lab.specs.Exercises.{StandsFor}
use Rattle.ripng_lab.proofs.exercise.fills.Given as goal

abbrev pub invariant-loop-place : goal.invariant-loop-place
invariant-loop-place l = AllZip (λ w v. StandsFor w.now v.now) (take l.place l.asked.words.items) (take l.place l.line.words.items)
