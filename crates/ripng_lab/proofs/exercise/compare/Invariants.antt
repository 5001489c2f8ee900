use Rattle.std.proofs.Common.{◌≤◌, length, take}
use Rattle.std.specs.List.{AllZip}
use Rattle.ripng_lab.specs.Exercises.{Fills}
use Rattle.ripng_lab.proofs.exercise.compare.Given as goal

abbrev pub invariant-loop-place : goal.invariant-loop-place
invariant-loop-place l = (l.place ≤ length l.script) × AllZip Fills (take l.place l.exercise) (take l.place l.script)
