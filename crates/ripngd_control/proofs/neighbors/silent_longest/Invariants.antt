use Rattle.std.proofs.Common.{◌≡◌, Some, slice_get}
use Rattle.ripngd_control.proofs.Silent.{IsSilentSoFar}
use Rattle.ripngd_control.proofs.neighbors.silent_longest.Given as goal

-- of the rows so far none was silent for longer
abbrev pub invariant-loop-place : goal.invariant-loop-place
invariant-loop-place l = (slice_get l.rows l.found.0 ≡ Some l.found.1) × IsSilentSoFar l.rows l.place l.found.1
