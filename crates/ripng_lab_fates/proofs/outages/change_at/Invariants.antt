use Rattle.std.proofs.Common.{◌≡◌, drop}
use Rattle.std.specs.Prelude.{fold}
use Rattle.ripng_lab_fates.specs.Outages.{change_at, found_after}
use Rattle.ripng_lab_fates.proofs.outages.change_at.Given as goal

abbrev pub invariant-loop-change : goal.invariant-loop-change
invariant-loop-change l = fold (found_after l.line) l.found (drop l.change-index l.changes) ≡ change_at l.changes l.line
