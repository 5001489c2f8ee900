use Rattle.std.proofs.Common.{◌≡◌, drop}
use Rattle.ripng_lab_fates.specs.Ways.{has_change}
use Rattle.ripng_lab_fates.proofs.ways.has_change.Given as goal

abbrev pub invariant-loop-change : goal.invariant-loop-change
invariant-loop-change l = has_change l.addr (drop l.change-index l.changes) ≡ has_change l.addr l.changes
