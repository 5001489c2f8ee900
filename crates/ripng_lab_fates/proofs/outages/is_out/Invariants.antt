use Rattle.std.proofs.Common.{◌≡◌, drop}
use Rattle.std.specs.Prelude.{fold}
use Rattle.ripng_lab_fates.specs.Outages.{is_out, out_after}
use Rattle.ripng_lab_fates.proofs.outages.is_out.Given as goal

abbrev pub invariant-loop-change : goal.invariant-loop-change
invariant-loop-change l = fold (out_after l.thing) l.out (drop l.change-index l.changes) ≡ is_out l.changes l.thing
