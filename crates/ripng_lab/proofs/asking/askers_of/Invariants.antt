use Rattle.std.proofs.Common.{◌≡◌, All, None}
use Rattle.ripng_lab.proofs.asking.askers_of.Given as goal

abbrev pub invariant-loop-number : goal.invariant-loop-number
invariant-loop-number l = All (λ asker. asker.pace.loss ≡ None) l.askers.items
