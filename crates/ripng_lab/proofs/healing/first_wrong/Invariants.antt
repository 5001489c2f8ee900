use Rattle.std.proofs.Common.{◌≡◌, drop}
use Rattle.std.specs.List.{list_any}
use Rattle.ripng_lab.specs.Healing.{has_wrong, is_wrong}
use Rattle.ripng_lab.proofs.healing.first_wrong.Given as goal

abbrev pub invariant-loop-entry : goal.invariant-loop-entry
invariant-loop-entry l =
    list_any (λ e. is_wrong l.lab l.router l.neighbors l.of e.0) (drop l.entry-index l.entry-items) ≡ has_wrong l.lab l.router l.neighbors l.of
