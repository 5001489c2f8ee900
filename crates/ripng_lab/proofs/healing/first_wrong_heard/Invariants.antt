use Rattle.std.proofs.Common.{◌≡◌, drop}
use Rattle.ripng_lab.specs.Healing.{has_wrong_heard}
use Rattle.ripng_lab.proofs.healing.first_wrong_heard.Given as goal

abbrev pub invariant-loop-neighbor : goal.invariant-loop-neighbor
invariant-loop-neighbor l =
    has_wrong_heard l.lab l.router l.neighbors (drop l.neighbor-index l.neighbors) ≡ has_wrong_heard l.lab l.router l.neighbors l.neighbors
