use Rattle.std.proofs.Common.{◌≡◌, drop, fold, min}
use Rattle.ripng_lab.specs.Healing.{heard_of, least_heard}
use Rattle.ripng_lab.proofs.healing.least_heard.Given as goal

abbrev pub invariant-loop-neighbor : goal.invariant-loop-neighbor
invariant-loop-neighbor l =
    fold (λ least neighbor. min least (heard_of l.lab l.prefix neighbor)) l.least (drop l.neighbor-index l.neighbors) ≡ least_heard l.lab l.prefix l.neighbors
