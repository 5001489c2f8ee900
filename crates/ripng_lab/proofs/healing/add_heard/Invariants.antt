use Rattle.std.proofs.Common.{◌≡◌, ◌++◌, drop}
use Rattle.ripng_lab.specs.Healing.{heard_among}
use Rattle.ripng_lab.proofs.healing.add_heard.Given as goal

abbrev pub invariant-loop-at : goal.invariant-loop-at
invariant-loop-at l =
    l.neighbors.items ++ heard_among l.outages l.lab l.router l.cost (drop l.at-index l.places)
    ≡ l.fn.neighbors.items ++ heard_among l.outages l.lab l.router l.cost l.places
