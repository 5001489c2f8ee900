use Rattle.std.proofs.Common.{◌≡◌, ◌++◌, drop, flat_map}
use Rattle.std.specs.List.{enumerate_from}
use Rattle.ripng_lab.specs.Healing.{neighbors_at, neighbors_of}
use Rattle.ripng_lab.proofs.healing.neighbors_of.Given as goal

abbrev pub invariant-loop-iface : goal.invariant-loop-iface
invariant-loop-iface l =
    l.neighbors.items ++ flat_map (λ i. neighbors_at l.outages l.lab l.router i.0 i.1.cost) (enumerate_from l.iface (drop l.iface l.interfaces))
    ≡ neighbors_of l.outages l.lab l.router
