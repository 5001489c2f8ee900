use Rattle.std.proofs.Common.{◌≡◌, ◌-◌, map, take, drop, filter, flat_map}
use Rattle.std.specs.List.{enumerate_from}
use Rattle.ripng_world.specs.AskedRounds.{is_other, pair_at, interfaces_of}
use Rattle.ripng_world.proofs.running.Running.pairs_since.Given as goal

abbrev pub invariant-loop-number : goal.invariant-loop-number
invariant-loop-number g l = l.pairs.items ≡ flat_map (λ d. map (pair_at d.0) (filter (is_other l.self.network d.1) (interfaces_of l.self.network))) (enumerate_from l.first (take (l.number-counter - l.first) (drop l.first l.self.world.sent)))
