-- What a script expects of a table, and of packets on a path.
use Rattle.std.specs.Prelude.{◌≡◌, ◌≢◌, ◌<◌, ℕ, true, List, Option, None, Some, option_map, slice_get}
use Rattle.ripng_lab.specs.Below.{Prefix6, State, Expected, Stop, Refused, Failed, RefusedEvent, NoSuchRouter, Unmet, Metric, Settled, Counter, PathEnd, Delivered, Loops, Fate, FateArrives, FateLoops, Lost, Obstacle}
use Rattle.std.specs.FinMap as map_of

-- the metric of a router's route to a prefix, if it has one
abbrev pub metric_in : State → Prefix6 → Option ℕ
metric_in s p = option_map (λ r. r.metric) (map_of.get s.table p)

-- the same at a router of a network, if there is such a router
abbrev pub metric_at : List State → ℕ → Prefix6 → Option (Option ℕ)
metric_at states router p = option_map (λ s. metric_in s p) (slice_get states router)

-- why an expectation is not met: there is no such router, or this is found, and it is not what is expected
abbrev pub HasMissed : List State → Expected → Stop → Type 0
HasMissed states e (Refused (RefusedEvent NoSuchRouter)) = slice_get states e.router ≡ None
HasMissed states e (Unmet (Metric expected found)) = (expected ≡ e) × (metric_at states e.router e.prefix ≡ Some found) × (found ≢ e.metric)
HasMissed states e _ = ⊥

-- why it is not met that no forwarding table has changed after a moment: this one has; or memory ran out for the counter
abbrev pub HasMoved : Counter → ℕ → Stop → Type 0
HasMoved counter by (Unmet (Settled moment change)) = (moment ≡ by) × (counter.counts.last ≡ Some change) × (by < change.at)
HasMoved counter by (Failed error) = counter.refused ≡ true
HasMoved counter by _ = ⊥

-- they are lost where something is in their way, or else as the path ends
abbrev pub fate_of : PathEnd → Option Obstacle → Fate
fate_of Delivered None = FateArrives
fate_of (Loops from) None = FateLoops
fate_of end obstacle = Lost
