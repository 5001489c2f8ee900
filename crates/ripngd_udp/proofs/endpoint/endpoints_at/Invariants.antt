use Rattle.std.proofs.Common.{◌≡◌, map, take, vec_len}
use Rattle.ripngd_engine.specs.Link.{no_queue}
use Rattle.ripngd_udp.specs.Queues.{queues_of}
use Rattle.ripngd_udp.proofs.endpoint.endpoints_at.Given as goal

-- an endpoint for each place so far, where nothing waits
abbrev pub invariant-loop-place : goal.invariant-loop-place
invariant-loop-place g l = (vec_len l.endpoints ≡ l.place-index)
    × (queues_of l.endpoints.items ≡ map (λ p. no_queue) (take l.place-index l.places))
