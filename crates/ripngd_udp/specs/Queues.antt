-- What waits to be sent on the interfaces of a link.
use Rattle.std.specs.Prelude.{List, map}
use Rattle.ripngd_engine.specs.declared.link.Queue.{Queue}
use Rattle.ripngd_udp.specs.SendQueue.{queue_of}
use Rattle.ripngd_udp.specs.declared.endpoint.Endpoint.{Endpoint}

-- on each, in their order
abbrev pub queues_of : List Endpoint → List Queue
queues_of endpoints = map (λ e. queue_of e.send_queue.waiting.items) endpoints
