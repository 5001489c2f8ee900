use Rattle.std.proofs.Common.{◌≡◌, ap, vec_len}
use Rattle.std.proofs.Math.Seq.{map-set_same}
use Rattle.ripngd_udp.specs.SendQueue.{queue_of}
use Rattle.ripngd_udp.specs.declared.endpoint.Endpoint.{Endpoint}
use Rattle.ripngd_udp.proofs.udp.Udp.note_ready.Goals as goal

-- what waits to be sent there is as before
pub returns-then-number-len : goal.returns-then-number-len
returns-then-number-len g c =
    let inside = c.self.inside in
    let f = λ (e : Endpoint). queue_of e.send_queue.waiting.items in
    let kept = map-set_same f inside.endpoints.items c.args.number _ _ (ap f c.index_mut.ensures.value) in
    rw (← c.self.view_is) (λ i. record {
      interfaces = vec_len inside.peer_tables;
      on_links = inside.peer_tables.items;
      failed_sends = inside.counts.failed_sends;
      lost_arrivals = inside.counts.lost_arrivals;
      strangers = inside.counts.strangers;
      queues = kept i;
      calls = inside.transcript.past.calls;
    })
