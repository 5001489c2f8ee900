use Rattle.std.proofs.Common.{◌∙◌, ap, drop, drop-drop}
use Rattle.ripngd_udp.proofs.send_queue.SendQueue.send_some.Goals as goal

pub loop-preserved : goal.loop-preserved
loop-preserved c =
    let i = c.loop.invariant in
    (c.pop.ensures.rest ∙ ap (drop 1) i.0 ∙ drop-drop 1 c.loop.counter c.args.self.now.waiting.items, c.pop.ensures.pace ∙ i.1)
