use Rattle.std.proofs.Common.{◌≡◌, drop}
use Rattle.ripngd_udp.proofs.send_queue.SendQueue.send_some.Given as goal

-- as many as so far are no longer there
abbrev pub invariant-loop : goal.invariant-loop
invariant-loop l = (l.self.waiting.items ≡ drop l.counter l.initial.self.waiting.items) × (l.self.pace ≡ l.initial.self.pace)
