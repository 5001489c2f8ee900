use Rattle.std.proofs.Common.{◌≡◌}
use Rattle.ripngd_udp.proofs.udp.Udp.poll.Given as goal

abbrev pub invariant-loop-index : goal.invariant-loop-index
invariant-loop-index g l = l.self ≡ l.fn.self
