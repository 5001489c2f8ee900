use Rattle.ripngd_udp.specs.Udp.{GoesOn}
use Rattle.ripngd_udp.proofs.udp.Udp.receive.Given as goal

abbrev pub invariant-loop : goal.invariant-loop
invariant-loop g l = GoesOn l.fn.self l.self
