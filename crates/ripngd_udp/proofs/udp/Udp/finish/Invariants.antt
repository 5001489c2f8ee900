use Rattle.ripngd_udp.specs.Udp.{SendsLate}
use Rattle.ripngd_udp.proofs.udp.Udp.finish.Given as goal

abbrev pub invariant-loop : goal.invariant-loop
invariant-loop g l = SendsLate l.fn.self l.self
