use Rattle.ripngd_udp.specs.Counting.{Grows}
use Rattle.ripngd_udp.proofs.endpoint.Endpoint.take_some.Given as goal

abbrev pub invariant-loop : goal.invariant-loop
invariant-loop l = Grows l.initial.counts l.counts
