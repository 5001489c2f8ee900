use Rattle.ripngd_udp.specs.Counting.{Grows}
use Rattle.ripngd_udp.proofs.endpoint.Endpoint.take_all.Given as goal

abbrev pub invariant-loop-number : goal.invariant-loop-number
invariant-loop-number l = Grows l.initial.counts l.counts
