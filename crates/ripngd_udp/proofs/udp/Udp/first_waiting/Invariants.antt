use Rattle.std.proofs.Common.{◌≡◌, vec_len}
use Rattle.ripngd_udp.proofs.udp.Udp.first_waiting.Given as goal

abbrev pub invariant-loop-iface : goal.invariant-loop-iface
invariant-loop-iface g l = l.iface-end ≡ vec_len l.self-inside.endpoints
