use Rattle.std.proofs.Common.{◌≡◌, vec_len}
use Rattle.ripngd_udp.specs.Counting.{Grows}
use Rattle.ripngd_udp.proofs.udp.Udp.take_all.Given as goal

abbrev pub invariant-loop-iface : goal.invariant-loop-iface
invariant-loop-iface g l = (vec_len l.self-inside.endpoints ≡ vec_len l.initial.self-inside.endpoints)
    × Grows l.initial.self-inside.counts l.self-inside.counts
    × (l.self-inside ≡ record l.initial.self-inside { endpoints = l.self-inside.endpoints; counts = l.self-inside.counts })
