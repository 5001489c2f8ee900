use Rattle.std.proofs.Common.{◌≡◌, ◌≤◌, vec_len}
use Rattle.ripngd_udp.proofs.udp.Udp.send_waiting.Given as goal

-- some more have failed, and nothing else is different
abbrev pub invariant-loop-iface : goal.invariant-loop-iface
invariant-loop-iface g l = (vec_len l.self-inside.endpoints ≡ vec_len l.initial.self-inside.endpoints)
    × (l.initial.self-inside.counts.failed_sends ≤ l.self-inside.counts.failed_sends)
    × (l.self-inside ≡ record l.initial.self-inside {
      endpoints = l.self-inside.endpoints;
      counts = record l.initial.self-inside.counts { failed_sends = l.self-inside.counts.failed_sends };
    })
