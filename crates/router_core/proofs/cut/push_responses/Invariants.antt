use Rattle.std.proofs.Common.{◌≤◌, ◌+◌, length}
use Rattle.router_core.specs.Output.{responses_at}
use Rattle.router_core.proofs.Sending.{SpelledTo}
use Rattle.router_core.proofs.cut.push_responses.Given as goal

abbrev pub invariant-loop-rest : goal.invariant-loop-rest
invariant-loop-rest l = record {
  so_far : SpelledTo (responses_at l.mtu l.iface l.to l.entries) (responses_at l.mtu l.iface l.to l.rest) l.fn.sends.items l.sends.items;
  few : length l.sends.items + length l.rest ≤ length l.fn.sends.items + length l.entries;
}

abbrev pub decreases-loop-rest : goal.decreases-loop-rest
decreases-loop-rest l = length l.rest
