use Rattle.std.proofs.Common.{◌≡◌, ◌≤◌, take, length}
use Rattle.std.specs.List.{enumerate_from, flat_map}
use Rattle.router_core.specs.Output.{AreSpelled, asked_on}
use Rattle.router_core.proofs.start.requests.Given as goal

abbrev pub invariant-loop-iface : goal.invariant-loop-iface
invariant-loop-iface l = record {
  end : l.iface-end ≡ length l.config.interfaces;
  few : length l.sends.items ≤ l.iface;
  spelled : AreSpelled (flat_map (λ t. asked_on l.config t.0) (take l.iface (enumerate_from 0 l.config.interfaces))) l.sends.items;
}
