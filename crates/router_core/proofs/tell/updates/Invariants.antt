use Rattle.std.proofs.Common.{◌≡◌, ◌≤◌, ◌*◌, take, length}
use Rattle.std.specs.List.{enumerate_from, flat_map}
use Rattle.std.specs.FinMap.{len}
use Rattle.router_core.specs.Output.{AreSpelled, selected, update_on}
use Rattle.router_core.specs.Settling.{settled_table}
use Rattle.router_core.proofs.tell.updates.Given as goal

abbrev pub invariant-loop-iface : goal.invariant-loop-iface
invariant-loop-iface g l =
    let stored = g.S.RouteStore.table l.store in
    let t = settled_table l.now l.which stored in
    record {
      end : l.iface-end ≡ length l.config.interfaces;
      spelled : AreSpelled (flat_map (λ u. update_on l.config (selected l.which) t u.0) (take l.iface (enumerate_from 0 l.config.interfaces))) l.sends.items;
      few : length l.sends.items ≤ len stored * l.iface;
    }
