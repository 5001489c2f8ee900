use Rattle.std.proofs.Common.{◌≡◌, ◌++◌, take, ◌-◌, ◌≤◌, length}
use Rattle.std.specs.FinMap.{entries}
use Rattle.route_table.specs.Table.{map_entries, past}
use Rattle.router_core.specs.Announcing.{announced_of}
use Rattle.router_core.specs.Settling.{told_route}
use Rattle.router_core.proofs.ToldRuns.{found}
use Rattle.router_core.proofs.listing.told_run.Given as goal

-- what is told, and what is still to be told past the last that was found, is what was asked for
abbrev pub invariant-loop-alloc : goal.invariant-loop-alloc
invariant-loop-alloc g l =
    let all = map_entries (told_route l.now l.which) (announced_of l.config l.iface (entries (g.S.RouteStore.table l.store))) in
    record {
      items : l.run.items ++ take (l.fn.part.most - length l.run.items) (past l.after all) ≡ take l.fn.part.most (past l.fn.part.after all);
      fits : length l.run.items ≤ l.fn.part.most;
    }

abbrev pub decreases-loop-alloc : goal.decreases-loop-alloc
decreases-loop-alloc g l = length (found l.config l.iface l.now l.which l.after (entries (g.S.RouteStore.table l.store)))
