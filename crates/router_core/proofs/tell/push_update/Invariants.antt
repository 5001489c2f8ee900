use Rattle.std.specs.FinMap.{entries}
use Rattle.route_table.specs.Table.{map_entries}
use Rattle.router_core.specs.Announcing.{announced_of}
use Rattle.router_core.specs.Config.{mtu_at}
use Rattle.router_core.specs.Settling.{told_route}
use Rattle.router_core.proofs.AllTold.{IsTold}
use Rattle.router_core.proofs.tell.push_update.Given as goal

abbrev pub invariant-loop-done : goal.invariant-loop-done
invariant-loop-done g l =
    IsTold (mtu_at l.config l.iface) l.iface (map_entries (told_route l.now l.which) (announced_of l.config l.iface (entries (g.S.RouteStore.table l.store)))) l.after l._done l.fn.sends.items l.sends.items
