use Rattle.std.proofs.Common.{◌≡◌, Some}
use Rattle.std.specs.FinMap.{len}
use Rattle.route_table.proofs.WalksWhere.{WalksSettling}
use Rattle.router_core.specs.LinkDown.{after_link_down}
use Rattle.router_core.proofs.link_down.lose_all_on.Given as goal

-- the routes that the walk has come past are after_link_down
abbrev pub invariant-loop : goal.invariant-loop
invariant-loop g l = let t = g.S.RouteStore.table l.fn.store in record {
  walks : WalksSettling (λ r. Some (after_link_down l.iface l.now r)) t (g.S.RouteStore.table l.store) l.after l.counter;
  end : l.end ≡ len t;
}
