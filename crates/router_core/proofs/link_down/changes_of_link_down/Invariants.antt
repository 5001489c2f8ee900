use Rattle.std.proofs.Common.{◌≡◌, take, Some, filter_map}
use Rattle.std.specs.FinMap.{entries, len}
use Rattle.route_table.proofs.WalksWhere.{WalksWhere}
use Rattle.router_core.specs.LinkDown.{after_link_down}
use Rattle.router_core.specs.Changes.{change}
use Rattle.router_core.proofs.link_down.changes_of_link_down.Given as goal

-- the changes of the routes that the walk has come past are listed
abbrev pub invariant-loop : goal.invariant-loop
invariant-loop g l = let t = g.S.RouteStore.table l.store in record {
  walks : WalksWhere (λ i. l.changes.items ≡ filter_map (λ e. change e.0 (Some e.1) (Some (after_link_down l.iface l.now e.1))) (take i (entries t))) t l.after l.counter;
  end : l.end ≡ len t;
}
