use Rattle.std.proofs.Common.{◌≡◌, ◌≤◌, take, count_by}
use Rattle.std.specs.FinMap.{entries, len}
use Rattle.route_table.proofs.WalksWhere.{WalksWhere}
use Rattle.router_core.specs.Output.{is_learned_on}
use Rattle.router_core.proofs.quota.held_by.Given as goal

-- the routes by way of the interface that the walk has come past are counted
abbrev pub invariant-loop : goal.invariant-loop
invariant-loop g l = let t = g.S.RouteStore.table l.store in record {
  walks : WalksWhere (λ i. l.held ≡ count_by (λ e. is_learned_on l.iface e.1.origin) (take i (entries t))) t l.after l.counter;
  end : l.end ≡ len t;
  few : l.held ≤ l.counter;
}
