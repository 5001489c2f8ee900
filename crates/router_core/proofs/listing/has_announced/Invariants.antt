use Rattle.std.proofs.Common.{◌≡◌, false, take}
use Rattle.std.specs.List.{list_any}
use Rattle.std.specs.FinMap.{entries, len}
use Rattle.route_table.proofs.WalksWhere.{WalksWhere}
use Rattle.router_core.proofs.Announced.{is_told_on}
use Rattle.router_core.proofs.listing.has_announced.Given as goal

-- no route that the walk has come past is told on the interface
abbrev pub invariant-loop : goal.invariant-loop
invariant-loop g l = let t = g.S.RouteStore.table l.store in record {
  walks : WalksWhere (λ i. list_any (is_told_on l.config l.iface l.now l.which) (take i (entries t)) ≡ false) t l.after l.counter;
  end : l.end ≡ len t;
}
