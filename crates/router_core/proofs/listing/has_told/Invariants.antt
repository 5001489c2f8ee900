use Rattle.std.proofs.Common.{◌≡◌, false, take, is_some}
use Rattle.std.specs.List.{list_any}
use Rattle.std.specs.FinMap.{entries, len}
use Rattle.route_table.proofs.WalksWhere.{WalksWhere}
use Rattle.router_core.specs.Settling.{told_route}
use Rattle.router_core.proofs.listing.has_told.Given as goal

-- no route that the walk has come past is told
abbrev pub invariant-loop : goal.invariant-loop
invariant-loop g l = let t = g.S.RouteStore.table l.store in record {
  walks : WalksWhere (λ i. list_any (λ e. is_some (told_route l.now l.which e.1)) (take i (entries t)) ≡ false) t l.after l.counter;
  end : l.end ≡ len t;
}
