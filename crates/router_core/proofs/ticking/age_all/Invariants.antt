use Rattle.std.proofs.Common.{◌≡◌}
use Rattle.std.specs.FinMap.{len}
use Rattle.route_table.proofs.WalksWhere.{WalksSettling}
use Rattle.router_core.specs.Ageing.{aged}
use Rattle.router_core.proofs.ticking.age_all.Given as goal

-- the routes that the walk has come past have aged
abbrev pub invariant-loop : goal.invariant-loop
invariant-loop g l = let t = g.S.RouteStore.table l.fn.store in record {
  walks : WalksSettling (aged l.now) t (g.S.RouteStore.table l.store) l.after l.counter;
  end : l.end ≡ len t;
}
