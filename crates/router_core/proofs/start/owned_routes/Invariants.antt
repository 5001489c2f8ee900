use Rattle.router_core.proofs.Owning.{OwnsFirst}
use Rattle.router_core.proofs.start.owned_routes.Given as goal

abbrev pub invariant-loop-prefix : goal.invariant-loop-prefix
invariant-loop-prefix g l = OwnsFirst l.config l.prefix-index (g.S.RouteStore.table l.store)
