use Rattle.std.proofs.Common.{arith}
use Rattle.route_table.specs.Due.{is_due}
use Rattle.route_table.proofs.WalksWhere.{Settling-get, Settling-next, Settling-none, Settling-end}
use Rattle.router_core.specs.Ageing.{aged}
use Rattle.router_core.proofs.DueRoutes.{aged-kept}
use Rattle.router_core.proofs.ticking.age_all.Goals as goal

pub put-requires : goal.put-requires
put-requires g c = Settling-get (is_due c.args.now) (aged c.args.now) (aged-kept c.args.now) (g.S.RouteStore.table c.args.store.now) (g.S.RouteStore.table c.loop.store) c.loop.invariant.walks c.walk_due.ensures c.in-Some.is

pub loop-preserved : goal.loop-preserved
loop-preserved g c =
    let next = Settling-next (is_due c.args.now) (aged c.args.now) (aged-kept c.args.now) (g.S.RouteStore.table c.args.store.now) (g.S.RouteStore.table c.loop.store) c.loop.invariant.walks c.walk_due.ensures c.in-Some.is in
    record {
      walks = rw (c.put.ensures, c.age.ensures) next;
      end = c.loop.invariant.end;
    }

pub returns-in_default : goal.returns-in_default
returns-in_default g c = Settling-none (is_due c.args.now) (aged c.args.now) (aged-kept c.args.now) (g.S.RouteStore.table c.args.store.now) (g.S.RouteStore.table c.loop.store) c.loop.invariant.walks c.walk_due.ensures c.in_default.is

pub returns : goal.returns
returns g c = Settling-end (is_due c.args.now) (aged c.args.now) (aged-kept c.args.now) (g.S.RouteStore.table c.args.store.now) (g.S.RouteStore.table c.loop.store) c.loop.invariant.walks (omega (arith, c.loop.invariant.end, c.loop-test.false))
