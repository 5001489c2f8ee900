use Rattle.std.proofs.Common.{ℕ, Option, Some, ap, arith}
use Rattle.std.specs.Option.{is_some}
use Rattle.route_table.specs.Route.{RouteValue}
use Rattle.route_table.proofs.WalksWhere.{Settling-get, Settling-next, Settling-none, Settling-end}
use Rattle.router_core.specs.LinkDown.{after_link_down}
use Rattle.router_core.proofs.AllRoutes.{any_route, none_left}
use Rattle.router_core.proofs.link_down.lose_all_on.Goals as goal

abbrev link_down : ℕ → ℕ → RouteValue → Option RouteValue
link_down iface now r = Some (after_link_down iface now r)

pub replace-requires : goal.replace-requires
replace-requires g c =
    let there = Settling-get any_route (link_down c.args.iface c.args.now) (none_left (link_down c.args.iface c.args.now)) (g.S.RouteStore.table c.args.store.now) (g.S.RouteStore.table c.loop.store) c.loop.invariant.walks c.walk.ensures c.in-Some.is in
    record { present = ap is_some there }

pub loop-preserved : goal.loop-preserved
loop-preserved g c =
    let next = Settling-next any_route (link_down c.args.iface c.args.now) (none_left (link_down c.args.iface c.args.now)) (g.S.RouteStore.table c.args.store.now) (g.S.RouteStore.table c.loop.store) c.loop.invariant.walks c.walk.ensures c.in-Some.is in
    record {
      walks = rw (c.replace.ensures, c.lose_on.ensures) next;
      end = c.loop.invariant.end;
    }

pub returns-in_default : goal.returns-in_default
returns-in_default g c = Settling-none any_route (link_down c.args.iface c.args.now) (none_left (link_down c.args.iface c.args.now)) (g.S.RouteStore.table c.args.store.now) (g.S.RouteStore.table c.loop.store) c.loop.invariant.walks c.walk.ensures c.in_default.is

pub returns : goal.returns
returns g c = Settling-end any_route (link_down c.args.iface c.args.now) (none_left (link_down c.args.iface c.args.now)) (g.S.RouteStore.table c.args.store.now) (g.S.RouteStore.table c.loop.store) c.loop.invariant.walks (omega (arith, c.loop.invariant.end, c.loop-test.false))
