use Rattle.std.proofs.Common.{ℕ, ◌<◌, ◌≤◌, List, map, length, Err, ap, ◌∙◌, arith}
use Rattle.std.specs.FinMap as map_of
use Rattle.std.proofs.lemmas.List.{take_all}
use Rattle.prefix6.specs.Prefix.{Prefix6}
use Rattle.route_table.specs.Route.{RouteValue}
use Rattle.route_table.specs.Table.{table_limit}
use Rattle.router_core.specs.Owning.{owned_route}
use Rattle.router_core.proofs.ConfigLaws.{few_prefixes}
use Rattle.router_core.proofs.Owning.{OwnsFirst-none, OwnsFirst-absent, OwnsFirst-next}
use Rattle.router_core.proofs.Sending.{element_at}
use Rattle.router_core.proofs.start.owned_routes.Goals as goal

pub loop-prefix-init : goal.loop-prefix-init
loop-prefix-init g c = OwnsFirst-none c.args.config.now (g.S.RouteStore.table c.empty-store.result) c.empty-store.ensures

pub add-requires : goal.add-requires
add-requires g c =
    let lt : c.loop-prefix.prefix-index < length c.args.config.now.prefixes = omega (arith, ap length c.prefixes-prefix-items.ensures.value, c.loop-prefix-test.true) in
    record {
      absent = OwnsFirst-absent c.args.config.now c.prefixes-prefix-items.ensures.lawful c.loop-prefix.prefix-index (g.S.RouteStore.table c.loop-prefix.store)
          c.loop-prefix-item.result c.loop-prefix.invariant
          (element_at c.args.config.now.prefixes c.loop-prefix.prefix-index c.loop-prefix-item.result lt (rw c.prefixes-prefix-items.ensures.value at c.loop-prefix-item.is));
    }

pub unreachable-requires : goal.unreachable-requires
unreachable-requires g c =
    let few = few_prefixes c.args.config.now c.prefixes-prefix-items.ensures.lawful in
    let lt : c.loop-prefix.prefix-index < length c.args.config.now.prefixes = omega (arith, ap length c.prefixes-prefix-items.ensures.value, c.loop-prefix-test.true) in
    let full : table_limit ≤ map_of.len (g.S.RouteStore.table c.loop-prefix.store) = c.add.ensures.full.0 (c.in-Err-Full.is ∙ ap Err c.in-Err-Full.field-0-is) in
    omega (arith, few, lt, full, c.loop-prefix.invariant.size)

pub loop-prefix-preserved : goal.loop-prefix-preserved
loop-prefix-preserved g c =
    let lt : c.loop-prefix.prefix-index < length c.args.config.now.prefixes = omega (arith, ap length c.prefixes-prefix-items.ensures.value, c.loop-prefix-test.true) in
    OwnsFirst-next c.args.config.now c.prefixes-prefix-items.ensures.lawful c.loop-prefix.prefix-index (g.S.RouteStore.table c.loop-prefix.store)
    c.loop-prefix-item.result c.loop-prefix.invariant
    (element_at c.args.config.now.prefixes c.loop-prefix.prefix-index c.loop-prefix-item.result lt (rw c.prefixes-prefix-items.ensures.value at c.loop-prefix-item.is))
    (g.S.RouteStore.table c.add.new.self) (c.in-Ok.ensures.ok ∙ ap (λ (r : RouteValue). map_of.insert (g.S.RouteStore.table c.loop-prefix.store) c.loop-prefix-item.result.0 r) c.own.ensures)

pub returns : goal.returns
returns g c =
    let over : length c.args.config.now.prefixes ≤ c.loop-prefix.prefix-index = omega (arith, ap length c.prefixes-prefix-items.ensures.value, c.loop-prefix-test.false) in
    c.loop-prefix.invariant.table
    ∙ ap (λ (xs : List (Prefix6 × ℕ)). map_of.from_entries (map (λ t. (t.0, owned_route t.1)) xs)) (take_all c.loop-prefix.prefix-index c.args.config.now.prefixes over)
