use Rattle.std.proofs.Common.{◌≡◌, ◌≤◌, Bool, true, false, nat_lt, Option, Some, None, option_map, option_and_then, ap, sym, ◌∙◌, arith}
use Rattle.std.specs.Prelude.{if◌then◌else◌}
use Rattle.std.specs.FinMap as map_of
use Rattle.std.proofs.lemmas.Bool.Decides.{nat_tests}
use Rattle.prefix6.specs.Prefix.{Prefix6, cleared}
use Rattle.fib.specs.Forwarding.{Forward}
use Rattle.route_table.specs.Route.{RouteValue, infinity}
use Rattle.route_table.specs.Table.{Table}
use Rattle.route_table.specs.declared.route.Origin.{Origin}
use Rattle.route_table.proofs.TableLaws.{get-map_values}
use Rattle.router_core.specs.Changes.{forward, forwards, hop_of}
use Rattle.ripng_world.proofs.path.hop_at.Goals as goal

-- the hop of a prefix, by its route
hop_by : (table : Table) (p : Prefix6) (o : Option RouteValue) → o ≡ map_of.get table p → option_map (λ (f : Forward). f.hop) (map_of.get (forwards table) p) ≡ option_map (λ (f : Forward). f.hop) (option_and_then forward o)
hop_by table p o at = ap (option_map (λ (f : Forward). f.hop)) (get-map_values forward table p ∙ ap (option_and_then forward) (sym at))

usable : (r : RouteValue) → (infinity ≤ r.metric → ⊥) → option_map (λ (f : Forward). f.hop) (forward r) ≡ Some (hop_of r.origin)
usable r low =
    let test : nat_lt r.metric infinity ≡ true = grind (arith, nat_tests, low) in
    ap (λ (b : Bool). option_map (λ (f : Forward). f.hop) (if b then Some (record { hop = hop_of r.origin; metric = r.metric }) else None)) test

unusable : (r : RouteValue) → infinity ≤ r.metric → option_map (λ (f : Forward). f.hop) (forward r) ≡ None
unusable r high =
    let test : nat_lt r.metric infinity ≡ false = grind (arith, nat_tests, high) in
    ap (λ (b : Bool). option_map (λ (f : Forward). f.hop) (if b then Some (record { hop = hop_of r.origin; metric = r.metric }) else None)) test

pub returns-in_err-route-clause-value : goal.returns-in_err-route-clause-value
returns-in_err-route-clause-value g c =
    let table = g.S.RouteStore.table c.args.routes.now in
    c.from_residual.ensures ∙ sym (hop_by table (cleared c.args.addr c.args.len) None (c.in_err-route.ensures ∙ ap (map_of.get table) c.in-Ok.ensures.cleared))

pub returns-then-metric-ge-INFINITY-clause-value : goal.returns-then-metric-ge-INFINITY-clause-value
returns-then-metric-ge-INFINITY-clause-value g c =
    let table = g.S.RouteStore.table c.args.routes.now in
    let r = c.in_ok-route.route in
    sym (hop_by table (cleared c.args.addr c.args.len) (Some r) (c.in_ok-route.ensures ∙ ap (map_of.get table) c.in-Ok.ensures.cleared)
    ∙ unusable r (omega (arith, c.if-metric-ge-INFINITY.true, c.metric.ensures.value)))

pub returns-in-Own-clause-value : goal.returns-in-Own-clause-value
returns-in-Own-clause-value g c =
    let table = g.S.RouteStore.table c.args.routes.now in
    let r = c.in_ok-route.route in
    sym (hop_by table (cleared c.args.addr c.args.len) (Some r) (c.in_ok-route.ensures ∙ ap (map_of.get table) c.in-Ok.ensures.cleared)
    ∙ usable r (λ high. omega (arith, high, c.if-metric-ge-INFINITY.false, c.metric.ensures.value))
    ∙ ap (λ (o : Origin). Some (hop_of o)) (sym c.in-Own.ensures.value))

pub returns-in-Learned-clause-value : goal.returns-in-Learned-clause-value
returns-in-Learned-clause-value g c =
    let table = g.S.RouteStore.table c.args.routes.now in
    let r = c.in_ok-route.route in
    sym (hop_by table (cleared c.args.addr c.args.len) (Some r) (c.in_ok-route.ensures ∙ ap (map_of.get table) c.in-Ok.ensures.cleared)
    ∙ usable r (λ high. omega (arith, high, c.if-metric-ge-INFINITY.false, c.metric.ensures.value))
    ∙ ap (λ (o : Origin). Some (hop_of o)) (sym c.in-Learned.ensures.value))
