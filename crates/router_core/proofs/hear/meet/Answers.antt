use Rattle.std.proofs.Common.{rules, ◌≡◌, ℕ, None, Some, Option, option_map, option_and_then, false, if◌then◌else◌, refl, sym, ap, ◌∙◌}
use Rattle.std.specs.FinMap as map_of
use Rattle.fib.specs.Forwarding.{Forward, same_forward, change_to}
use Rattle.fib.specs.declared.change.Hop.{Hop}
use Rattle.fib.specs.declared.change.RouteChange.{RouteChange}
use Rattle.prefix6.specs.Prefix.{Prefix6}
use Rattle.route_table.specs.Route.{RouteValue}
use Rattle.route_table.proofs.TableSteps.{get-with_value_here}
use Rattle.router_core.specs.Adoption.{adopted, adopted_by_clock}
use Rattle.router_core.specs.Changes.{forward, change}
use Rattle.router_core.proofs.hear.meet.Goals as goal

-- a hop and a metric as a forwarding entry
abbrev entry_of : Hop × ℕ → Forward
entry_of f = record { hop = f.0; metric = f.1 }

-- an entry that is taken apart and put together is the same
whole : (f : Option Forward) → option_map entry_of (option_map (λ (f : Forward). (f.hop, f.metric)) f) ≡ f
whole None = refl
whole (Some f) = refl

-- the change to another entry
moved : (p : Prefix6) (before after : RouteValue) → same_forward (forward before) (forward after) ≡ false → Some (change_to p (forward after)) ≡ change p (Some before) (Some after)
moved p before after differs = ap (λ b. if b then None else Some (change_to p (forward after))) (sym differs)

pub returns-in-Some-false-clause-change : goal.returns-in-Some-false-clause-change
returns-in-Some-false-clause-change g c =
    let p : Prefix6 = c.args.prefix in
    let u = c.in-Some-false.ensures in
    let table = g.S.RouteStore.table c.args.store.now in
    let r : RouteValue = u.before in
    let is_new : u.after ≡ adopted_by_clock c.args.gateway.now c.args.offer.now r r.clock = search rules in
    let differs : same_forward (forward r) (forward u.after) ≡ false = search rules in
    let is_after : c.get.result ≡ Some u.after = c.get.ensures ∙ ap (λ t. map_of.get t p) u.placed ∙ get-with_value_here table p (Some u.after) in
    let entry = c.forward.ensures ∙ ap (λ o. option_map (λ (f : Forward). (f.hop, f.metric)) (option_and_then forward o)) is_after in
    let to : c.change_to.result ≡ change_to p (forward u.after) = c.change_to.ensures ∙ ap (λ o. change_to p (option_map entry_of o)) entry ∙ ap (change_to p) (whole (forward u.after)) in
    ap Some to ∙ moved p r u.after differs
    ∙ ap (λ o. change p o (Some u.after)) (sym u.held)
    ∙ ap (λ o. change p (map_of.get table p) o) (ap Some is_new ∙ ap (λ o. adopted c.args.gateway.now o c.args.offer.now) (sym u.held))
