use Rattle.std.proofs.Common.{◌≡◌, ◌≤◌, max, length, ap, ◌∙◌, sym, arith}
use Rattle.std.specs.Prelude.{map}
use Rattle.std.specs.FinMap as map_of
use Rattle.router_core.specs.Announcing.{announced, announced_of}
use Rattle.router_core.specs.Output.{told_entry}
use Rattle.router_core.proofs.Announced.{announced_entries}
use Rattle.router_core.proofs.DueRoutes.{filter-all}
use Rattle.std.proofs.lemmas.Result.{IfOk-weaker}
use Rattle.router_core.proofs.reply.entries.Goals as goal

pub returns-then-asks_for_all-clause-few : goal.returns-then-asks_for_all-clause-few
returns-then-asks_for_all-clause-few g c =
    let t = g.S.RouteStore.table c.args.store.now in
    let routes : length c.deref.result.now ≡ map_of.len t = ap length (c.deref.ensures.value ∙ c.in_ok-listed.ensures) ∙ sym (map_of.len-entries t) in
    IfOk-weaker c.told_on.result (λ v. length v.items ≤ length c.deref.result.now) (λ v. length v.items ≤ max (map_of.len t) (length c.args.request.now.entries))
    (λ v few. omega (arith, few, routes)) c.told_on.ensures.few

pub returns-then-asks_for_all-clause-value : goal.returns-then-asks_for_all-clause-value
returns-then-asks_for_all-clause-value g c =
    let t = g.S.RouteStore.table c.args.store.now in
    let config = c.args.config.now in
    rw (sym c.asks_for_all.ensures ∙ c.if-asks_for_all.true)
    (IfOk-weaker c.told_on.result _ _ (λ v is.
    is
    ∙ ap (map (told_entry c.args.iface)) (
    ap (announced_of config c.args.iface) (c.deref.ensures.value ∙ c.in_ok-listed.ensures)
    ∙ sym (announced_entries config c.args.iface t)
    ∙ filter-all (map_of.entries (announced config c.args.iface t)))) c.told_on.ensures.value)
