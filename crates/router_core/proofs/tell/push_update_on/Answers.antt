use Rattle.std.proofs.Common.{◌≡◌, true, List, map, OnOk, ap, sym, subst, ◌∙◌}
use Rattle.std.specs.FinMap.{entries}
use Rattle.route_table.specs.Place.{Entries}
use Rattle.route_table.specs.Table.{map_entries}
use Rattle.router_core.specs.Announcing.{announced_of}
use Rattle.router_core.specs.Output.{Message, AddsSpelled, responses, selected, told_entry, update_on}
use Rattle.router_core.specs.Settling.{settled_table, told_route}
use Rattle.router_core.specs.declared.answer.Destination.TheVariants.{Group}
use Rattle.router_core.proofs.Announced.{announced_told}
use Rattle.router_core.proofs.Sending.{AddsSpelled-none}
use Rattle.router_core.proofs.Silence.{says}
use Rattle.router_core.proofs.tell.push_update_on.Goals as goal

pub returns-then-is_silent_on-clause-spelled : goal.returns-then-is_silent_on-clause-spelled
returns-then-is_silent_on-clause-spelled g c =
    let t = settled_table c.args.now c.args.which (g.S.RouteStore.table c.args.store.now) in
    AddsSpelled-none (update_on c.args.config.now (selected c.args.which) t c.args.iface) c.args.sends.now.items (c.is_silent_on.ensures.value.0 c.if-is_silent_on.true)

pub returns-else-is_silent_on-clause-spelled : goal.returns-else-is_silent_on-clause-spelled
returns-else-is_silent_on-clause-spelled g c =
    let config = c.args.config.now in
    let i = c.args.iface in
    let stored = g.S.RouteStore.table c.args.store.now in
    let t = settled_table c.args.now c.args.which stored in
    let messages : responses config i Group (map (told_entry i) (map_entries (told_route c.args.now c.args.which) (announced_of config i (entries stored))))
    ≡ update_on config (selected c.args.which) t i =
    ap (λ (es : Entries). responses config i Group (map (told_entry i) es)) (announced_told config i c.args.now c.args.which stored)
    ∙ sym (says config c.is_silent_on.ensures.lawful (selected c.args.which) t i (c.is_silent_on.ensures.active c.if-is_silent_on.false)) in
    subst (λ (ms : List Message). OnOk c.push_update.result (AddsSpelled ms c.args.sends.now.items c.push_update.new.sends.items)) messages c.push_update.ensures.spelled

pub returns-else-is_silent_on-clause-silent_is_free : goal.returns-else-is_silent_on-clause-silent_is_free
returns-else-is_silent_on-clause-silent_is_free g c = λ none. let silent = c.is_silent_on.ensures.value.1 none in absurd (cc)
