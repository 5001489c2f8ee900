use Rattle.std.proofs.Common.{refl, sym, ◌∙◌}
use Rattle.router_core.specs.Output.{selected}
use Rattle.router_core.specs.Settling.{settled_table}
use Rattle.router_core.proofs.Silence.{passive_is_silent, is_silent}
use Rattle.router_core.proofs.tell.is_silent_on.Goals as goal

pub returns-then-is_passive-clause-value : goal.returns-then-is_passive-clause-value
returns-then-is_passive-clause-value g c =
    let t = settled_table c.args.now c.args.which (g.S.RouteStore.table c.args.store.now) in
    let passive = sym c.is_passive.ensures.value ∙ c.if-is_passive.true in
    (λ h. passive_is_silent c.args.config.now c.is_passive.ensures.lawful (selected c.args.which) t c.args.iface passive, λ none. refl)

pub returns-else-is_passive-clause-value : goal.returns-else-is_passive-clause-value
returns-else-is_passive-clause-value g c =
    let t = settled_table c.args.now c.args.which (g.S.RouteStore.table c.args.store.now) in
    let active = sym c.is_passive.ensures.value ∙ c.if-is_passive.false in
    is_silent c.args.config.now c.is_passive.ensures.lawful (selected c.args.which) t c.args.iface active c.has_announced.result c.has_announced.ensures
