use Rattle.std.proofs.Common.{◌<◌, length, ap, sym, subst}
use Rattle.router_core.specs.Config.{Config, announcing, config_with}
use Rattle.router_core.proofs.ConfigChanges.{cost_set, lawful_cost}
use Rattle.router_core.proofs.config.RouterConfig.set_cost.Goals as goal

pub invariant_of-self : goal.invariant_of-self
invariant_of-self c =
    let old = config_with c.self.inside.interfaces.items c.self.inside.prefixes.items c.self.inside.quiet c.self.inside.filters.items c.self.inside.limits.items in
    let x = c.index_mut.result.now in
    let set = cost_set old.interfaces c.args.iface c.args.cost x (subst (λ (x : Config). c.args.iface < length x.interfaces) (sym c.self.view_is) c.requires.there) c.index_mut.ensures.value in
    lawful_cost old c.self.invariant c.args.iface c.args.cost x set.0 c.requires.usable

pub returns : goal.returns
returns c =
    let old = config_with c.self.inside.interfaces.items c.self.inside.prefixes.items c.self.inside.quiet c.self.inside.filters.items c.self.inside.limits.items in
    let x = c.index_mut.result.now in
    let set = cost_set old.interfaces c.args.iface c.args.cost x (subst (λ (x : Config). c.args.iface < length x.interfaces) (sym c.self.view_is) c.requires.there) c.index_mut.ensures.value in
    rw (← c.self.view_is) (ap (λ is. announcing (config_with is old.prefixes old.quiet old.filters old.limits) c.self.inside.passive.items c.self.inside.announcements.items) set.1)
