use Rattle.std.proofs.Common.{rules, ◌≡◌, ap}
use Rattle.std.proofs.lemmas.Fn.{filter_same}
use Rattle.router_core.specs.Config.{announcing, config_with}
use Rattle.router_core.specs.Reconfiguring.{without_prefix}
use Rattle.router_core.proofs.ConfigChanges.{lawful_disown}
use Rattle.router_core.proofs.config.RouterConfig.disown.Goals as goal

left : (c : goal.After-retain) → c.retain.new.self.items ≡ without_prefix c.self.inside.prefixes.items c.args.prefix
left c = filter_same _ _ _ (λ x b f' k. search rules) _ _ c.retain.ensures.filtered

pub invariant_of-self : goal.invariant_of-self
invariant_of-self c =
    let old = config_with c.self.inside.interfaces.items c.self.inside.prefixes.items c.self.inside.quiet c.self.inside.filters.items c.self.inside.limits.items in
    rw (left c) (lawful_disown old c.self.invariant c.args.prefix)

pub returns : goal.returns
returns c =
    let old = config_with c.self.inside.interfaces.items c.self.inside.prefixes.items c.self.inside.quiet c.self.inside.filters.items c.self.inside.limits.items in
    rw (← c.self.view_is) (ap (λ ts. announcing (config_with old.interfaces ts old.quiet old.filters old.limits) c.self.inside.passive.items c.self.inside.announcements.items) (left c))
