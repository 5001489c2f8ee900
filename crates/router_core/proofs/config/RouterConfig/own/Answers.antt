use Rattle.std.proofs.Common.{◌≡◌, ◌<◌, false, length, sym, subst}
use Rattle.router_core.specs.Config.{Config, config_with, has_prefix}
use Rattle.router_core.specs.Config.{owned_limit}
use Rattle.router_core.proofs.ConfigChanges.{lawful_own}
use Rattle.router_core.proofs.config.RouterConfig.own.Goals as goal

pub invariant_of-self-2 : goal.invariant_of-self-2
invariant_of-self-2 c =
    let old = config_with c.self.inside.interfaces.items c.self.inside.prefixes.items c.self.inside.quiet c.self.inside.filters.items c.self.inside.limits.items in
    rw (c.in_ok-push.ensures.items)
    (lawful_own old c.self.invariant c.args.prefix c.args.tag c.requires.prefix c.requires.routable (subst (λ (x : Config). has_prefix x.prefixes c.args.prefix ≡ false) (sym c.self.view_is) c.requires.new) (subst (λ (x : Config). length x.prefixes < owned_limit) (sym c.self.view_is) c.requires.room))
