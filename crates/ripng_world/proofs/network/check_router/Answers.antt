use Rattle.std.proofs.Common.{◌≡◌, List, Ok, map, option_map, sym, ap, subst, ◌∙◌, rules, tests}
use Rattle.std.specs.Bool.{⊤}
use Rattle.std.proofs.lemmas.Iterator.{YieldsList-from_map, YieldsList-from_slice, items_from_collect}
use Rattle.std.proofs.lemmas.Iterator.Consumers.{YieldsList-at}
use Rattle.router_core.specs.Config.{Config, config, config_fault, config_reasons, IsConfig}
use Rattle.router_core.specs.declared.config.Interface.{Interface}
use Rattle.ripng_world.specs.Network.{Node, config_of}
use Rattle.ripng_world.specs.declared.network.NetInterface.{NetInterface}
use Rattle.ripng_world.specs.declared.network.NetRefused.TheVariants.{BadRouter}
use Rattle.ripng_world.proofs.NetworkLaws.{first_reason-map}
use Rattle.ripng_world.proofs.network.check_router.Goals as goal

pub invariant_of-result : goal.invariant_of-result
invariant_of-result c =
    let plain : c.in_ok-without_links.without_links.items ≡ map (λ (i : NetInterface). i.interface) c.deref.result.now =
    items_from_collect {E = ⊤} (Ok c.in_ok-without_links.without_links) c.in_ok-without_links.ensures.ran
    (YieldsList-from_map _ (λ (i : NetInterface). i.interface) (YieldsList-at c.map.ensures.source (YieldsList-from_slice c.deref.result.now c.iter.ensures.rest)) c.map.ensures.closure (λ x r q k. search (rules, tests))) in
    let items : c.in_ok-without_links.without_links.items ≡ map (λ (i : NetInterface). i.interface) c.node.inside.interfaces.items =
    plain ∙ ap (map (λ (i : NetInterface). i.interface)) c.deref.ensures.value in (
      sym items ∙ sym (ap (λ (k : Config). k.interfaces) c.in-Ok.ensures.kept),
      ap (λ (k : Config). k.filters) c.in-Ok.ensures.kept,
      ap (λ (k : Config). k.limits) c.in-Ok.ensures.kept,
      ap (λ (k : Config). k.passive) c.in-Ok.ensures.kept,
      ap (λ (k : Config). k.announcements) c.in-Ok.ensures.kept,
    )

pub returns-in-Ok-clause-passes : goal.returns-in-Ok-clause-passes
returns-in-Ok-clause-passes c =
    let plain : c.in_ok-without_links.without_links.items ≡ map (λ (i : NetInterface). i.interface) c.deref.result.now =
    items_from_collect {E = ⊤} (Ok c.in_ok-without_links.without_links) c.in_ok-without_links.ensures.ran
    (YieldsList-from_map _ (λ (i : NetInterface). i.interface) (YieldsList-at c.map.ensures.source (YieldsList-from_slice c.deref.result.now c.iter.ensures.rest)) c.map.ensures.closure (λ x r q k. search (rules, tests))) in
    let items : c.in_ok-without_links.without_links.items ≡ map (λ (i : NetInterface). i.interface) c.node.inside.interfaces.items =
    plain ∙ ap (map (λ (i : NetInterface). i.interface)) c.deref.ensures.value in
    let same : config c.in_ok-without_links.without_links.items c.node.inside.prefixes.items c.node.inside.quiet ≡ config_of c.args.node =
    ap (λ (is : List Interface). config is c.node.inside.prefixes.items c.node.inside.quiet) items ∙ ap config_of c.node.view_is in
    first_reason-map (BadRouter c.args.router) (config_reasons (config_of c.args.node))
    ∙ ap (option_map (BadRouter c.args.router)) (sym (c.in-Ok.ensures.refused ∙ ap config_fault same))

pub returns-in-Ok-clause-lawful : goal.returns-in-Ok-clause-lawful
returns-in-Ok-clause-lawful c =
    let plain : c.in_ok-without_links.without_links.items ≡ map (λ (i : NetInterface). i.interface) c.deref.result.now =
    items_from_collect {E = ⊤} (Ok c.in_ok-without_links.without_links) c.in_ok-without_links.ensures.ran
    (YieldsList-from_map _ (λ (i : NetInterface). i.interface) (YieldsList-at c.map.ensures.source (YieldsList-from_slice c.deref.result.now c.iter.ensures.rest)) c.map.ensures.closure (λ x r q k. search (rules, tests))) in
    let items : c.in_ok-without_links.without_links.items ≡ map (λ (i : NetInterface). i.interface) c.node.inside.interfaces.items =
    plain ∙ ap (map (λ (i : NetInterface). i.interface)) c.deref.ensures.value in
    let same : config c.in_ok-without_links.without_links.items c.node.inside.prefixes.items c.node.inside.quiet ≡ config_of c.args.node =
    ap (λ (is : List Interface). config is c.node.inside.prefixes.items c.node.inside.quiet) items ∙ ap config_of c.node.view_is in (
      subst IsConfig (c.in-Ok.ensures.kept ∙ same) c.in-Ok.ensures.lawful,
      (ap (λ (n : Node). n.filters) (sym c.node.view_is), ap (λ (n : Node). n.limits) (sym c.node.view_is), ap (λ (n : Node). n.passive) (sym c.node.view_is), ap (λ (n : Node). n.announcements) (sym c.node.view_is)),
    )

pub returns-in-Err-clause-refused : goal.returns-in-Err-clause-refused
returns-in-Err-clause-refused c = λ _.
    let plain : c.in_ok-without_links.without_links.items ≡ map (λ (i : NetInterface). i.interface) c.deref.result.now =
    items_from_collect {E = ⊤} (Ok c.in_ok-without_links.without_links) c.in_ok-without_links.ensures.ran
    (YieldsList-from_map _ (λ (i : NetInterface). i.interface) (YieldsList-at c.map.ensures.source (YieldsList-from_slice c.deref.result.now c.iter.ensures.rest)) c.map.ensures.closure (λ x r q k. search (rules, tests))) in
    let items : c.in_ok-without_links.without_links.items ≡ map (λ (i : NetInterface). i.interface) c.node.inside.interfaces.items =
    plain ∙ ap (map (λ (i : NetInterface). i.interface)) c.deref.ensures.value in
    let same : config c.in_ok-without_links.without_links.items c.node.inside.prefixes.items c.node.inside.quiet ≡ config_of c.args.node =
    ap (λ (is : List Interface). config is c.node.inside.prefixes.items c.node.inside.quiet) items ∙ ap config_of c.node.view_is in
    first_reason-map (BadRouter c.args.router) (config_reasons (config_of c.args.node))
    ∙ ap (option_map (BadRouter c.args.router)) (sym (c.in-Err.ensures.refused ∙ ap config_fault same))
