use Rattle.std.proofs.Common.{◌≡◌, ◌≤◌, List, ℕ, false, length, None, sym, subst, ap, ◌∙◌, arith}
use Rattle.std.specs.List.{list_any}
use Rattle.std.proofs.lemmas.Result.{err_from_is_err_and}
use Rattle.ripng_wire.specs.Wire.{first_reason}
use Rattle.router_core.specs.Config.{reasons_of_each}
use Rattle.ripng_world.specs.Network.{HaveNoLists, IsNetwork, AreZoned}
use Rattle.ripng_world.specs.NetworkFaults.{addresses, address_reasons, names_zone, network_fault, router_limit}
use Rattle.ripng_world.proofs.LawfulNetworks.{by_zone, by_router, by_addresses, is_network, is_zoned, without_lists}
use Rattle.ripng_world.proofs.network.NetConfig.check.Goals as goal

pub returns-then-name_zones-clause-refused : goal.returns-then-name_zones-clause-refused
returns-then-name_zones-clause-refused c =
    let few : length c.args.routers.items ≤ router_limit = omega (arith, c.if-len-gt-ROUTER_LIMIT.false, c.len.ensures, c.args.routers.ok.0) in
    λ _. by_zone c.args.routers.items few (ap (list_any names_zone) (sym c.deref.ensures.value) ∙ sym c.name_zones.ensures ∙ c.if-name_zones.true)

pub returns-in_err-routers-clause-refused : goal.returns-in_err-routers-clause-refused
returns-in_err-routers-clause-refused c =
    let p = err_from_is_err_and c.from_residual.result c.from_residual.ensures.1 in
    let few : length c.args.routers.items ≤ router_limit = omega (arith, c.if-len-gt-ROUTER_LIMIT.false, c.len.ensures, c.args.routers.ok.0) in
    let unnamed : list_any names_zone c.args.routers.items ≡ false = ap (list_any names_zone) (sym c.deref.ensures.value) ∙ sym c.name_zones.ensures ∙ c.if-name_zones.false in
    rw (p.1, p.2) (λ other. by_router c.args.routers.items few unnamed _ (c.in_err-routers.ensures.refused other))

-- the addresses of the routers that were checked
pub returns-in_err-check_addresses-clause-refused : goal.returns-in_err-check_addresses-clause-refused
returns-in_err-check_addresses-clause-refused c =
    let p = err_from_is_err_and c.from_residual-in_err-check_addresses.result c.from_residual-in_err-check_addresses.ensures.1 in
    let few : length c.args.routers.items ≤ router_limit = omega (arith, c.if-len-gt-ROUTER_LIMIT.false, c.len.ensures, c.args.routers.ok.0) in
    let unnamed : list_any names_zone c.args.routers.items ≡ false = ap (list_any names_zone) (sym c.deref.ensures.value) ∙ sym c.name_zones.ensures ∙ c.if-name_zones.false in
    let all = c.deref_mut.ensures.value ∙ c.in_ok-addresses.ensures ∙ ap addresses (c.deref-2.ensures.value ∙ c.in_ok-routers.ensures.kept) in
    rw (p.1, p.2) (λ _.
    by_addresses c.args.routers.items few unnamed c.in_ok-routers.ensures.passes
    ∙ ap (λ (xs : List ℕ). first_reason (reasons_of_each address_reasons xs)) (sym all) ∙ sym c.in_err-check_addresses.ensures)

passes : (c : goal.In_ok-check_addresses) → network_fault c.args.routers.items ≡ None
passes c =
    let few : length c.args.routers.items ≤ router_limit = omega (arith, c.if-len-gt-ROUTER_LIMIT.false, c.len.ensures, c.args.routers.ok.0) in
    let unnamed : list_any names_zone c.args.routers.items ≡ false = ap (list_any names_zone) (sym c.deref.ensures.value) ∙ sym c.name_zones.ensures ∙ c.if-name_zones.false in
    let all = c.deref_mut.ensures.value ∙ c.in_ok-addresses.ensures ∙ ap addresses (c.deref-2.ensures.value ∙ c.in_ok-routers.ensures.kept) in
    by_addresses c.args.routers.items few unnamed c.in_ok-routers.ensures.passes
    ∙ ap (λ (xs : List ℕ). first_reason (reasons_of_each address_reasons xs)) (sym all) ∙ sym c.in_ok-check_addresses.ensures

lawful : (c : goal.In_ok-check_addresses) → IsNetwork c.in_ok-routers.routers.items
lawful c = subst IsNetwork (sym c.in_ok-routers.ensures.kept) (is_network c.args.routers.items (passes c) c.in_ok-routers.ensures.lawful)

zoned : (c : goal.In_ok-check_addresses) → AreZoned c.in_ok-routers.routers.items
zoned c = subst AreZoned (sym c.in_ok-routers.ensures.kept) (is_zoned c.args.routers.items (passes c) c.in_ok-routers.ensures.lawful)

pub invariant_of-result : goal.invariant_of-result
invariant_of-result c = (lawful c, zoned c)

pub returns-clause-passes : goal.returns-clause-passes
returns-clause-passes c = passes c.before

pub returns-clause-lawful : goal.returns-clause-lawful
returns-clause-lawful c = lawful c.before

pub returns-clause-zoned : goal.returns-clause-zoned
returns-clause-zoned c = zoned c.before

pub returns-clause-unlisted : goal.returns-clause-unlisted
returns-clause-unlisted c =
    subst HaveNoLists (sym c.before.in_ok-routers.ensures.kept) (without_lists c.before.args.routers.items (passes c.before) c.before.in_ok-routers.ensures.lawful)
