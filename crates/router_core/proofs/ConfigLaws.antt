-- What the tests of a configuration say of each interface and of the owned prefixes.
use Rattle.std.proofs.Common.{◌≡◌, ℕ, zero, suc, ◌+◌, ◌<◌, ◌≤◌, Bool, false, nat_lt, List, [], ◌∷◌, ◌++◌, take, length, Some, unwrap_or, option_map, slice_get, ap, subst, arith}
use Rattle.std.specs.List.{enumerate_from, flat_map, list_any}
use Rattle.std.proofs.lemmas.Bool.Decides.{nat_tests}
use Rattle.prefix6.specs.Prefix.{Prefix6, same_prefix}
use Rattle.ripng_wire.proofs.FirstReason.{EachPasses, each_passes}
use Rattle.route_table.specs.Route.{infinity}
use Rattle.router_core.specs.Config.{Config, IsConfig, mtu_at, config_reasons, reasons_of_each, interface_reasons, prefix_reasons}
use Rattle.router_core.specs.declared.config.ConfigRefused.{ConfigRefused}
use Rattle.router_core.specs.declared.config.Interface.{Interface}
use Rattle.router_core.specs.Config.{interface_limit, owned_limit}

-- where the tests of two lists pass, those of each pass
pub passes-append : {F : Type 0} (these others : List (Bool × F)) → EachPasses (these ++ others) → EachPasses these × EachPasses others
passes-append [] others h = (tt, h)
passes-append (t ∷ these) others h = let rest = passes-append these others h.1 in ((h.0, rest.0), rest.1)

-- where the tests made of each element pass, those of the element at a place pass
pub passes_at : {X F : Type 0} (f : ℕ × X → List (Bool × F)) (n : ℕ) (xs : List X) (i : ℕ) (x : X) → slice_get xs i ≡ Some x
    → EachPasses (flat_map f (enumerate_from n xs)) → EachPasses (f (n + i, x))
passes_at f n [] i x is h = absurd (cc)
passes_at {F = F} f n (y ∷ xs) zero x is h =
    let same : y ≡ x = cc in
    let here = (passes-append (f (n, y)) (flat_map f (enumerate_from (n + 1) xs)) h).0 in
    let e : n ≡ n + 0 = omega arith in
    subst (λ z. EachPasses {F = F} (f (n + 0, z))) same (subst (λ (m : ℕ). EachPasses {F = F} (f (m, y))) e here)
passes_at {F = F} f n (y ∷ xs) (suc i) x is h =
    let rest = (passes-append (f (n, y)) (flat_map f (enumerate_from (n + 1) xs)) h).1 in
    let e : n + 1 + i ≡ n + suc i = omega arith in
    subst (λ (m : ℕ). EachPasses {F = F} (f (m, x))) e (passes_at f (n + 1) xs i x is rest)

module _ (c : Config) (lawful : IsConfig c) where
  pub all_pass : EachPasses (config_reasons c)
  all_pass = each_passes (config_reasons c) lawful.passes

  pub interfaces_pass : EachPasses (reasons_of_each interface_reasons c.interfaces)
  interfaces_pass = (passes-append (reasons_of_each interface_reasons c.interfaces) ((nat_lt owned_limit (length c.prefixes), ConfigRefused.TooManyPrefixes) ∷ reasons_of_each prefix_reasons c.prefixes) all_pass.1.1).0

  pub prefixes_pass : (nat_lt owned_limit (length c.prefixes) ≡ false) × EachPasses (reasons_of_each prefix_reasons c.prefixes)
  prefixes_pass = (passes-append (reasons_of_each interface_reasons c.interfaces) ((nat_lt owned_limit (length c.prefixes), ConfigRefused.TooManyPrefixes) ∷ reasons_of_each prefix_reasons c.prefixes) all_pass.1.1).1

  -- there are few interfaces and few prefixes
  pub few_interfaces : length c.interfaces ≤ interface_limit
  few_interfaces = let h = all_pass.1.0 in grind (arith, nat_tests, h)

  pub few_prefixes : length c.prefixes ≤ owned_limit
  few_prefixes = let h = prefixes_pass.0 in grind (arith, nat_tests, h)

  pub some_interface : 0 < length c.interfaces
  some_interface = let h = all_pass.0 in grind (arith, nat_tests, h)

  module _ (i : ℕ) (x : Interface) (is : slice_get c.interfaces i ≡ Some x) where
    pub interface_passes : EachPasses (interface_reasons (take (0 + i) c.interfaces) x)
    interface_passes = passes_at (λ t. interface_reasons (take t.0 c.interfaces) t.1) 0 c.interfaces i x is interfaces_pass

    -- each MTU is 1,280 to 65,535 bytes
    pub mtu_low : 1280 ≤ x.mtu
    mtu_low = let h = interface_passes.1.1.1.0 in grind (arith, nat_tests, h)

    pub mtu_high : x.mtu ≤ 65535
    mtu_high = let h = interface_passes.1.1.1.0 in grind (arith, nat_tests, h)

    pub mtu_at-interface : mtu_at c i ≡ x.mtu
    mtu_at-interface = ap (λ o. unwrap_or (option_map (λ (j : Interface). j.mtu) o) 1280) is

    -- each cost is 1 to 15 hops
    pub cost_low : 1 ≤ x.cost
    cost_low = let h = interface_passes.1.1.0 in grind (arith, nat_tests, h)

    pub cost_high : x.cost < infinity
    cost_high = let h = interface_passes.1.1.0 in grind (arith, nat_tests, h)

  -- no prefix is an earlier one
  pub prefix_is_new : (i : ℕ) (t : Prefix6 × ℕ) → slice_get c.prefixes i ≡ Some t → list_any (λ e. same_prefix e.0 t.0) (take i c.prefixes) ≡ false
  prefix_is_new i t is =
      let h = (passes_at (λ u. prefix_reasons (take u.0 c.prefixes) u.1) 0 c.prefixes i t is prefixes_pass.1).0 in
      let e : 0 + i ≡ i = omega arith in
      subst (λ (m : ℕ). list_any (λ u. same_prefix u.0 t.0) (take m c.prefixes) ≡ false) e h
