-- Which reason to refuse a configuration is the first, by the part that it speaks of.
use Rattle.std.proofs.Common.{◌≡◌, ◌==◌, nat_lt, true, false, cond, ◌∷◌, ◌++◌, length, Option, Some, None, ap, ◌∙◌}
use Rattle.ripng_wire.specs.Wire.{first_reason}
use Rattle.router_core.specs.Config.{Config, reasons_of_each, interface_reasons, prefix_reasons, config_fault}
use Rattle.router_core.specs.declared.config.ConfigRefused.{ConfigRefused}
use Rattle.router_core.specs.declared.config.ConfigRefused.TheVariants.{NoInterface, TooManyInterfaces, TooManyPrefixes}
use Rattle.router_core.specs.Config.{interface_limit, owned_limit}
use Rattle.router_core.proofs.ReasonsOfEach.{first_reason-append, first_reason-found}

-- a lawful number of interfaces
module _ (c : Config) (some : (length c.interfaces == 0) ≡ false) (few : nat_lt interface_limit (length c.interfaces) ≡ false) where
  abbrev behind_interfaces : Option ConfigRefused
  behind_interfaces = first_reason ((nat_lt owned_limit (length c.prefixes), TooManyPrefixes) ∷ reasons_of_each prefix_reasons c.prefixes)

  abbrev behind_counts : Option ConfigRefused
  behind_counts = first_reason (reasons_of_each interface_reasons c.interfaces ++ (nat_lt owned_limit (length c.prefixes), TooManyPrefixes) ∷ reasons_of_each prefix_reasons c.prefixes)

  counts_pass : config_fault c ≡ behind_counts
  counts_pass =
      ap (λ b. cond b (Some NoInterface) (cond (nat_lt interface_limit (length c.interfaces)) (Some TooManyInterfaces) behind_counts)) some
      ∙ ap (λ b. cond b (Some TooManyInterfaces) behind_counts) few

  pub by_interfaces : (why : ConfigRefused) → first_reason (reasons_of_each interface_reasons c.interfaces) ≡ Some why → config_fault c ≡ Some why
  by_interfaces why fails = counts_pass ∙ first_reason-found (reasons_of_each interface_reasons c.interfaces) _ why fails

  -- interfaces that pass
  module _ (pass : first_reason (reasons_of_each interface_reasons c.interfaces) ≡ None) where
    interfaces_pass : config_fault c ≡ behind_interfaces
    interfaces_pass = counts_pass ∙ first_reason-append (reasons_of_each interface_reasons c.interfaces) _ pass

    pub by_count : nat_lt owned_limit (length c.prefixes) ≡ true → config_fault c ≡ Some TooManyPrefixes
    by_count many = interfaces_pass ∙ ap (λ b. cond b (Some TooManyPrefixes) (first_reason (reasons_of_each prefix_reasons c.prefixes))) many

    pub by_prefixes : nat_lt owned_limit (length c.prefixes) ≡ false → config_fault c ≡ first_reason (reasons_of_each prefix_reasons c.prefixes)
    by_prefixes fit = interfaces_pass ∙ ap (λ b. cond b (Some TooManyPrefixes) (first_reason (reasons_of_each prefix_reasons c.prefixes))) fit
