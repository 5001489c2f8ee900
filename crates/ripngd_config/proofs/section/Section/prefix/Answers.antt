use Rattle.std.proofs.Common.{◌≡◌, ◌∙◌, None, Some, IsSomeAnd, ap, sym}
use Rattle.std.specs.Prelude.{option_copied}
use Rattle.toml.specs.Data.{as_str, get_member}
use Rattle.toml.specs.View.{table_view}
use Rattle.prefix6.specs.Prefix.{Prefix6}
use Rattle.prefix6.specs.Text.{ReadsPrefix}
use Rattle.ripngd_config.specs.Values.{IsPrefixValue}
use Rattle.ripngd_config.proofs.Texts.{match_at, prefix_read, prefix_refused}
use Rattle.ripngd_config.proofs.section.Section.prefix.Goals as goal

pub returns-in-Ok-clause-read : goal.returns-in-Ok-clause-read
returns-in-Ok-clause-read c =
    let got = sym c.as_str.ensures ∙ ap option_copied c.in-Some-as_str.is in
    let read = prefix_read _ c.in-Some-as_str.text.now c.parse_prefix.result c.in-Ok.prefix got c.parse_prefix.ensures c.in-Ok.is in
    match_at c.get.result c.in-Some.value (get_member c.args.key.now (table_view c.args.self.now.table.now)) (None ≡ Some c.in-Ok.prefix) (λ d. IsPrefixValue d c.in-Ok.prefix) c.get.ensures c.in-Some.is read

pub returns-in_ok-path_of-in-Err-clause-fault : goal.returns-in_ok-path_of-in-Err-clause-fault
returns-in_ok-path_of-in-Err-clause-fault c =
    let got = sym c.as_str.ensures ∙ ap option_copied c.in-Some-as_str.is in
    let refused = prefix_refused _ c.in-Some-as_str.text.now c.parse_prefix.result c.in-Err.field-0 got c.parse_prefix.ensures c.in-Err.is in
    match_at c.get.result c.in-Some.value (get_member c.args.key.now (table_view c.args.self.now.table.now)) ⊥ (λ d. IsSomeAnd (as_str d) (λ text. (p : Prefix6) → ¬ (ReadsPrefix text p))) c.get.ensures c.in-Some.is refused
