use Rattle.std.proofs.Common.{◌≡◌, ◌∙◌, None, Some, ap, sym}
use Rattle.std.specs.Prelude.{option_copied}
use Rattle.toml.specs.Data.{get_member}
use Rattle.toml.specs.View.{table_view}
use Rattle.ripngd_config.specs.Values.{IsAddress}
use Rattle.ripngd_config.proofs.Texts.{address_read, match_at}
use Rattle.ripngd_config.proofs.section.Section.address.Goals as goal

pub returns-in-Ok-clause-read : goal.returns-in-Ok-clause-read
returns-in-Ok-clause-read c =
    let got = sym c.as_str.ensures ∙ ap option_copied c.in-Some-as_str.is in
    let read = address_read _ c.in-Some-as_str.text.now c.parse_addr.result c.in-Ok.addr got c.parse_addr.ensures c.in-Ok.is in
    match_at c.get.result c.in-Some.value (get_member c.args.key.now (table_view c.args.self.now.table.now)) (None ≡ Some c.in-Ok.addr) (λ d. IsAddress d c.in-Ok.addr) c.get.ensures c.in-Some.is read
