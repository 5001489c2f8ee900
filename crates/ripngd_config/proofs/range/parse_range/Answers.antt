use Rattle.std.proofs.Common.{rules, ◌≡◌, ◌∙◌, [], arith, length, sym}
use Rattle.std.proofs.lemmas.List.{nil_from_length}
use Rattle.std.specs.List.{after_first}
use Rattle.ripngd_config.specs.Ranges.{is_plus}
use Rattle.ripngd_config.proofs.Ranges.{range_read, range_refused}
use Rattle.ripngd_config.proofs.range.parse_range.Goals as goal

pub returns-in-Ok : goal.returns-in-Ok
returns-in-Ok c =
    let empty : length c.split_at_plus.result.1.now ≡ 0 = search rules in
    let last : after_first is_plus c.args.text.now ≡ [] = sym c.split_at_plus.ensures.after ∙ nil_from_length c.split_at_plus.result.1.now empty in
    let longer = c.ends_with-is_longer.ensures.byte (omega arith) (omega arith) (λ w o found. found) in
    range_read c.args.text.now c.split_at_plus.result.0.now c.parse_prefix.result _ c.split_at_plus.ensures.before last longer c.parse_prefix.ensures c.in-Ok.is

pub returns-in-Err : goal.returns-in-Err
returns-in-Err c = range_refused c.args.text.now c.split_at_plus.result.0.now c.parse_prefix.result c.in-Err.field-0 c.split_at_plus.ensures.before c.parse_prefix.ensures c.in-Err.is
