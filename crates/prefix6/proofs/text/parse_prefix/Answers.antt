use Rattle.std.proofs.Common.{rules, ◌≡◌, Err, refl, sym, subst}
use Rattle.prefix6.specs.declared.error.PrefixError.TheVariants.{BadAddressText, BadLengthText}
use Rattle.prefix6.specs.Text.{Reads, IsLengthText, ParsesPrefix}
use Rattle.prefix6.proofs.Parsing.{none_has, no_address, no_length, a_prefix, is_made}
use Rattle.prefix6.proofs.text.parse_prefix.Goals as goal

pub returns-in_err-addr : goal.returns-in_err-addr
returns-in_err-addr c =
    let same : c.from_residual.result ≡ Err BadAddressText = search rules in
    let none = rw c.split_at_slash.ensures.address at (none_has (Reads c.split_at_slash.result.0.now) _ c.in_err-addr.ensures.reads) in
    subst (ParsesPrefix c.args.text.now) (sym same) (no_address c.args.text.now none)

pub returns-in_err-len : goal.returns-in_err-len
returns-in_err-len c =
    let same : c.from_residual-in_err-len.result ≡ Err BadLengthText = search rules in
    let reads = rw c.split_at_slash.ensures.address at ((c.in_ok-addr.ensures.reads c.in_ok-addr.addr).0 refl) in
    let none = rw c.split_at_slash.ensures.length at (none_has (IsLengthText c.split_at_slash.result.1.now) _ c.in_err-len.ensures.reads) in
    subst (ParsesPrefix c.args.text.now) (sym same) (no_length c.args.text.now _ reads none)

pub returns : goal.returns
returns c =
    let reads = rw c.split_at_slash.ensures.address at ((c.in_ok-addr.ensures.reads c.in_ok-addr.addr).0 refl) in
    let len = rw c.split_at_slash.ensures.length at ((c.in_ok-len.ensures.reads c.in_ok-len.len).0 refl) in
    let same = is_made c.new.result c.in_ok-addr.addr c.in_ok-len.len len.bound c.new.ensures.accepted c.new.ensures.cleared in
    subst (ParsesPrefix c.args.text.now) (sym same) (a_prefix c.args.text.now _ _ reads len)
