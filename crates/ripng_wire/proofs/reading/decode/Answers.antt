use Rattle.std.proofs.Common.{ap, sym, ◌∙◌, arith}
use Rattle.ripng_wire.specs.Reading.{entries_of}
use Rattle.ripng_wire.proofs.Spellings.{body_is, is_spelling, spelling_command, spelling_entries, spelling_has_no_fault}
use Rattle.ripng_wire.proofs.reading.decode.Goals as goal

pub returns-in_err-command-clause-all : goal.returns-in_err-command-clause-all
returns-in_err-command-clause-all c =
    λ command entries s. let none = c.in_err-command.ensures.fault ∙ spelling_has_no_fault command entries c.args.bytes.now s in
    absurd cc

pub invariant_of-result : goal.invariant_of-result
invariant_of-result c =
    let b = c.args.bytes.now in
    let s = is_spelling c.in_ok-command.command b (λ i. omega (arith, c.type_inv.bytes i)) (sym c.in_ok-command.ensures.fault) c.in_ok-command.ensures.command in
    rw (body_is b) (record { few = s.few; fit = s.fit })

pub returns-clause-read : goal.returns-clause-read
returns-clause-read c =
    let b = c.args.bytes.now in
    rw (body_is b) (is_spelling c.in_ok-command.command b (λ i. omega (arith, c.type_inv.bytes i)) (sym c.in_ok-command.ensures.fault) c.in_ok-command.ensures.command)

pub returns-clause-all : goal.returns-clause-all
returns-clause-all c =
    let b = c.args.bytes.now in
    λ command entries s. (
      spelling_command command c.in_ok-command.command entries b s c.in_ok-command.ensures.command,
      ap entries_of (body_is b) ∙ spelling_entries command entries b s,
    )
