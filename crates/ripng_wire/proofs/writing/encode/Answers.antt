use Rattle.std.proofs.Common.{sym, get_or, List, arith, take, length-take, subst}
use Rattle.std.proofs.lemmas.List.{take_all, take_more}
use Rattle.ripng_wire.specs.declared.rte.Rte.{Rte}
use Rattle.ripng_wire.specs.Layout.{Spells}
use Rattle.ripng_wire.proofs.Appending.{Spells-more}
use Rattle.ripng_wire.proofs.writing.encode.Goals as goal

pub returns : goal.returns
returns c =
    let es = c.args.entries.now in
    subst (λ (x : List Rte). Spells c.args.command x c.loop-entry.bytes.items) (take_all c.loop-entry.entry-index es (omega arith)) c.loop-entry.invariant

pub loop-entry-preserved : goal.loop-entry-preserved
loop-entry-preserved c =
    let i = c.loop-entry.entry-index in
    let es = c.args.entries.now in
    let zero_entry : Rte = record { addr = 0; tag = 0; len = 0; metric = 0 } in
    let e = get_or es i zero_entry in
    subst (λ (x : List Rte). Spells c.args.command x c.encode_entry.new.bytes.items) (sym (take_more es i zero_entry c.loop-entry-test.true))
    (Spells-more c.args.command (take i es) e c.loop-entry.bytes.items c.encode_entry.new.bytes.items c.loop-entry.invariant
    (omega (arith, length-take i es)) c.in_ok-encode_entry.ensures.ok c.encode_entry.ensures.fits)
