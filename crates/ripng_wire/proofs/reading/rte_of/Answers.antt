use Rattle.std.proofs.Common.{◌-◌, drop, length, refl, ap, ◌∙◌, arith}
use Rattle.std.proofs.lemmas.List.{length-drop, take_all}
use Rattle.byteorder.specs.Endian.{big_number}
use Rattle.ripng_wire.specs.Reading.{entry_of}
use Rattle.ripng_wire.proofs.Entries.{same_rte}
use Rattle.ripng_wire.proofs.reading.rte_of.Goals as goal

pub returns : goal.returns
unfolding entry_of
returns c =
    let b = c.args.bytes.now in
    let whole = take_all (length b - 16) (drop 16 b) (omega (arith, length-drop 16 b)) in
    same_rte (entry_of b) _ _ _ _ c.read_u128.ensures (c.read_u16.ensures ∙ ap (big_number 2) whole) refl refl
