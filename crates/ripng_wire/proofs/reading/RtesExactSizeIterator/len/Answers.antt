use Rattle.std.proofs.Common.{◌/◌, length, sym, ap, ◌∙◌}
use Rattle.ripng_wire.proofs.Entries.{length-first}
use Rattle.ripng_wire.proofs.reading.RtesExactSizeIterator.len.Goals as goal

pub returns-clause-value : goal.returns-clause-value
returns-clause-value c =
    let left = c.self.inside.left.now in
    sym (length-first (length left / 20) left) ∙ ap length c.self.view_is
