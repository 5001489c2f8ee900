use Rattle.std.proofs.Common.{◌∙◌, ap, take, arith}
use Rattle.ripng_capture.proofs.Standing.{stands_take}
use Rattle.ripng_capture.proofs.number.piece.Goals as goal

pub returns-clause-value : goal.returns-clause-value
returns-clause-value c = c.first_of.ensures ∙ ap (take c.args.count) c.behind.ensures

pub returns-clause-stands : goal.returns-clause-stands
returns-clause-stands c =
    stands_take c.args.bytes.now c.first_of.result.now c.args.count c.args.place (omega arith) (c.first_of.ensures ∙ ap (take c.args.count) c.behind.ensures)
