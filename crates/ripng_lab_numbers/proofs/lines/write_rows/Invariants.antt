use Rattle.std.proofs.Common.{map, take}
use Rattle.std.specs.Prelude.{flat_map}
use Rattle.std.specs.Io.KnownBytes.{Appends}
use Rattle.std.specs.List.{enumerate_from}
use Rattle.ripng_lab_numbers.specs.Text.{row_text}
use Rattle.ripng_lab_numbers.proofs.lines.write_rows.Given as goal

-- what is written is the lines so far
abbrev pub invariant-loop-cell : goal.invariant-loop-cell
invariant-loop-cell g l =
    Appends (g.W.Write.contents l.fn.out) (g.W.Write.contents l.out)
    (flat_map (row_text l.by_router (map (λ name. name.now) l.names) l.layout) (take l.cell (enumerate_from 0 l.counts)))
