use Rattle.std.proofs.Common.{map}
use Rattle.std.proofs.KnownBytes.{Appends-trans}
use Rattle.router_core.proofs.Sending.{take_all_numbered}
use Rattle.ripng_lab_numbers.specs.Text.{row_text}
use Rattle.ripng_lab_numbers.proofs.Rows.{lines_more}
use Rattle.ripng_lab_numbers.proofs.lines.write_rows.Goals as goal

pub loop-cell-preserved : goal.loop-cell-preserved
loop-cell-preserved g c =
    rw (lines_more (row_text c.args.by_router (map (λ name. name.now) c.args.names.now) c.args.layout) c.args.counts.now c.loop-cell.cell c.index-counts-cell.result c.loop-cell-test.true c.index-counts-cell.is)
    (Appends-trans _ _ _ _ _ c.loop-cell.invariant c.in_ok-write_row.ensures)

pub returns : goal.returns
returns g c = rw (take_all_numbered c.args.counts.now c.loop-cell.cell c.loop-cell-test.false) at c.loop-cell.invariant
