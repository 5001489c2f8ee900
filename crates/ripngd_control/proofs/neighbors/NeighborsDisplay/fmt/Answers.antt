use Rattle.std.proofs.Common.{◌∙◌, arith, refl, rules, sym, take}
use Rattle.std.proofs.lemmas.Grind.{put_two}
use Rattle.std.proofs.lemmas.List.{take_all}
use Rattle.ripngd_control.proofs.Answered.{others_said}
use Rattle.ripngd_control.proofs.Following.{row_lines_more}
use Rattle.ripngd_control.proofs.neighbors.NeighborsDisplay.fmt.Goals as goal

pub loop-row-preserved : goal.loop-row-preserved
loop-row-preserved g c = λ plain.
    let before = c.loop-row.invariant plain in
    put_two _ _ _ _ _ _ _ before (c.in_ok-writeln.ensures.writes before.plain refl)
    (sym (row_lines_more c.as_slice-row-items.result.now c.loop-row.row-index c.row-item.result c.loop-row-test.true c.row-item.is))

pub returns-clause-writes : goal.returns-clause-writes
returns-clause-writes g c = λ plain ok.
    let rows = c.loop-row.invariant plain in
    let items = c.as_slice-row-items.result.now in
    let past = c.loop-row-test.false in
    put_two _ _ _ _ _ _ _ rows (c.writeln-2.ensures.writes rows.plain ok)
    (others_said c.args.self.now (take c.loop-row.row-index items)
    (take_all c.loop-row.row-index items (omega (arith, past)) ∙ c.as_slice-row-items.ensures.value) (search rules))
