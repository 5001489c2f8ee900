use Rattle.std.proofs.Common.{◌≡◌, ◌<◌, false, length, ap, ◌∙◌, slice_set, slice_index_or, arith}
use Rattle.route_table.proofs.SortedMarks.{plain_before, plain_next}
use Rattle.route_table.proofs.run.unmark.Goals as goal

pub loop-entry-preserved : goal.loop-entry-preserved
loop-entry-preserved c =
    let i = c.loop-entry.entry-index in
    let d = c.entry-item.result in
    let is : c.loop-entry.routes ≡ plain_before i c.args.routes.now = c.loop-entry.invariant in
    let within : i < length c.args.routes.now = omega (arith, c.loop-entry-test.true, c.loop-entry.auto.routes, c.loop-entry.auto.entry-index-end) in
    ap (λ r. slice_set c.loop-entry.routes i ((slice_index_or c.loop-entry.routes i d).0, r)) c.with_mark-entry.ensures
    ∙ ap (λ l. slice_set l i ((slice_index_or l i d).0, record (slice_index_or l i d).1 { changed = false })) is
    ∙ plain_next c.args.routes.now i d within
