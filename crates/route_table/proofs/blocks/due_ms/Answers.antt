use Rattle.std.proofs.Common.{[], ap, ap₂, ◌∙◌}
use Rattle.std.proofs.lemmas.List.{get_or_read, take_all}
use Rattle.route_table.specs.Due.{earlier}
use Rattle.route_table.specs.Place.{Entries}
use Rattle.route_table.specs.Summary.{summary_of}
use Rattle.route_table.specs.Blocks.{joined}
use Rattle.route_table.proofs.BlockWalks.{due_more}
use Rattle.route_table.proofs.TrieSummary.{due_of}
use Rattle.route_table.proofs.blocks.due_ms.Goals as goal

pub loop-block-preserved : goal.loop-block-preserved
loop-block-preserved c =
    let bs = c.args.blocks.now in
    let i = c.loop-block.block-index in
    c.earlier_due-due.ensures
    ∙ ap₂ earlier c.loop-block.invariant (ap (λ (b : Entries). (summary_of b).due) (get_or_read bs i c.block-item.result c.loop-block-test.true c.block-item.is []))
    ∙ due_more bs i c.loop-block-test.true

pub returns : goal.returns
returns c =
    let bs = c.args.blocks.now in
    c.loop-block.invariant ∙ ap (λ l. (summary_of (joined l)).due) (take_all c.loop-block.block-index bs c.loop-block-test.false) ∙ due_of (joined bs)
