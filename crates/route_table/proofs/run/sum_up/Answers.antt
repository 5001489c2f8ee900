use Rattle.std.proofs.Common.{[], ◌∷◌, ◌++◌, take, sym, ap, ap₂, ◌∙◌}
use Rattle.std.proofs.lemmas.List.{take_more, take_all}
use Rattle.route_table.specs.Summary.{both, summary_of}
use Rattle.route_table.proofs.TrieLists.{Entry}
use Rattle.route_table.proofs.TrieSummary.{summary-append, summary-one}
use Rattle.route_table.proofs.run.sum_up.Goals as goal

pub loop-route-preserved : goal.loop-route-preserved
loop-route-preserved c =
    let es = c.args.routes.now in
    let i = c.loop-route.route-index in
    let e = c.loop-route-item.result in
    c.and-summary.ensures ∙ ap₂ both c.loop-route.invariant (c.of.ensures ∙ summary-one e) ∙ summary-append (take i es) (e ∷ [])
    ∙ ap summary_of (ap (λ (x : Entry). take i es ++ x ∷ []) c.loop-route-item.is ∙ sym (take_more es i e c.loop-route-test.true))

pub returns : goal.returns
returns c = c.loop-route.invariant ∙ ap summary_of (take_all c.loop-route.route-index c.args.routes.now c.loop-route-test.false)
