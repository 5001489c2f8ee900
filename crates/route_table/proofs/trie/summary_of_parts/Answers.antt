use Rattle.std.proofs.Common.{◌≡◌, ◌++◌, sym, ap, ap₂, ◌∙◌}
use Rattle.route_table.specs.Summary.{both, summary_of, summary_of_route}
use Rattle.route_table.specs.Trie.{linked, fork_entries}
use Rattle.route_table.proofs.TrieLists.{Entry}
use Rattle.route_table.proofs.TrieSummary.{summary-append}
use Rattle.route_table.proofs.trie.summary_of_parts.Goals as goal

pub returns-in-None : goal.returns-in-None
returns-in-None c =
    let l = c.args.low.now in
    let h = c.args.high.now in
    c.and-below.ensures ∙ ap₂ both c.summary.ensures c.summary-2.ensures ∙ summary-append (linked l) (linked h) ∙ ap (λ o. summary_of (fork_entries o l h)) (sym c.in-None.is)

pub returns-in-Some : goal.returns-in-Some
returns-in-Some c =
    let l = c.args.low.now in
    let h = c.args.high.now in
    let below : c.and-below.result ≡ summary_of (linked l ++ linked h) = c.and-below.ensures ∙ ap₂ both c.summary.ensures c.summary-2.ensures ∙ summary-append (linked l) (linked h) in
    let here : c.of.result ≡ summary_of_route c.in-Some.leaf.value.1 = c.of.ensures ∙ ap (λ (e : Entry). summary_of_route e.1) c.deref.ensures in
    c.and.ensures ∙ ap₂ both here below ∙ ap (λ o. summary_of (fork_entries o l h)) (sym c.in-Some.is)
