use Rattle.std.proofs.Common.{rules}
use Rattle.std.proofs.lemmas.List.Sorted.{answers_always}
use Rattle.prefix6.proofs.SortedEntries.{searched}
use Rattle.route_table.proofs.run.search.Goals as goal

pub returns-clause-found : goal.returns-clause-found
returns-clause-found c =
    let by_key = c.binary_search_by_key.ensures.position (λ e. e.0) (answers_always _ _ _ (λ f a r g called. search rules)) in
    (searched c.args.routes.now c.args.prefix.now c.requires c.binary_search_by_key.result c.binary_search_by_key.ensures.bound by_key).found

pub returns-clause-absent : goal.returns-clause-absent
returns-clause-absent c =
    let by_key = c.binary_search_by_key.ensures.position (λ e. e.0) (answers_always _ _ _ (λ f a r g called. search rules)) in
    (searched c.args.routes.now c.args.prefix.now c.requires c.binary_search_by_key.result c.binary_search_by_key.ensures.bound by_key).absent
