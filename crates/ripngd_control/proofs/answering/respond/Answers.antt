use Rattle.std.proofs.Common.{rules}
use Rattle.ripngd_control.proofs.Answered.{answers_counts, answers_neighbors, answers_status, answers_status_json, was_ok}
use Rattle.ripngd_control.proofs.answering.respond.Goals as goal

pub returns-in-Some-Counts-clause-answers : goal.returns-in-Some-Counts-clause-answers
returns-in-Some-Counts-clause-answers g c =
    let text = rw c.counts-counts.ensures at c.writeln-written.ensures.bytes in
    answers_counts _ _ _ _ _ _ _ _ _ (search rules) (λ well. let done = c.all_of.ensures well in (done.0, was_ok c.writeln-written.result done.1 text))

pub returns-in-Some-Neighbors-clause-answers : goal.returns-in-Some-Neighbors-clause-answers
returns-in-Some-Neighbors-clause-answers g c =
    let text = rw c.neighbors-neighbors.ensures at c.writeln.ensures.bytes in
    answers_neighbors _ _ _ _ _ _ _ _ _ (search rules)
    (λ well. let done = c.all_of-in-Some-Neighbors.ensures well in (done.0, was_ok c.writeln.result done.1 text))

pub returns-in-Some-Status-clause-answers : goal.returns-in-Some-Status-clause-answers
returns-in-Some-Status-clause-answers g c =
    answers_status _ _ _ _ _ _ _ _ _ (search rules)
    (λ well. let done = c.all_of-in-Some-Status.ensures well in (done.0, was_ok c.write_status-written.result done.1 c.write_status-written.ensures))

pub returns-in-Some-StatusJson-clause-answers : goal.returns-in-Some-StatusJson-clause-answers
returns-in-Some-StatusJson-clause-answers g c =
    answers_status_json _ _ _ _ _ _ _ _ _ (search rules)
    (λ well. let done = c.all_of-in-Some-StatusJson.ensures well in (done.0, was_ok c.write_status_json-written.result done.1 c.write_status_json-written.ensures))
