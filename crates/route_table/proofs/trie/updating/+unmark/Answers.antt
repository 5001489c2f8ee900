use Rattle.std.proofs.Common.{◌≡◌, ◌<◌, sym, ap, subst, ◌∙◌, length, arith}
use Rattle.route_table.specs.Due.{without_mark}
use Rattle.route_table.specs.Summary.{SummaryValue, summary_of}
use Rattle.route_table.specs.Table.{map_entries}
use Rattle.route_table.specs.Trie.{linked, fork_entries, HasEntries}
use Rattle.route_table.proofs.TrieMarks.{plain_length, plain_same, plain_whole, plain_fork}
use Rattle.route_table.proofs.TrieUpdate.{fewer_low, fewer_high}
use Rattle.route_table.proofs.trie.updating.+unmark.Goals as goal

pub unmark-requires : goal.unmark-requires
unmark-requires t c =
    let f = c.fork.inside in
    let whole : linked c.args.node.now ≡ fork_entries f.own f.low f.high = ap linked c.in-Fork.is ∙ sym (c.fork.view_is ∙ c.deref_mut-fork.ensures.value) in
    (omega (arith, c.decreases, ap length whole, fewer_low f.prefix f.summary f.own f.low f.high c.fork.invariant (subst (λ l. 0 < length l) (sym (c.fork.view_is ∙ c.deref_mut-fork.ensures.value)) (subst HasEntries c.in-Fork.is c.requires))), c.fork.invariant.low_some)

pub unmark-requires-then-has_changed : goal.unmark-requires-then-has_changed
unmark-requires-then-has_changed t c =
    let f = c.fork.inside in
    let whole : linked c.args.node.now ≡ fork_entries f.own f.low f.high = ap linked c.in-Fork.is ∙ sym (c.fork.view_is ∙ c.deref_mut-fork.ensures.value) in
    (omega (arith, c.decreases, ap length whole, fewer_high f.prefix f.summary f.own f.low f.high c.fork.invariant (subst (λ l. 0 < length l) (sym (c.fork.view_is ∙ c.deref_mut-fork.ensures.value)) (subst HasEntries c.in-Fork.is c.requires))), c.fork.invariant.high_some)

pub invariant_of-fork : goal.invariant_of-fork
invariant_of-fork t c =
    let f = c.fork.inside in
    let whole : linked c.args.node.now ≡ fork_entries f.own f.low f.high = ap linked c.in-Fork.is ∙ sym (c.fork.view_is ∙ c.deref_mut-fork.ensures.value) in
    plain_fork f.prefix f.summary f.own f.low f.high c.fork.invariant c.unmark_own.new.own c.unmark.new.node c.unmark-then-has_changed.new.node c.unmark_own.ensures c.unmark.ensures.unmarked c.unmark-then-has_changed.ensures.unmarked c.unmark.ensures.some c.unmark-then-has_changed.ensures.some _ c.without_mark-fork-inside.ensures

pub returns-then-has_changed-clause-unmarked : goal.returns-then-has_changed-clause-unmarked
returns-then-has_changed-clause-unmarked t c =
    let f = c.fork.inside in
    let whole : linked c.args.node.now ≡ fork_entries f.own f.low f.high = ap linked c.in-Fork.is ∙ sym (c.fork.view_is ∙ c.deref_mut-fork.ensures.value) in
    plain_whole f.prefix f.summary f.own f.low f.high c.fork.invariant c.unmark_own.new.own c.unmark.new.node c.unmark-then-has_changed.new.node c.unmark_own.ensures c.unmark.ensures.unmarked c.unmark-then-has_changed.ensures.unmarked ∙ ap (map_entries without_mark) (sym whole)

pub returns-else-has_changed-clause-unmarked : goal.returns-else-has_changed-clause-unmarked
returns-else-has_changed-clause-unmarked t c =
    let f = c.fork.inside in
    let whole : linked c.args.node.now ≡ fork_entries f.own f.low f.high = ap linked c.in-Fork.is ∙ sym (c.fork.view_is ∙ c.deref_mut-fork.ensures.value) in
    sym c.fork.view_is ∙ sym whole ∙ sym (plain_same (linked c.args.node.now) (ap (λ (s : SummaryValue). s.changed) (ap summary_of whole ∙ sym c.fork.invariant.summed) ∙ sym c.has_changed.ensures ∙ c.if-has_changed.false))

pub returns-then-has_changed-clause-some : goal.returns-then-has_changed-clause-some
returns-then-has_changed-clause-some t c =
    let f = c.fork.inside in
    let some : 0 < length (fork_entries f.own f.low f.high) = subst (λ l. 0 < length l) (sym (c.fork.view_is ∙ c.deref_mut-fork.ensures.value)) (subst HasEntries c.in-Fork.is c.requires) in
    subst (λ l. 0 < length l) (sym (plain_whole f.prefix f.summary f.own f.low f.high c.fork.invariant c.unmark_own.new.own c.unmark.new.node c.unmark-then-has_changed.new.node c.unmark_own.ensures c.unmark.ensures.unmarked c.unmark-then-has_changed.ensures.unmarked))
    (omega (arith, plain_length (fork_entries f.own f.low f.high), some))
