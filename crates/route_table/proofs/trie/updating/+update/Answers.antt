use Rattle.std.proofs.Common.{◌≡◌, ◌<◌, sym, ap, subst, ◌∙◌, length, arith}
use Rattle.std.specs.FinMap.{find}
use Rattle.prefix6.specs.Prefix.{prefix_cmp}
use Rattle.route_table.specs.Trie.{linked, fork_entries, entries_with, HasEntries}
use Rattle.route_table.proofs.TrieLists.{not_lower}
use Rattle.route_table.proofs.TrieUpdate.{own_same, low_same, high_same, own_before, own_after, own_fork, fewer_low, low_before, low_after, low_fork, fewer_high, high_before, high_after, high_fork}
use Rattle.route_table.proofs.trie.updating.+update.Goals as goal

pub invariant_of-fork : goal.invariant_of-fork
invariant_of-fork g t c =
    let f = c.fork.inside in
    let k = c.args.key.now in
    let whole : linked c.args.node.now ≡ fork_entries f.own f.low f.high = ap linked c.in-Fork.is ∙ sym (c.fork.view_is ∙ c.deref_mut-fork.ensures.value) in
    own_fork f.prefix f.summary f.own f.low f.high c.fork.invariant k c.update_own-changed.new.made c.update_own-changed.ensures.before c.update_own-changed.new.own c.update_own-changed.ensures.after _ c.renew.ensures.summed

pub returns-then-len-clause-before : goal.returns-then-len-clause-before
returns-then-len-clause-before g t c =
    let f = c.fork.inside in
    let k = c.args.key.now in
    let whole : linked c.args.node.now ≡ fork_entries f.own f.low f.high = ap linked c.in-Fork.is ∙ sym (c.fork.view_is ∙ c.deref_mut-fork.ensures.value) in
    own_before f.prefix f.summary f.own f.low f.high c.fork.invariant k c.update_own-changed.new.made c.update_own-changed.ensures.before c.update_own-changed.new.own c.update_own-changed.ensures.after (omega (arith, c.if-len.true, c.len.ensures.value, c.len-in-Fork.ensures.value)) ∙ ap (find prefix_cmp k) (sym whole)

pub returns-then-len-clause-after : goal.returns-then-len-clause-after
returns-then-len-clause-after g t c =
    let f = c.fork.inside in
    let k = c.args.key.now in
    let whole : linked c.args.node.now ≡ fork_entries f.own f.low f.high = ap linked c.in-Fork.is ∙ sym (c.fork.view_is ∙ c.deref_mut-fork.ensures.value) in
    own_after f.prefix f.summary f.own f.low f.high c.fork.invariant k c.update_own-changed.new.made c.update_own-changed.ensures.before c.update_own-changed.new.own c.update_own-changed.ensures.after ∙ ap (entries_with k c.update_own-changed.new.made) (sym whole)

pub update-changed-requires : goal.update-changed-requires
update-changed-requires g t c =
    let f = c.fork.inside in
    let k = c.args.key.now in
    let whole : linked c.args.node.now ≡ fork_entries f.own f.low f.high = ap linked c.in-Fork.is ∙ sym (c.fork.view_is ∙ c.deref_mut-fork.ensures.value) in
    λ κs within. (omega (arith, c.decreases, ap length whole, fewer_low f.prefix f.summary f.own f.low f.high c.fork.invariant (subst (λ l. 0 < length l) (sym (c.fork.view_is ∙ c.deref_mut-fork.ensures.value)) (subst HasEntries c.in-Fork.is c.requires.some))), (within, (c.requires.callable, (c.requires.untold, c.fork.invariant.low_some))))

pub invariant_of-fork-then-is_before_middle : goal.invariant_of-fork-then-is_before_middle
invariant_of-fork-then-is_before_middle g t c =
    let f = c.fork.inside in
    let k = c.args.key.now in
    let whole : linked c.args.node.now ≡ fork_entries f.own f.low f.high = ap linked c.in-Fork.is ∙ sym (c.fork.view_is ∙ c.deref_mut-fork.ensures.value) in
    low_fork f.prefix f.summary f.own f.low f.high c.fork.invariant k c.update-changed.new.made c.update-changed.ensures.before c.update-changed.new.node c.update-changed.ensures.after c.update-changed.ensures.some _ c.renew-then-is_before_middle.ensures.summed

pub returns-then-is_before_middle-clause-before : goal.returns-then-is_before_middle-clause-before
returns-then-is_before_middle-clause-before g t c =
    let f = c.fork.inside in
    let k = c.args.key.now in
    let whole : linked c.args.node.now ≡ fork_entries f.own f.low f.high = ap linked c.in-Fork.is ∙ sym (c.fork.view_is ∙ c.deref_mut-fork.ensures.value) in
    low_before f.prefix f.summary f.own f.low f.high c.fork.invariant k c.update-changed.new.made c.update-changed.ensures.before c.update-changed.new.node c.update-changed.ensures.after (omega (arith, c.if-len.false, c.len.ensures.value, c.len-in-Fork.ensures.value)) (c.is_before_middle.ensures.0 c.if-is_before_middle.true) ∙ ap (find prefix_cmp k) (sym whole)

pub returns-then-is_before_middle-clause-after : goal.returns-then-is_before_middle-clause-after
returns-then-is_before_middle-clause-after g t c =
    let f = c.fork.inside in
    let k = c.args.key.now in
    let whole : linked c.args.node.now ≡ fork_entries f.own f.low f.high = ap linked c.in-Fork.is ∙ sym (c.fork.view_is ∙ c.deref_mut-fork.ensures.value) in
    low_after f.prefix f.summary f.own f.low f.high c.fork.invariant k c.update-changed.new.made c.update-changed.ensures.before c.update-changed.new.node c.update-changed.ensures.after ∙ ap (entries_with k c.update-changed.new.made) (sym whole)

pub update-changed-requires-else-is_before_middle : goal.update-changed-requires-else-is_before_middle
update-changed-requires-else-is_before_middle g t c =
    let f = c.fork.inside in
    let k = c.args.key.now in
    let whole : linked c.args.node.now ≡ fork_entries f.own f.low f.high = ap linked c.in-Fork.is ∙ sym (c.fork.view_is ∙ c.deref_mut-fork.ensures.value) in
    λ κs within. (omega (arith, c.decreases, ap length whole, fewer_high f.prefix f.summary f.own f.low f.high c.fork.invariant (subst (λ l. 0 < length l) (sym (c.fork.view_is ∙ c.deref_mut-fork.ensures.value)) (subst HasEntries c.in-Fork.is c.requires.some))), (within, (c.requires.callable, (c.requires.untold, c.fork.invariant.high_some))))

pub invariant_of-fork-else-is_before_middle : goal.invariant_of-fork-else-is_before_middle
invariant_of-fork-else-is_before_middle g t c =
    let f = c.fork.inside in
    let k = c.args.key.now in
    let whole : linked c.args.node.now ≡ fork_entries f.own f.low f.high = ap linked c.in-Fork.is ∙ sym (c.fork.view_is ∙ c.deref_mut-fork.ensures.value) in
    high_fork f.prefix f.summary f.own f.low f.high c.fork.invariant k c.update-changed-else-is_before_middle.new.made c.update-changed-else-is_before_middle.ensures.before c.update-changed-else-is_before_middle.new.node c.update-changed-else-is_before_middle.ensures.after c.update-changed-else-is_before_middle.ensures.some _ c.renew-else-is_before_middle.ensures.summed

pub returns-else-is_before_middle-clause-before : goal.returns-else-is_before_middle-clause-before
returns-else-is_before_middle-clause-before g t c =
    let f = c.fork.inside in
    let k = c.args.key.now in
    let whole : linked c.args.node.now ≡ fork_entries f.own f.low f.high = ap linked c.in-Fork.is ∙ sym (c.fork.view_is ∙ c.deref_mut-fork.ensures.value) in
    high_before f.prefix f.summary f.own f.low f.high c.fork.invariant k c.update-changed-else-is_before_middle.new.made c.update-changed-else-is_before_middle.ensures.before c.update-changed-else-is_before_middle.new.node c.update-changed-else-is_before_middle.ensures.after (omega (arith, c.if-len.false, c.len.ensures.value, c.len-in-Fork.ensures.value)) (not_lower c.is_before_middle.result _ _ c.if-is_before_middle.false c.is_before_middle.ensures.1) ∙ ap (find prefix_cmp k) (sym whole)

pub returns-else-is_before_middle-clause-after : goal.returns-else-is_before_middle-clause-after
returns-else-is_before_middle-clause-after g t c =
    let f = c.fork.inside in
    let k = c.args.key.now in
    let whole : linked c.args.node.now ≡ fork_entries f.own f.low f.high = ap linked c.in-Fork.is ∙ sym (c.fork.view_is ∙ c.deref_mut-fork.ensures.value) in
    high_after f.prefix f.summary f.own f.low f.high c.fork.invariant k c.update-changed-else-is_before_middle.new.made c.update-changed-else-is_before_middle.ensures.before c.update-changed-else-is_before_middle.new.node c.update-changed-else-is_before_middle.ensures.after ∙ ap (entries_with k c.update-changed-else-is_before_middle.new.made) (sym whole)

pub renew-requires : goal.renew-requires
renew-requires g t c = λ same.
    let f = c.fork.inside in
    c.fork.invariant.summed ∙ sym (own_same f.own _ f.low f.high (c.update_own-changed.ensures.kept same))

pub renew-requires-then-is_before_middle : goal.renew-requires-then-is_before_middle
renew-requires-then-is_before_middle g t c = λ same.
    let f = c.fork.inside in
    c.fork.invariant.summed ∙ sym (low_same f.own f.low c.update-changed.new.node f.high (c.update-changed.ensures.kept same))

pub renew-requires-else-is_before_middle : goal.renew-requires-else-is_before_middle
renew-requires-else-is_before_middle g t c = λ same.
    let f = c.fork.inside in
    c.fork.invariant.summed ∙ sym (high_same f.own f.low f.high c.update-changed-else-is_before_middle.new.node (c.update-changed-else-is_before_middle.ensures.kept same))
