use Rattle.std.proofs.Common.{◌≡◌, ◌<◌, ◌≤◌, ◌++◌, length, sym, ap, subst, ◌∙◌}
use Rattle.std.specs.FinMap.Entries.{put}
use Rattle.prefix6.specs.Prefix.{prefix_cmp}
use Rattle.prefix6.specs.Halves.{IsUnder, middle}
use Rattle.prefix6.proofs.Parting.{under_low, under_high}
use Rattle.route_table.specs.Trie.{linked, owned, fork_entries, HasEntries, AreIn}
use Rattle.route_table.proofs.TrieLists.{Entry, same_prefix, not_lower}
use Rattle.route_table.proofs.TrieParts.{own_parts, put_own, low_parts, put_low, high_parts, put_high}
use Rattle.route_table.proofs.TrieAdd.{are_in}
use Rattle.route_table.proofs.trie.changing.+add.Goals as goal

pub closed-requires-clause-parts : goal.closed-requires-clause-parts
closed-requires-clause-parts t c =
    let f = c.prefix.inside in
    let k = c.args.leaf.value.0 in
    let v = c.args.leaf.value.1 in
    let e = c.deref.ensures in
    own_parts f.prefix f.own (linked f.low) (linked f.high) c.prefix.invariant.parts k v (sym (ap (λ (x : Entry). x.0) e) ∙ same_prefix f.prefix c.deref.result.now.0 c.if-eq.ensures)

pub add_over-requires-clause-entries : goal.add_over-requires-clause-entries
add_over-requires-clause-entries t c =
    let f = c.prefix.inside in
    let k = c.args.leaf.value.0 in
    let v = c.args.leaf.value.1 in
    let e = c.deref.ensures in
    subst (AreIn f.prefix) (sym c.closed-whole.ensures.kept) (are_in f.prefix (owned f.own) (linked f.low) (linked f.high) c.prefix.invariant.parts (subst (λ l. 0 < length l) (sym (c.prefix.view_is ∙ c.replace.ensures.value ∙ c.deref_mut.ensures.value)) (subst HasEntries c.in-Fork.is c.requires)))

pub closed-requires-then-is_before_middle-clause-parts : goal.closed-requires-then-is_before_middle-clause-parts
closed-requires-then-is_before_middle-clause-parts t c =
    let f = c.prefix.inside in
    let k = c.args.leaf.value.0 in
    let v = c.args.leaf.value.1 in
    let e = c.deref.ensures in
    low_parts f.prefix (owned f.own) (linked f.low) (linked f.high) c.prefix.invariant.parts k v (under_low f.prefix k (subst (λ (x : Entry). IsUnder f.prefix x.0) e (c.is_above.ensures.0 c.if-not-is_above.false)) (subst (λ (x : Entry). x.0.addr < middle f.prefix) e (c.is_before_middle.ensures.0 c.if-is_before_middle.true))) (linked c.add.result) c.add.ensures.put

pub closed-requires-else-is_before_middle-clause-parts : goal.closed-requires-else-is_before_middle-clause-parts
closed-requires-else-is_before_middle-clause-parts t c =
    let f = c.prefix.inside in
    let k = c.args.leaf.value.0 in
    let v = c.args.leaf.value.1 in
    let e = c.deref.ensures in
    high_parts f.prefix (owned f.own) (linked f.low) (linked f.high) c.prefix.invariant.parts k v (under_high f.prefix k (subst (λ (x : Entry). IsUnder f.prefix x.0) e (c.is_above.ensures.0 c.if-not-is_above.false)) (subst (λ (x : Entry). middle f.prefix ≤ x.0.addr) e (not_lower c.is_before_middle.result _ _ c.if-is_before_middle.false c.is_before_middle.ensures.1))) (linked c.add-else-is_before_middle.result) c.add-else-is_before_middle.ensures.put

pub returns-then-eq-clause-put : goal.returns-then-eq-clause-put
returns-then-eq-clause-put t c =
    let f = c.prefix.inside in
    let k = c.args.leaf.value.0 in
    let v = c.args.leaf.value.1 in
    let e = c.deref.ensures in
    let whole : fork_entries f.own f.low f.high ≡ linked c.args.node = c.prefix.view_is ∙ c.replace.ensures.value ∙ c.deref_mut.ensures.value ∙ sym (ap linked c.in-Fork.is) in
    c.closed.ensures.kept ∙ put_own f.prefix f.own (linked f.low) (linked f.high) c.prefix.invariant.parts k v (sym (ap (λ (x : Entry). x.0) e) ∙ same_prefix f.prefix c.deref.result.now.0 c.if-eq.ensures) ∙ ap (put prefix_cmp k v) whole

pub returns-then-is_before_middle-clause-put : goal.returns-then-is_before_middle-clause-put
returns-then-is_before_middle-clause-put t c =
    let f = c.prefix.inside in
    let k = c.args.leaf.value.0 in
    let v = c.args.leaf.value.1 in
    let e = c.deref.ensures in
    let whole : fork_entries f.own f.low f.high ≡ linked c.args.node = c.prefix.view_is ∙ c.replace.ensures.value ∙ c.deref_mut.ensures.value ∙ sym (ap linked c.in-Fork.is) in
    c.closed-then-is_before_middle.ensures.kept ∙ ap (λ l. owned f.own ++ (l ++ linked f.high)) c.add.ensures.put ∙ put_low f.prefix (owned f.own) (linked f.low) (linked f.high) c.prefix.invariant.parts k v (under_low f.prefix k (subst (λ (x : Entry). IsUnder f.prefix x.0) e (c.is_above.ensures.0 c.if-not-is_above.false)) (subst (λ (x : Entry). x.0.addr < middle f.prefix) e (c.is_before_middle.ensures.0 c.if-is_before_middle.true))) ∙ ap (put prefix_cmp k v) whole

pub returns-else-is_before_middle-clause-put : goal.returns-else-is_before_middle-clause-put
returns-else-is_before_middle-clause-put t c =
    let f = c.prefix.inside in
    let k = c.args.leaf.value.0 in
    let v = c.args.leaf.value.1 in
    let e = c.deref.ensures in
    let whole : fork_entries f.own f.low f.high ≡ linked c.args.node = c.prefix.view_is ∙ c.replace.ensures.value ∙ c.deref_mut.ensures.value ∙ sym (ap linked c.in-Fork.is) in
    c.closed-else-is_before_middle.ensures.kept ∙ ap (λ l. owned f.own ++ (linked f.low ++ l)) c.add-else-is_before_middle.ensures.put ∙ put_high f.prefix (owned f.own) (linked f.low) (linked f.high) c.prefix.invariant.parts k v (under_high f.prefix k (subst (λ (x : Entry). IsUnder f.prefix x.0) e (c.is_above.ensures.0 c.if-not-is_above.false)) (subst (λ (x : Entry). middle f.prefix ≤ x.0.addr) e (not_lower c.is_before_middle.result _ _ c.if-is_before_middle.false c.is_before_middle.ensures.1))) ∙ ap (put prefix_cmp k v) whole
