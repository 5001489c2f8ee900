use Rattle.std.proofs.Common.{◌≡◌, sym, ap, ◌∙◌}
use Rattle.route_table.specs.Trie.{linked, owned, fork_entries, without}
use Rattle.route_table.proofs.TrieLists.{same_prefix, other_prefix, not_lower}
use Rattle.route_table.proofs.TrieParts.{own_goes, low_goes, high_goes, parts_low, parts_high}
use Rattle.route_table.proofs.trie.changing.+remove.Goals as goal

pub closed-requires-then-is_before_middle-clause-parts : goal.closed-requires-then-is_before_middle-clause-parts
closed-requires-then-is_before_middle-clause-parts t c =
    let f = c.prefix.inside in
    let k = c.args.key.now in
    parts_low f.prefix (owned f.own) (linked f.low) (linked f.high) c.prefix.invariant.parts k (other_prefix f.prefix k c.if-eq-2.ensures) (c.is_before_middle.ensures.0 c.if-is_before_middle.true) (linked c.remove.result) c.remove.ensures.kept

pub closed-requires-else-is_before_middle-clause-parts : goal.closed-requires-else-is_before_middle-clause-parts
closed-requires-else-is_before_middle-clause-parts t c =
    let f = c.prefix.inside in
    let k = c.args.key.now in
    parts_high f.prefix (owned f.own) (linked f.low) (linked f.high) c.prefix.invariant.parts k (other_prefix f.prefix k c.if-eq-2.ensures) (not_lower c.is_before_middle.result _ _ c.if-is_before_middle.false c.is_before_middle.ensures.1) (linked c.remove-else-is_before_middle.result) c.remove-else-is_before_middle.ensures.kept

pub returns-then-eq-2-clause-kept : goal.returns-then-eq-2-clause-kept
returns-then-eq-2-clause-kept t c =
    let f = c.prefix.inside in
    let k = c.args.key.now in
    let whole : fork_entries f.own f.low f.high ≡ linked c.args.node = c.prefix.view_is ∙ c.replace.ensures.value ∙ c.deref_mut.ensures.value ∙ sym (ap linked c.in-Fork.is) in
    c.closed.ensures.kept ∙ own_goes f.prefix (owned f.own) (linked f.low) (linked f.high) c.prefix.invariant.parts k (same_prefix f.prefix k c.if-eq-2.ensures) ∙ ap (without k) whole

pub returns-then-is_before_middle-clause-kept : goal.returns-then-is_before_middle-clause-kept
returns-then-is_before_middle-clause-kept t c =
    let f = c.prefix.inside in
    let k = c.args.key.now in
    let whole : fork_entries f.own f.low f.high ≡ linked c.args.node = c.prefix.view_is ∙ c.replace.ensures.value ∙ c.deref_mut.ensures.value ∙ sym (ap linked c.in-Fork.is) in
    c.closed-then-is_before_middle.ensures.kept
    ∙ low_goes f.prefix (owned f.own) (linked f.low) (linked f.high) c.prefix.invariant.parts k (other_prefix f.prefix k c.if-eq-2.ensures) (c.is_before_middle.ensures.0 c.if-is_before_middle.true) (linked c.remove.result) c.remove.ensures.kept
    ∙ ap (without k) whole

pub returns-else-is_before_middle-clause-kept : goal.returns-else-is_before_middle-clause-kept
returns-else-is_before_middle-clause-kept t c =
    let f = c.prefix.inside in
    let k = c.args.key.now in
    let whole : fork_entries f.own f.low f.high ≡ linked c.args.node = c.prefix.view_is ∙ c.replace.ensures.value ∙ c.deref_mut.ensures.value ∙ sym (ap linked c.in-Fork.is) in
    c.closed-else-is_before_middle.ensures.kept
    ∙ high_goes f.prefix (owned f.own) (linked f.low) (linked f.high) c.prefix.invariant.parts k (other_prefix f.prefix k c.if-eq-2.ensures) (not_lower c.is_before_middle.result _ _ c.if-is_before_middle.false c.is_before_middle.ensures.1) (linked c.remove-else-is_before_middle.result) c.remove-else-is_before_middle.ensures.kept
    ∙ ap (without k) whole
