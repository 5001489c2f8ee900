use Rattle.std.proofs.Common.{◌<◌, ◌≤◌, sym, ap, subst, ◌∙◌}
use Rattle.prefix6.specs.Prefix.{IsPrefix}
use Rattle.prefix6.specs.Halves.{IsMeet, middle}
use Rattle.route_table.specs.Trie.{linked}
use Rattle.route_table.proofs.TrieLists.{Entry, same_prefix, other_prefix, not_lower}
use Rattle.route_table.proofs.TrieAdd.{above_low, above_low_parts, above_high, above_high_parts, beside_low, beside_low_parts, beside_high, beside_high_parts}
use Rattle.route_table.proofs.trie.changing.add_over.Goals as goal

pub closed-requires-clause-parts : goal.closed-requires-clause-parts
closed-requires-clause-parts c =
    let m = c.meet-meet.result in
    let e = c.deref.ensures in
    let meet = subst (λ (x : Entry). IsMeet c.args.prefix.now x.0 m) e c.meet-meet.ensures.meet in
    let is = subst (λ (x : Entry). IsPrefix x.0) e c.meet-meet.ensures.second in
    above_low_parts c.args.prefix.now c.args.leaf.value.0 c.args.leaf.value.1 (linked c.args.below) c.requires.entries m meet c.meet-meet.ensures.first is c.requires.other c.requires.outside (same_prefix c.deref.result.now.0 m c.if-eq.ensures ∙ ap (λ (x : Entry). x.0) e) (c.is_before_middle.ensures.0 c.if-is_before_middle.true)

pub closed-requires-else-is_before_middle-clause-parts : goal.closed-requires-else-is_before_middle-clause-parts
closed-requires-else-is_before_middle-clause-parts c =
    let m = c.meet-meet.result in
    let e = c.deref.ensures in
    let meet = subst (λ (x : Entry). IsMeet c.args.prefix.now x.0 m) e c.meet-meet.ensures.meet in
    let is = subst (λ (x : Entry). IsPrefix x.0) e c.meet-meet.ensures.second in
    above_high_parts c.args.prefix.now c.args.leaf.value.0 c.args.leaf.value.1 (linked c.args.below) c.requires.entries m meet c.meet-meet.ensures.first is c.requires.other c.requires.outside (same_prefix c.deref.result.now.0 m c.if-eq.ensures ∙ ap (λ (x : Entry). x.0) e) (not_lower c.is_before_middle.result _ _ c.if-is_before_middle.false c.is_before_middle.ensures.1)

pub returns-then-is_before_middle-clause-put : goal.returns-then-is_before_middle-clause-put
returns-then-is_before_middle-clause-put c =
    let m = c.meet-meet.result in
    let e = c.deref.ensures in
    let meet = subst (λ (x : Entry). IsMeet c.args.prefix.now x.0 m) e c.meet-meet.ensures.meet in
    let is = subst (λ (x : Entry). IsPrefix x.0) e c.meet-meet.ensures.second in
    c.closed.ensures.kept ∙ above_low c.args.prefix.now c.args.leaf.value.0 c.args.leaf.value.1 (linked c.args.below) c.requires.entries m meet c.meet-meet.ensures.first is c.requires.other c.requires.outside (same_prefix c.deref.result.now.0 m c.if-eq.ensures ∙ ap (λ (x : Entry). x.0) e) (c.is_before_middle.ensures.0 c.if-is_before_middle.true)

pub returns-else-is_before_middle-clause-put : goal.returns-else-is_before_middle-clause-put
returns-else-is_before_middle-clause-put c =
    let m = c.meet-meet.result in
    let e = c.deref.ensures in
    let meet = subst (λ (x : Entry). IsMeet c.args.prefix.now x.0 m) e c.meet-meet.ensures.meet in
    let is = subst (λ (x : Entry). IsPrefix x.0) e c.meet-meet.ensures.second in
    c.closed-else-is_before_middle.ensures.kept ∙ above_high c.args.prefix.now c.args.leaf.value.0 c.args.leaf.value.1 (linked c.args.below) c.requires.entries m meet c.meet-meet.ensures.first is c.requires.other c.requires.outside (same_prefix c.deref.result.now.0 m c.if-eq.ensures ∙ ap (λ (x : Entry). x.0) e) (not_lower c.is_before_middle.result _ _ c.if-is_before_middle.false c.is_before_middle.ensures.1)

pub closed-requires-then-is_before_middle-2-clause-parts : goal.closed-requires-then-is_before_middle-2-clause-parts
closed-requires-then-is_before_middle-2-clause-parts c =
    let m = c.meet-meet.result in
    let e = c.deref.ensures in
    let meet = subst (λ (x : Entry). IsMeet c.args.prefix.now x.0 m) e c.meet-meet.ensures.meet in
    let is = subst (λ (x : Entry). IsPrefix x.0) e c.meet-meet.ensures.second in
    beside_low_parts c.args.prefix.now c.args.leaf.value.0 c.args.leaf.value.1 (linked c.args.below) c.requires.entries m meet c.meet-meet.ensures.first is c.requires.other c.requires.outside (λ d. other_prefix c.deref.result.now.0 m c.if-eq.ensures (ap (λ (x : Entry). x.0) e ∙ sym d)) (subst (λ (x : Entry). x.0.addr < middle m) e (c.is_before_middle-else-eq.ensures.0 c.if-is_before_middle-2.true))

pub closed-requires-else-is_before_middle-2-clause-parts : goal.closed-requires-else-is_before_middle-2-clause-parts
closed-requires-else-is_before_middle-2-clause-parts c =
    let m = c.meet-meet.result in
    let e = c.deref.ensures in
    let meet = subst (λ (x : Entry). IsMeet c.args.prefix.now x.0 m) e c.meet-meet.ensures.meet in
    let is = subst (λ (x : Entry). IsPrefix x.0) e c.meet-meet.ensures.second in
    beside_high_parts c.args.prefix.now c.args.leaf.value.0 c.args.leaf.value.1 (linked c.args.below) c.requires.entries m meet c.meet-meet.ensures.first is c.requires.other c.requires.outside (λ d. other_prefix c.deref.result.now.0 m c.if-eq.ensures (ap (λ (x : Entry). x.0) e ∙ sym d)) (subst (λ (x : Entry). middle m ≤ x.0.addr) e (not_lower c.is_before_middle-else-eq.result _ _ c.if-is_before_middle-2.false c.is_before_middle-else-eq.ensures.1))

pub returns-then-is_before_middle-2-clause-put : goal.returns-then-is_before_middle-2-clause-put
returns-then-is_before_middle-2-clause-put c =
    let m = c.meet-meet.result in
    let e = c.deref.ensures in
    let meet = subst (λ (x : Entry). IsMeet c.args.prefix.now x.0 m) e c.meet-meet.ensures.meet in
    let is = subst (λ (x : Entry). IsPrefix x.0) e c.meet-meet.ensures.second in
    c.closed-then-is_before_middle-2.ensures.kept ∙ beside_low c.args.prefix.now c.args.leaf.value.0 c.args.leaf.value.1 (linked c.args.below) c.requires.entries m meet c.meet-meet.ensures.first is c.requires.other c.requires.outside (λ d. other_prefix c.deref.result.now.0 m c.if-eq.ensures (ap (λ (x : Entry). x.0) e ∙ sym d)) (subst (λ (x : Entry). x.0.addr < middle m) e (c.is_before_middle-else-eq.ensures.0 c.if-is_before_middle-2.true))

pub returns-else-is_before_middle-2-clause-put : goal.returns-else-is_before_middle-2-clause-put
returns-else-is_before_middle-2-clause-put c =
    let m = c.meet-meet.result in
    let e = c.deref.ensures in
    let meet = subst (λ (x : Entry). IsMeet c.args.prefix.now x.0 m) e c.meet-meet.ensures.meet in
    let is = subst (λ (x : Entry). IsPrefix x.0) e c.meet-meet.ensures.second in
    c.closed-else-is_before_middle-2.ensures.kept ∙ beside_high c.args.prefix.now c.args.leaf.value.0 c.args.leaf.value.1 (linked c.args.below) c.requires.entries m meet c.meet-meet.ensures.first is c.requires.other c.requires.outside (λ d. other_prefix c.deref.result.now.0 m c.if-eq.ensures (ap (λ (x : Entry). x.0) e ∙ sym d)) (subst (λ (x : Entry). middle m ≤ x.0.addr) e (not_lower c.is_before_middle-else-eq.result _ _ c.if-is_before_middle-2.false c.is_before_middle-else-eq.ensures.1))
