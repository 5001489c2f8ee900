use Rattle.std.proofs.Common.{◌≡◌, ◌≤◌, sym, ap, ◌∙◌, arith}
use Rattle.std.specs.FinMap.{find}
use Rattle.prefix6.specs.Prefix.{prefix_cmp}
use Rattle.route_table.specs.Trie.{linked, owned, fork_entries}
use Rattle.route_table.proofs.TrieLists.{not_lower}
use Rattle.route_table.proofs.TrieParts.{find_short, longer_other, find_low, find_high}
use Rattle.route_table.proofs.trie.+seek.Goals as goal

pub returns-then-len : goal.returns-then-len
returns-then-len t c =
    let f = c.fork.inside in
    let k = c.args.key.now in
    let whole : fork_entries f.own f.low f.high ≡ linked c.args.node.now = c.fork.view_is ∙ c.deref-fork.ensures ∙ sym (ap linked c.in-Fork.is) in
    let short : k.len ≤ f.prefix.len = omega (arith, c.if-len.true, c.len.ensures.value, c.len-in-Fork.ensures.value) in
    c.at_own.ensures ∙ find_short f.prefix (owned f.own) (linked f.low) (linked f.high) c.fork.invariant.parts k short
    ∙ ap (find prefix_cmp k) whole

pub returns-then-is_before_middle : goal.returns-then-is_before_middle
returns-then-is_before_middle t c =
    let f = c.fork.inside in
    let k = c.args.key.now in
    let whole : fork_entries f.own f.low f.high ≡ linked c.args.node.now = c.fork.view_is ∙ c.deref-fork.ensures ∙ sym (ap linked c.in-Fork.is) in
    c.seek.ensures
    ∙ find_low f.prefix (owned f.own) (linked f.low) (linked f.high) c.fork.invariant.parts k (longer_other f.prefix k (omega (arith, c.if-len.false, c.len.ensures.value, c.len-in-Fork.ensures.value))) (c.is_before_middle.ensures.0 c.if-is_before_middle.true)
    ∙ ap (find prefix_cmp k) whole

pub returns-else-is_before_middle : goal.returns-else-is_before_middle
returns-else-is_before_middle t c =
    let f = c.fork.inside in
    let k = c.args.key.now in
    let whole : fork_entries f.own f.low f.high ≡ linked c.args.node.now = c.fork.view_is ∙ c.deref-fork.ensures ∙ sym (ap linked c.in-Fork.is) in
    c.seek-else-is_before_middle.ensures
    ∙ find_high f.prefix (owned f.own) (linked f.low) (linked f.high) c.fork.invariant.parts k (longer_other f.prefix k (omega (arith, c.if-len.false, c.len.ensures.value, c.len-in-Fork.ensures.value))) (not_lower c.is_before_middle.result _ _ c.if-is_before_middle.false c.is_before_middle.ensures.1)
    ∙ ap (find prefix_cmp k) whole
