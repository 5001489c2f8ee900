use Rattle.std.proofs.Common.{◌≡◌, false, Some, None, sym, ap, ◌∙◌}
use Rattle.std.specs.Option.{option_copied}
use Rattle.route_table.specs.Table.{is_past}
use Rattle.route_table.specs.Due.{first_where}
use Rattle.route_table.specs.Summary.{meets, may_meet}
use Rattle.route_table.specs.Trie.{linked, owned, fork_entries}
use Rattle.route_table.proofs.TrieLists.{not_lower}
use Rattle.route_table.proofs.TrieSummary.{nothing_wanted}
use Rattle.route_table.proofs.TrieWalk.{less_is, past_none, past_lower, in_lower, past_lower_half}
use Rattle.route_table.proofs.trie.+first_past.Goals as goal

pub returns-then-not-may_be_in : goal.returns-then-not-may_be_in
returns-then-not-may_be_in t c =
    let f = c.fork.inside in
    let w = c.args.wanted in
    let whole : fork_entries f.own f.low f.high ≡ linked c.args.node.now = c.fork.view_is ∙ c.deref-fork.ensures ∙ sym (ap linked c.in-Fork.is) in
    sym (nothing_wanted w (Some c.args.after.now) (fork_entries f.own f.low f.high) (ap (may_meet w) (sym c.fork.invariant.summed) ∙ sym c.may_be_in.ensures ∙ c.if-not-may_be_in.true))
    ∙ ap (first_where (meets w) (Some c.args.after.now)) whole

pub returns-then-lt-2 : goal.returns-then-lt-2
returns-then-lt-2 t c =
    let f = c.fork.inside in
    let w = c.args.wanted in
    let a = c.args.after.now in
    let whole : fork_entries f.own f.low f.high ≡ linked c.args.node.now = c.fork.view_is ∙ c.deref-fork.ensures ∙ sym (ap linked c.in-Fork.is) in
    c.first.ensures
    ∙ ap (first_where (meets w) None) (sym whole)
    ∙ past_none (meets w) f.prefix (owned f.own) (linked f.low) (linked f.high) c.fork.invariant.parts a (sym (less_is a f.prefix) ∙ sym c.lt-in-Fork.ensures ∙ c.if-lt-2.true)
    ∙ ap (first_where (meets w) (Some a)) whole

pub returns-then-not-is_before_middle : goal.returns-then-not-is_before_middle
returns-then-not-is_before_middle t c =
    let f = c.fork.inside in
    let w = c.args.wanted in
    let a = c.args.after.now in
    let whole : fork_entries f.own f.low f.high ≡ linked c.args.node.now = c.fork.view_is ∙ c.deref-fork.ensures ∙ sym (ap linked c.in-Fork.is) in
    let not_before : is_past (Some a) f.prefix ≡ false = sym (less_is a f.prefix) ∙ sym c.lt-in-Fork.ensures ∙ c.if-lt-2.false in
    c.first_past.ensures
    ∙ past_lower (meets w) f.prefix (owned f.own) (linked f.low) (linked f.high) c.fork.invariant.parts a not_before (not_lower c.is_before_middle.result _ _ c.if-not-is_before_middle.true c.is_before_middle.ensures.1)
    ∙ ap (first_where (meets w) (Some a)) whole

pub returns-in-Some : goal.returns-in-Some
returns-in-Some t c =
    let f = c.fork.inside in
    let w = c.args.wanted in
    let a = c.args.after.now in
    let whole : fork_entries f.own f.low f.high ≡ linked c.args.node.now = c.fork.view_is ∙ c.deref-fork.ensures ∙ sym (ap linked c.in-Fork.is) in
    let not_before : is_past (Some a) f.prefix ≡ false = sym (less_is a f.prefix) ∙ sym c.lt-in-Fork.ensures ∙ c.if-lt-2.false in
    in_lower (meets w) f.prefix (owned f.own) (linked f.low) (linked f.high) c.fork.invariant.parts a not_before c.in-Some.entry.now (sym (ap option_copied c.in-Some.is) ∙ c.first_past-in-Fork.ensures)
    ∙ ap (first_where (meets w) (Some a)) whole

pub returns-in-None : goal.returns-in-None
returns-in-None t c =
    let f = c.fork.inside in
    let w = c.args.wanted in
    let a = c.args.after.now in
    let whole : fork_entries f.own f.low f.high ≡ linked c.args.node.now = c.fork.view_is ∙ c.deref-fork.ensures ∙ sym (ap linked c.in-Fork.is) in
    let not_before : is_past (Some a) f.prefix ≡ false = sym (less_is a f.prefix) ∙ sym c.lt-in-Fork.ensures ∙ c.if-lt-2.false in
    c.first-in-None.ensures
    ∙ past_lower_half (meets w) f.prefix (owned f.own) (linked f.low) (linked f.high) c.fork.invariant.parts a not_before (c.is_before_middle.ensures.0 c.if-not-is_before_middle.false) (sym (ap option_copied c.in-None.is) ∙ c.first_past-in-Fork.ensures)
    ∙ ap (first_where (meets w) (Some a)) whole
