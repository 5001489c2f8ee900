use Rattle.std.proofs.Common.{◌≡◌, ◌++◌, None, sym, ap, ◌∙◌}
use Rattle.std.specs.Option.{option_copied}
use Rattle.route_table.specs.Due.{first_where}
use Rattle.route_table.specs.Summary.{meets, may_meet}
use Rattle.route_table.specs.Trie.{linked, owned, fork_entries}
use Rattle.route_table.proofs.TrieSummary.{nothing_wanted}
use Rattle.route_table.proofs.TrieWalk.{in_first, in_second}
use Rattle.route_table.proofs.trie.+first.Goals as goal

pub returns-then-not-may_be_in : goal.returns-then-not-may_be_in
returns-then-not-may_be_in t c =
    let f = c.fork.inside in
    let w = c.args.wanted in
    let whole : fork_entries f.own f.low f.high ≡ linked c.args.node.now = c.fork.view_is ∙ c.deref-fork.ensures ∙ sym (ap linked c.in-Fork.is) in
    sym (nothing_wanted w None (fork_entries f.own f.low f.high) (ap (may_meet w) (sym c.fork.invariant.summed) ∙ sym c.may_be_in.ensures ∙ c.if-not-may_be_in.true))
    ∙ ap (first_where (meets w) None) whole

pub returns-in-Some-first : goal.returns-in-Some-first
returns-in-Some-first t c =
    let f = c.fork.inside in
    let w = c.args.wanted in
    let whole : fork_entries f.own f.low f.high ≡ linked c.args.node.now = c.fork.view_is ∙ c.deref-fork.ensures ∙ sym (ap linked c.in-Fork.is) in
    in_first (meets w) None (linked f.low) (linked f.high) c.in-Some-first.entry.now (sym (ap option_copied c.in-Some-first.is) ∙ c.first.ensures)
    ∙ in_second (meets w) None (owned f.own) (linked f.low ++ linked f.high) (sym (ap option_copied c.in_default.is) ∙ c.wanted_own.ensures)
    ∙ ap (first_where (meets w) None) whole

pub returns-in-None : goal.returns-in-None
returns-in-None t c =
    let f = c.fork.inside in
    let w = c.args.wanted in
    let whole : fork_entries f.own f.low f.high ≡ linked c.args.node.now = c.fork.view_is ∙ c.deref-fork.ensures ∙ sym (ap linked c.in-Fork.is) in
    c.first-in-None.ensures
    ∙ in_second (meets w) None (linked f.low) (linked f.high) (sym (ap option_copied c.in-None.is) ∙ c.first.ensures)
    ∙ in_second (meets w) None (owned f.own) (linked f.low ++ linked f.high) (sym (ap option_copied c.in_default.is) ∙ c.wanted_own.ensures)
    ∙ ap (first_where (meets w) None) whole
