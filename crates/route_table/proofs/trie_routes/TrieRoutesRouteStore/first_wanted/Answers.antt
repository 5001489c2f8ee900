use Rattle.std.proofs.Common.{Some, None, sym, ap, ◌∙◌}
use Rattle.route_table.specs.Due.{first_where}
use Rattle.route_table.specs.Summary.{meets}
use Rattle.route_table.specs.Trie.{linked}
use Rattle.route_table.proofs.SortedTable.{entries_are}
use Rattle.route_table.proofs.trie_routes.TrieRoutesRouteStore.first_wanted.Goals as goal

pub returns-in-None : goal.returns-in-None
returns-in-None c =
    let n = c.self.inside in
    rw c.in-None.is (c.copied.ensures ∙ c.first.ensures ∙ ap (first_where (meets c.args.wanted) None) (sym (entries_are (linked n.root) c.self.invariant.sorted c.args.self.now c.self.view_is)))

pub returns-in-Some : goal.returns-in-Some
returns-in-Some c =
    let n = c.self.inside in
    rw c.in-Some.is (c.copied-in-Some.ensures ∙ c.first_past.ensures ∙ ap (first_where (meets c.args.wanted) (Some c.in-Some.after)) (sym (entries_are (linked n.root) c.self.invariant.sorted c.args.self.now c.self.view_is)))
