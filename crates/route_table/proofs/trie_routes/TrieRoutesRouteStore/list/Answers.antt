use Rattle.std.proofs.Common.{◌++◌, sym, ap, ◌∙◌, arith}
use Rattle.route_table.specs.Trie.{linked}
use Rattle.route_table.proofs.SortedTable.{len_is, entries_are}
use Rattle.route_table.proofs.trie_routes.TrieRoutesRouteStore.list.Goals as goal

pub list-requires : goal.list-requires
list-requires c =
    let n = c.self.inside in
    omega (arith, len_is (linked n.root) c.self.invariant.sorted c.args.self.now c.self.view_is, c.requires.room)

pub returns : goal.returns
returns c =
    let n = c.self.inside in
    c.list.ensures.items ∙ ap (λ l. c.args.out.now.items ++ l) (sym (entries_are (linked n.root) c.self.invariant.sorted c.args.self.now c.self.view_is))
