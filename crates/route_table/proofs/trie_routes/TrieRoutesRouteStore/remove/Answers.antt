use Rattle.std.proofs.Common.{◌≡◌, sym, ap, ◌∙◌}
use Rattle.route_table.specs.Trie.{linked, without}
use Rattle.route_table.proofs.SortedTable.{table_without}
use Rattle.route_table.proofs.TrieTable.{some_left, removed}
use Rattle.route_table.proofs.trie_routes.TrieRoutesRouteStore.remove.Goals as goal

pub overflow_sub-self : goal.overflow_sub-self
overflow_sub-self c =
    let n = c.self.inside in
    some_left n.count n.root c.self.invariant c.args.self.now c.self.view_is c.args.prefix.now c.requires.present

pub invariant_of-self : goal.invariant_of-self
invariant_of-self c =
    let n = c.self.inside in
    let kept : linked c.remove.result ≡ without c.args.prefix.now (linked n.root) = c.remove.ensures.kept ∙ ap (λ l. without c.args.prefix.now (linked l)) c.replace-root.ensures.value in
    removed n.count n.root c.self.invariant c.args.self.now c.self.view_is c.args.prefix.now c.remove.result c.requires.present c.remove.ensures.some kept

pub returns : goal.returns
returns c =
    let n = c.self.inside in
    let kept : linked c.remove.result ≡ without c.args.prefix.now (linked n.root) = c.remove.ensures.kept ∙ ap (λ l. without c.args.prefix.now (linked l)) c.replace-root.ensures.value in
    table_without (linked n.root) c.self.invariant.sorted c.args.self.now c.self.view_is c.args.prefix.now _ (sym kept)
