use Rattle.std.proofs.Common.{◌≡◌, sym, ap, refl, ◌∙◌, arith}
use Rattle.std.specs.FinMap.Entries.{put}
use Rattle.prefix6.specs.Prefix.{prefix_cmp}
use Rattle.route_table.specs.Trie.{linked}
use Rattle.route_table.proofs.SortedTable.{len_is, table_put}
use Rattle.route_table.proofs.TrieLists.{Entry}
use Rattle.route_table.proofs.TrieTable.{added}
use Rattle.route_table.proofs.trie_routes.TrieRoutesRouteStore.add.Goals as goal

pub returns-then-self-ge-TABLE_LIMIT-clause-full : goal.returns-then-self-ge-TABLE_LIMIT-clause-full
returns-then-self-ge-TABLE_LIMIT-clause-full c =
    let n = c.self.inside in
    let e = len_is (linked n.root) c.self.invariant.sorted c.args.self.now c.self.view_is in
    (λ _. omega (arith, e, c.self.invariant.counted), λ _. refl)

pub returns-in_default-clause-full : goal.returns-in_default-clause-full
returns-in_default-clause-full c =
    let n = c.self.inside in
    let e = len_is (linked n.root) c.self.invariant.sorted c.args.self.now c.self.view_is in
    (λ h. cc, λ h. absurd (omega (arith, e, c.self.invariant.counted, c.if-self-ge-TABLE_LIMIT.false)))

pub invariant_of-self : goal.invariant_of-self
invariant_of-self c =
    let n = c.self.inside in
    let put : linked c.add.result ≡ put prefix_cmp c.args.prefix c.args.route (linked n.root) = c.add.ensures.put ∙ ap (λ (x : Entry). put prefix_cmp x.0 x.1 (linked c.replace-root.result)) c.in-Ok.ensures ∙ ap (λ l. put prefix_cmp c.args.prefix c.args.route (linked l)) c.replace-root.ensures.value in
    added n.count n.root c.self.invariant c.args.self.now c.self.view_is c.args.prefix c.args.route c.add.result c.requires.absent c.if-self-ge-TABLE_LIMIT.false c.add.ensures.some put

pub returns-clause-ok : goal.returns-clause-ok
returns-clause-ok c =
    let n = c.self.inside in
    let put : linked c.add.result ≡ put prefix_cmp c.args.prefix c.args.route (linked n.root) = c.add.ensures.put ∙ ap (λ (x : Entry). put prefix_cmp x.0 x.1 (linked c.replace-root.result)) c.in-Ok.ensures ∙ ap (λ l. put prefix_cmp c.args.prefix c.args.route (linked l)) c.replace-root.ensures.value in
    table_put (linked n.root) c.self.invariant.sorted c.args.self.now c.self.view_is c.args.prefix c.args.route _ (sym put)

pub returns-clause-full : goal.returns-clause-full
returns-clause-full c =
    let n = c.self.inside in
    let e = len_is (linked n.root) c.self.invariant.sorted c.args.self.now c.self.view_is in
    (λ h. cc, λ h. absurd (omega (arith, e, c.self.invariant.counted, c.if-self-ge-TABLE_LIMIT.false)))
