use Rattle.std.proofs.Common.{◌∙◌, sym, refl, arith}
use Rattle.route_table.specs.Blocks.{joined}
use Rattle.route_table.proofs.BlockBounds.{covers_with}
use Rattle.route_table.proofs.SortedTable.{get_is, len_is, table_put}
use Rattle.route_table.proofs.SortedStore.{added}
use Rattle.route_table.proofs.sorted.SortedRoutesRouteStore.add.Goals as goal

pub returns-then-self-ge-TABLE_LIMIT-clause-full : goal.returns-then-self-ge-TABLE_LIMIT-clause-full
returns-then-self-ge-TABLE_LIMIT-clause-full c =
    let n = c.self.inside in
    let e = len_is (joined n.blocks.items) c.self.invariant.blocks.sorted c.args.self.now c.self.view_is in
    (λ _. omega (arith, e, c.self.invariant.counted), λ _. refl)

pub insert-requires-clause-absent : goal.insert-requires-clause-absent
insert-requires-clause-absent c = sym (get_is (joined c.self.inside.blocks.items) c.self.invariant.blocks.sorted c.args.self.now c.self.view_is c.args.prefix) ∙ c.requires.absent

pub returns-in_default-clause-full : goal.returns-in_default-clause-full
returns-in_default-clause-full c =
    let n = c.self.inside in
    let e = len_is (joined n.blocks.items) c.self.invariant.blocks.sorted c.args.self.now c.self.view_is in
    (λ h. cc, λ h. absurd (omega (arith, e, c.self.invariant.counted, c.if-self-ge-TABLE_LIMIT.false)))

pub invariant_of-self-2 : goal.invariant_of-self-2
invariant_of-self-2 c =
    let n = c.self.inside in
    added n.count n.bound n.blocks.items c.self.invariant c.args.self.now c.self.view_is c.insert.new.blocks.items c.insert.ensures.filled c.and-self-inside.result c.args.prefix c.args.route c.requires.absent c.if-self-ge-TABLE_LIMIT.false c.in-Ok.ensures.ok
    (covers_with n.bound c.of.result c.and-self-inside.result c.args.prefix c.args.route (joined n.blocks.items) (joined c.insert.new.blocks.items) c.self.invariant.covered c.of.ensures c.and-self-inside.ensures c.in-Ok.ensures.ok)

pub returns-clause-ok : goal.returns-clause-ok
returns-clause-ok c =
    let n = c.self.inside in
    table_put (joined n.blocks.items) c.self.invariant.blocks.sorted c.args.self.now c.self.view_is c.args.prefix c.args.route (joined c.insert.new.blocks.items) (sym c.in-Ok.ensures.ok)

pub returns-clause-full : goal.returns-clause-full
returns-clause-full c =
    let n = c.self.inside in
    let e = len_is (joined n.blocks.items) c.self.invariant.blocks.sorted c.args.self.now c.self.view_is in
    (λ h. cc, λ h. absurd (omega (arith, e, c.self.invariant.counted, c.if-self-ge-TABLE_LIMIT.false)))
