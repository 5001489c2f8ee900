use Rattle.std.proofs.Common.{◌-◌, sym, subst, ◌∙◌, arith}
use Rattle.std.specs.Prelude.{T}
use Rattle.std.specs.FinMap.{is_sorted}
use Rattle.prefix6.specs.Prefix.{prefix_cmp}
use Rattle.route_table.specs.Blocks.{joined}
use Rattle.route_table.proofs.BlockChanges.{IsJoined, side_by_side, is_joined}
use Rattle.route_table.proofs.blocks.join.Goals as goal

pub absorb-requires-clause-ordered : goal.absorb-requires-clause-ordered
absorb-requires-clause-ordered c =
    let parts = c.split_at_mut-lower in
    let whole = sym c.deref_mut.ensures.value ∙ parts.ensures.value in
    side_by_side parts.result.0.now parts.result.1.now (c.args.at - 1) (omega (arith, parts.ensures.front_len, c.if-at-eq0.false)) (omega (arith, parts.ensures.back_len, c.deref_mut.ensures.len, c.if-at-len.false, c.len.ensures))
    (subst (λ l. T (is_sorted prefix_cmp (joined l))) whole c.requires.sorted) c.index-lower-at.result c.index-upper-0.result

both : (c : goal.After-drop-remove) → IsJoined c.args.blocks.now.items c.remove.new.self.items
both c =
    let parts = c.split_at_mut-lower in
    is_joined c.args.blocks.now.items parts.result.0.now parts.result.1.now c.remove.new.self.items c.args.blocks.now.len c.args.at c.index-lower-at.result c.index-upper-0.result c.absorb.new.self
    c.requires (sym c.deref_mut.ensures.value ∙ parts.ensures.value) parts.ensures.front_len c.if-at-eq0.false (omega (arith, c.if-at-len.false, c.len.ensures, c.args.blocks.now.ok.0)) c.args.blocks.now.ok.0
    c.if-absorb.ensures c.remove.ensures.items

pub returns-then-absorb-clause-same : goal.returns-then-absorb-clause-same
returns-then-absorb-clause-same c = (both c).same

pub returns-then-absorb-clause-filled : goal.returns-then-absorb-clause-filled
returns-then-absorb-clause-filled c = (both c).filled
