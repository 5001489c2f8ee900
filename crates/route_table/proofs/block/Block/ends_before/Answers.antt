use Rattle.std.proofs.Common.{◌≡◌, ◌+◌, ◌-◌, length, sym, ◌∙◌, arith}
use Rattle.prefix6.specs.Prefix.{prefix_cmp}
use Rattle.std.specs.declared.cmp.Ordering.TheVariants.{Less}
use Rattle.route_table.proofs.BlockEdits.{all_before}
use Rattle.route_table.proofs.TrieWalk.{is_less, less_is}
use Rattle.route_table.proofs.block.Block.ends_before.Goals as goal

pub returns : goal.returns
returns c passed =
    let v = c.self.inside.routes in
    let less : prefix_cmp c.index.result.now.0 c.args.prefix.now ≡ Less = is_less _ (sym (less_is c.index.result.now.0 c.args.prefix.now) ∙ sym c.lt.ensures ∙ passed) in
    let last : c.len-len.result - 1 + 1 ≡ length v.items = omega (arith, c.len-len.ensures, v.ok.0, c.if-len-eq0.false) in
    rw (← c.self.view_is) (all_before v.items (c.len-len.result - 1) c.index.result.now c.args.prefix.now c.self.invariant.sorted last c.index.ensures less)
