use Rattle.std.proofs.Common.{◌<◌, length, [], refl, sym, subst, ap, ◌∙◌, arith}
use mathlib.Core.Bool.{false≢true}
use Rattle.std.specs.Ordering.{is_lt}
use Rattle.std.proofs.lemmas.List.{get_or_read}
use Rattle.fib.specs.Blocks.{StartsAt, block_at}
use Rattle.fib.proofs.BlockLists.{narrow_below, narrow_above}
use Rattle.fib.proofs.EntryParts.{is_less, less_is}
use Rattle.fib.proofs.blocks.home.Goals as goal
use Rattle.fib.proofs.blocks.home.Goals.{then-lt, else-lt}

pub loop-low-preserved : goal.loop-low-preserved
loop-low-preserved c =
    let bs = c.args.blocks.now in
    let p = c.args.prefix.now in
    let m = c.loop-low.middle in
    let f = c.first.result in
    let n = c.loop-low.invariant in
    let in_range : m < length bs = omega (arith, n.to c.loop-low-test.true, n.in_range) in
    let starts : StartsAt f (block_at bs m) = subst (StartsAt f) (get_or_read bs m c.index-blocks-middle.result in_range c.index-blocks-middle.is []) c.first.ensures in
    elim c.if-lt.branch [
      | then-lt w ↦ rw (w.low-is, w.high-is) (narrow_below bs p c.requires.ordered c.loop-low.low c.loop-low.high m n c.loop-low-test.true f starts _ refl (is_less _ (sym (less_is p f) ∙ sym c.lt.ensures ∙ w.if-lt.true)))
      | else-lt w ↦ rw (w.low-is, w.high-is) (narrow_above bs p c.requires.ordered c.loop-low.low c.loop-low.high m n c.loop-low-test.true f starts _ refl (λ less. false≢true (sym w.if-lt.false ∙ c.lt.ensures ∙ less_is p f ∙ ap is_lt less)))
    ]
