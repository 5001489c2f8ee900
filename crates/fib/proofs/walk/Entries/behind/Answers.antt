use Rattle.std.proofs.Common.{◌≡◌, ◌+◌, ◌++◌, List, [], map as each, sym, subst, ap₂, ◌∙◌}
use Rattle.std.specs.Prelude.{T}
use Rattle.std.specs.FinMap.{is_sorted}
use Rattle.std.proofs.lemmas.List.{get_or_read}
use Rattle.prefix6.specs.Prefix.{prefix_cmp}
use Rattle.fib.specs.Blocks.{Pairs, block_at, joined}
use Rattle.fib.specs.Entries.{Entry, at_prefix, fib_entry}
use Rattle.fib.proofs.BlockLists.{sorted_block}
use Rattle.fib.proofs.Searches.{rest_in}
use Rattle.fib.proofs.Withdrawals.{rest_whole}
use Rattle.fib.proofs.walk.Entries.behind.Goals as goal

pub passed-requires : goal.passed-requires
passed-requires c =
    let bs = c.args.blocks.now in
    let i = c.home-at.result in
    let h = c.home-at.ensures.home in
    let is : each at_prefix c.entries-run.result.now ≡ block_at bs i = c.entries-run.ensures ∙ get_or_read bs i c.index-blocks-at.result h.in_range c.index-blocks-at.is [] in
    record { rising = subst (λ l. T (is_sorted prefix_cmp l)) (sym is) (sorted_block bs c.requires i h.in_range) }

pub returns : goal.returns
returns c =
    let bs = c.args.blocks.now in
    let i = c.home-at.result in
    let h = c.home-at.ensures.home in
    let es = c.entries-run.result.now in
    let is : each at_prefix es ≡ block_at bs i = c.entries-run.ensures ∙ get_or_read bs i c.index-blocks-at.result h.in_range c.index-blocks-at.is [] in
    rest_in bs c.args.prefix.now i h es is c.passed.result c.passed.ensures.within c.passed.ensures.past _
    (ap₂ (λ (xs : List Entry) (ys : List Pairs). xs ++ each fib_entry (joined ys)) (rest_whole es c.passed.result) (rest_whole bs (i + 1)))
