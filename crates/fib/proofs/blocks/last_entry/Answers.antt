use Rattle.std.proofs.Common.{◌≡◌, [], map as each, refl, sym, subst, ◌∙◌}
use Rattle.std.specs.Prelude.{T}
use Rattle.std.specs.FinMap.{is_sorted}
use Rattle.std.proofs.lemmas.List.{get_or_read}
use Rattle.prefix6.specs.Prefix.{prefix_cmp}
use Rattle.fib.specs.Blocks.{block_at}
use Rattle.fib.specs.Entries.{at_prefix}
use Rattle.fib.proofs.BlockLists.{sorted_block}
use Rattle.fib.proofs.Searches.{last_in, none_in}
use Rattle.fib.proofs.blocks.last_entry.Goals as goal

pub last_up_to-requires : goal.last_up_to-requires
last_up_to-requires c =
    let bs = c.args.blocks.now in
    let i = c.home.result in
    let h = c.home.ensures.home in
    let es = c.entries-entries.result.now in
    let is : each at_prefix es ≡ block_at bs i = c.entries-entries.ensures ∙ get_or_read bs i c.index-blocks-home.result h.in_range c.index-blocks-home.is [] in
    record { rising = subst (λ l. T (is_sorted prefix_cmp l)) (sym is) (sorted_block bs c.requires i h.in_range) }

pub returns-in-Some-clause-found : goal.returns-in-Some-clause-found
returns-in-Some-clause-found c =
    let bs = c.args.blocks.now in
    let i = c.home.result in
    let h = c.home.ensures.home in
    let es = c.entries-entries.result.now in
    let is : each at_prefix es ≡ block_at bs i = c.entries-entries.ensures ∙ get_or_read bs i c.index-blocks-home.result h.in_range c.index-blocks-home.is [] in
    last_in bs c.args.prefix.now i h es is c.index-entries-at.result c.in-Some.at c.in-Some.ensures.found c.index-entries-at.is

pub returns-in-None-clause-none : goal.returns-in-None-clause-none
returns-in-None-clause-none c _ =
    let bs = c.args.blocks.now in
    let i = c.home.result in
    let h = c.home.ensures.home in
    let es = c.entries-entries.result.now in
    let is : each at_prefix es ≡ block_at bs i = c.entries-entries.ensures ∙ get_or_read bs i c.index-blocks-home.result h.in_range c.index-blocks-home.is [] in
    none_in bs c.args.prefix.now i h es is c.home.ensures.from (c.requires.filled i [] h.in_range) (c.in-None.ensures.none refl)
