use Rattle.std.proofs.Common.{◌≡◌, ◌∷◌, ◌++◌, List, map as each, sym, subst, ap, ◌∙◌}
use Rattle.std.proofs.lemmas.List.{map-append}
use Rattle.std.proofs.lemmas.List.Elements.{All-tail}
use Rattle.std.specs.Prelude.{◌<◌, length}
use Rattle.fib.specs.Blocks.{Pairs, joined, AreFilled}
use Rattle.fib.specs.Entries.{Entry, fib_entry}
use Rattle.fib.proofs.EntryLists.{listed_again, none_left}
use Rattle.fib.proofs.walk.EntriesIterator.next.Goals as goal

pub invariant_of-self-2 : goal.invariant_of-self-2
invariant_of-self-2 c =
    All-tail (λ (b : Pairs). 0 < length b) c.in_ok-block.block.now c.in_ok-block.blocks.now (subst AreFilled c.in_ok-block.ensures.cases.0 c.self.invariant)

pub returns-clause-steps : goal.returns-clause-steps
returns-clause-steps c =
    let bs = c.in_ok-block.blocks.now in
    let front : each fib_entry c.in_ok-block.block.now ≡ c.in-Some-split_first.entry.now ∷ c.in-Some-split_first.run'.now =
    ap (each fib_entry) (sym c.entries.ensures) ∙ listed_again c.entries.result.now ∙ c.in-Some-split_first.ensures.cases.0 in
    sym c.self.view_is
    ∙ ap (λ (l : List Entry). l ++ each fib_entry (joined c.self.inside.blocks.now)) (none_left c.self.inside.run.now c.in_default.ensures.cases)
    ∙ ap (λ (l : List Pairs). each fib_entry (joined l)) c.in_ok-block.ensures.cases.0
    ∙ map-append fib_entry c.in_ok-block.block.now (joined bs)
    ∙ ap (λ (l : List Entry). l ++ each fib_entry (joined bs)) front
