use Rattle.std.proofs.Common.{◌∷◌, List, ℕ, ap, sym, ◌∙◌, arith, drop}
use Rattle.ripng_wire.specs.declared.rte.Rte.{Rte}
use Rattle.ripng_wire.specs.Reading.{entries_of, entry_of}
use Rattle.ripng_wire.proofs.Entries.{entries_none, entries_step}
use Rattle.ripng_wire.proofs.reading.RtesIterator.next.Goals as goal

pub returns-in_err-first-clause-steps : goal.returns-in_err-first-clause-steps
returns-in_err-first-clause-steps c =
    let none = sym c.self.view_is ∙ entries_none c.self.inside.left.now c.in_err-first.ensures.cases in
    rw c.from_residual.ensures (none, none)

pub returns-clause-steps : goal.returns-clause-steps
returns-clause-steps c =
    let b = c.self.inside.left.now in
    let cut = c.in_ok-first.ensures.cases in
    sym c.self.view_is ∙ entries_step b cut.0
    ∙ ap (λ (x : Rte). x ∷ entries_of (drop 20 b)) (sym (c.rte_of.ensures ∙ ap entry_of cut.1))
    ∙ ap (λ (x : List ℕ). c.rte_of.result ∷ entries_of x) (sym cut.2)

pub returns-clause-goes : goal.returns-clause-goes
returns-clause-goes c =
    let b = c.self.inside.left.now in
    let cut = c.in_ok-first.ensures.cases in
    let e = sym c.self.view_is ∙ entries_step b cut.0 in
    rw (e, cut.2) (record { on = λ _. (tt, tt, omega arith); keeps = tt; rests = λ _. tt })
