use Rattle.std.proofs.Common.{◌≡◌, map as each, sym, subst, ap, ◌∙◌}
use Rattle.std.specs.Prelude.{IfSome, IsNone}
use Rattle.fib.specs.Blocks.{joined}
use Rattle.fib.specs.Entries.{fib_entry, listed, AreAllPast, IsLastOf}
use Rattle.fib.proofs.Tables.{entries_are}
use Rattle.fib.proofs.fib.Fib.last_up_to.Goals as goal

pub returns-clause-found : goal.returns-clause-found
returns-clause-found c =
    let same : each fib_entry (joined c.deref.result.now) ≡ listed c.args.self.now = ap (λ l. each fib_entry (joined l)) c.deref.ensures.value ∙ ap (each fib_entry) (sym (entries_are (joined c.self.inside.blocks.items) c.self.invariant.blocks.sorted c.args.self.now c.self.view_is)) in
    subst (λ l. IfSome c.last_entry.result (IsLastOf l c.args.prefix.now)) same c.last_entry.ensures.found

pub returns-clause-none : goal.returns-clause-none
returns-clause-none c =
    let same : each fib_entry (joined c.deref.result.now) ≡ listed c.args.self.now = ap (λ l. each fib_entry (joined l)) c.deref.ensures.value ∙ ap (each fib_entry) (sym (entries_are (joined c.self.inside.blocks.items) c.self.invariant.blocks.sorted c.args.self.now c.self.view_is)) in
    subst (λ l. IsNone c.last_entry.result → AreAllPast l c.args.prefix.now 0) same c.last_entry.ensures.none
