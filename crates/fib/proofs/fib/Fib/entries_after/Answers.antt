use Rattle.std.proofs.Common.{◌≡◌, map as each, sym, subst, ap, ◌∙◌}
use Rattle.fib.specs.Blocks.{joined}
use Rattle.fib.specs.Entries.{fib_entry, listed, AreAfter}
use Rattle.fib.proofs.Tables.{entries_are}
use Rattle.fib.proofs.fib.Fib.entries_after.Goals as goal

pub returns-in-Some : goal.returns-in-Some
returns-in-Some c =
    let same : each fib_entry (joined c.deref.result.now) ≡ listed c.args.self.now = ap (λ l. each fib_entry (joined l)) c.deref.ensures.value ∙ ap (each fib_entry) (sym (entries_are (joined c.self.inside.blocks.items) c.self.invariant.blocks.sorted c.args.self.now c.self.view_is)) in
    subst (λ l. AreAfter l c.args.after c.behind.result) same (subst (λ q. AreAfter (each fib_entry (joined c.deref.result.now)) q c.behind.result) (sym c.in-Some.is) c.behind.ensures)
