use Rattle.std.proofs.Common.{map as each, sym, ap, ◌∙◌}
use Rattle.fib.specs.Blocks.{joined}
use Rattle.fib.specs.Entries.{fib_entry}
use Rattle.fib.proofs.Tables.{entries_are}
use Rattle.fib.proofs.fib.Fib.entries.Goals as goal

pub returns : goal.returns
returns c = ap (λ l. each fib_entry (joined l)) c.deref.ensures.value ∙ ap (each fib_entry) (sym (entries_are (joined c.self.inside.blocks.items) c.self.invariant.blocks.sorted c.args.self.now c.self.view_is))
