use Rattle.std.proofs.Common.{sym, ◌∙◌}
use Rattle.fib.specs.Blocks.{joined}
use Rattle.fib.proofs.Tables.{len_is}
use Rattle.fib.proofs.fib.Fib.len.Goals as goal

pub returns : goal.returns
returns c = c.self.invariant.counted ∙ sym (len_is (joined c.self.inside.blocks.items) c.self.invariant.blocks.sorted c.args.self.now c.self.view_is)
