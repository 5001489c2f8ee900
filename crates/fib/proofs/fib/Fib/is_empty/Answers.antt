use Rattle.std.proofs.Common.{◌==◌, ap}
use Rattle.fib.specs.Blocks.{joined}
use Rattle.fib.proofs.Tables.{empty_is}
use Rattle.fib.proofs.fib.Fib.is_empty.Goals as goal

pub returns : goal.returns
returns c = empty_is (joined c.self.inside.blocks.items) c.self.invariant.blocks.sorted c.args.self.now c.self.view_is (c.self.inside.count == 0) (ap (λ n. n == 0) c.self.invariant.counted)
