use Rattle.std.proofs.Common.{ap}
use Rattle.fib.specs.Blocks.{joined}
use Rattle.fib.proofs.Tables.{table_none}
use Rattle.fib.proofs.fib.Fib.new.Goals as goal

pub returns : goal.returns
returns c = table_none (joined c.new.result.items) (ap joined c.new.ensures.items)
