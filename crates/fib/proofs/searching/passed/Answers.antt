use Rattle.fib.proofs.Searches.{passed_at, passed_gap}
use Rattle.fib.proofs.searching.passed.Goals as goal

pub returns-in-Ok-clause-past : goal.returns-in-Ok-clause-past
returns-in-Ok-clause-past c = passed_at c.args.entries.now c.args.prefix.now c.in-Ok.at c.requires c.in-Ok.ensures.found

pub returns-in-Err-clause-past : goal.returns-in-Err-clause-past
returns-in-Err-clause-past c = passed_gap c.args.entries.now c.args.prefix.now c.in-Err.at c.in-Err.ensures.absent
