use Rattle.fib.proofs.Searches.{found_before, none_before}
use Rattle.fib.proofs.searching.last_up_to.Goals as goal

pub returns-clause-found : goal.returns-clause-found
returns-clause-found c = found_before c.args.entries.now c.args.prefix.now c.passed.result c.passed.ensures.within c.passed.ensures.past c.checked_sub.result c.checked_sub.ensures

pub returns-clause-none : goal.returns-clause-none
returns-clause-none c = none_before c.args.entries.now c.args.prefix.now c.passed.result c.passed.ensures.past c.checked_sub.result c.checked_sub.ensures
