use Rattle.fib.proofs.Withdrawals.{both_replay}
use Rattle.fib.proofs.fib.Fib.apply.Goals as goal

pub returns-clause-ok : goal.returns-clause-ok
returns-clause-ok c = both_replay c.args.self.now c.install_all.new.fib c.withdraw_all.new.fib c.args.changes.now c.in_default.ensures.ok c.withdraw_all.ensures
