use Rattle.ripngd_runs.proofs.Running.{failed_lives, ran_lives, run_lives, whole_lives, whole_under_way}
use Rattle.ripngd_runs.proofs.laws.runs_are_lives.Goals as goal

pub returns-clause-ran : goal.returns-clause-ran
returns-clause-ran c = ran_lives

pub returns-clause-whole : goal.returns-clause-whole
returns-clause-whole c = whole_lives

pub returns-clause-so_far : goal.returns-clause-so_far
returns-clause-so_far c = run_lives

pub returns-clause-whole_so_far : goal.returns-clause-whole_so_far
returns-clause-whole_so_far c = whole_under_way

pub returns-clause-failed : goal.returns-clause-failed
returns-clause-failed c = failed_lives
