use Rattle.fib.proofs.ReplayLaws.{replays_append, replays_to_one}
use Rattle.fib.proofs.laws.replay_follows_calls.Goals as goal

pub returns-clause-joined : goal.returns-clause-joined
returns-clause-joined c = replays_append

pub returns-clause-determined : goal.returns-clause-determined
returns-clause-determined c = replays_to_one
