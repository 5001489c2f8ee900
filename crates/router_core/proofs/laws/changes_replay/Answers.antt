use Rattle.router_core.proofs.MovesReplay.{moves_replay}
use Rattle.router_core.proofs.laws.changes_replay.Goals as goal

pub returns : goal.returns
returns c = moves_replay
