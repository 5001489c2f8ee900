use Rattle.router_core.specs.Machine.{Restarts, started}
use Rattle.router_core.proofs.MovesReplay.{moves_replay}
use Rattle.router_core.proofs.laws.start_replays.Goals as goal

pub returns : goal.returns
returns c = λ config now answer new starts. moves_replay (started config now) new (Restarts now) answer starts
