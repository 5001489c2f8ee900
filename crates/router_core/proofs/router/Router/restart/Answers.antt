use Rattle.router_core.proofs.RouterSteps.{started_replays}
use Rattle.router_core.proofs.router.Router.restart.Goals as goal

pub returns-clause-replays : goal.returns-clause-replays
returns-clause-replays g c = started_replays c.self.inside.config _ _ c.in_ok-store.ensures.owned c.in_ok-store.ensures.changes
