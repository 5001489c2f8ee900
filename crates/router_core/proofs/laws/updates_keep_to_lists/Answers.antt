use Rattle.router_core.proofs.ListLaws.{each_update}
use Rattle.router_core.proofs.laws.updates_keep_to_lists.Goals as goal

pub returns : goal.returns
returns c = λ config which table. each_update config table which
