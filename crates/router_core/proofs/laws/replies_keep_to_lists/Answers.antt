use Rattle.router_core.proofs.ListLaws.{each_replied, kept_back}
use Rattle.router_core.proofs.laws.replies_keep_to_lists.Goals as goal

pub returns-clause-whole : goal.returns-clause-whole
returns-clause-whole c = λ config iface table asked all. each_replied config table iface asked all

pub returns-clause-each : goal.returns-clause-each
returns-clause-each c = λ config iface table asked kept. kept_back config table iface asked kept
