use Rattle.router_core.proofs.ListLaws.{each_asked, none_asked, none_replied}
use Rattle.router_core.proofs.laws.passive_interfaces_ask_nothing.Goals as goal

pub returns-clause-starts : goal.returns-clause-starts
returns-clause-starts c = each_asked

pub returns-clause-link_ups : goal.returns-clause-link_ups
returns-clause-link_ups c = none_asked

pub returns-clause-replies : goal.returns-clause-replies
returns-clause-replies c = none_replied
