use Rattle.std.proofs.Common.{refl}
use Rattle.ripngd_theorems.specs.Daemons.{Start}
use Rattle.ripngd_theorems.proofs.Lives.{answer_lives, change_lives, link_down_lives, link_up_lives, lives_on, shutdown_lives}
use Rattle.ripngd_theorems.proofs.laws.engines_live.Goals as goal

pub returns-clause-start : goal.returns-clause-start
returns-clause-start c = λ config stream a b before started.
    (record { act = Start; trace = started.trace }, refl, (b.machine, (stream, started.comes_up), refl), started.shows)

pub returns-clause-turns : goal.returns-clause-turns
returns-clause-turns c = answer_lives

pub returns-clause-reconfigurations : goal.returns-clause-reconfigurations
returns-clause-reconfigurations c = change_lives

pub returns-clause-shutdowns : goal.returns-clause-shutdowns
returns-clause-shutdowns c = shutdown_lives

pub returns-clause-link_downs : goal.returns-clause-link_downs
returns-clause-link_downs c = link_down_lives

pub returns-clause-link_ups : goal.returns-clause-link_ups
returns-clause-link_ups c = link_up_lives

pub returns-clause-on : goal.returns-clause-on
returns-clause-on c = lives_on
