use Rattle.ripngd_theorems.specs.Daemons.{reconfigurations_by}
use Rattle.ripngd_runs.proofs.Programs.{fixed, holds, in_order, were_ordered}
use Rattle.ripngd_runs.proofs.laws.programs_invent_no_distance.Goals as goal

pub returns-clause-backed : goal.returns-clause-backed
returns-clause-backed c = λ net runs order owns running. (
  reconfigurations_by (in_order net runs order running),
  were_ordered net runs order running,
  holds net runs order running
      (λ deeds daemons ran. c.daemons_invent_no_distance.ensures.backed net deeds daemons owns ran)
      (λ deeds daemons ran. c.daemons_invent_no_distance.ensures.entries net deeds daemons owns ran),
)

pub returns-clause-backed_fixed : goal.returns-clause-backed_fixed
returns-clause-backed_fixed c = λ net runs order owns running.
    fixed net runs order running
    (λ deeds daemons ran. c.daemons_invent_no_distance.ensures.backed net deeds daemons owns ran)
    (λ deeds daemons ran. c.daemons_invent_no_distance.ensures.entries net deeds daemons owns ran)
