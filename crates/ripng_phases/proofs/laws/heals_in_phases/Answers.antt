use Rattle.std.proofs.Common.{[]}
use Rattle.ripng_phases.proofs.Begun.{phases_begun}
use Rattle.ripng_phases.proofs.Healing.{heals_in_phases, heals_then}
use Rattle.ripng_phases.proofs.laws.heals_in_phases.Goals as goal

pub returns-clause-healed : goal.returns-clause-healed
returns-clause-healed c = λ net moments events phases cold w end is_net noisy is run fits is_phases many.
    heals_in_phases net moments events phases [] cold w end is_net noisy is run fits (phases_begun net phases _ w end is_phases) many

pub returns-clause-stays : goal.returns-clause-stays
returns-clause-stays c = λ net moments events phases later before after cold w end is_net noisy is run fits is_phases many parts.
    heals_then net moments events phases later before after cold w end is_net noisy is run fits is_phases many parts

pub returns-clause-goes_on : goal.returns-clause-goes_on
returns-clause-goes_on c = λ net moments events phases since cold w end is_net noisy is run fits begun many.
    heals_in_phases net moments events phases since cold w end is_net noisy is run fits begun many
