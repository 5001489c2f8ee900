use Rattle.ripng_phases.specs.Minutes.{untimed}
use Rattle.ripng_phases.specs.Phases.{reached}
use Rattle.ripng_phases.proofs.Timely.{arrive_in_minutes, timely_until}
use Rattle.ripng_phases.proofs.laws.packets_arrive_in_minutes.Goals as goal

pub returns-clause-arrive : goal.returns-clause-arrive
returns-clause-arrive c = λ net moments events history start stop cold w end is_net noisy is run fits timely late.
    arrive_in_minutes net moments events history start stop cold w end is_net noisy is run fits timely late

pub returns-clause-stays : goal.returns-clause-stays
returns-clause-stays c = λ net moments events history before after start until stop cold w end is_net noisy is run fits timely late within parts soon far.
    arrive_in_minutes net moments events before start until cold w (reached w (untimed before)) is_net noisy is run fits
    (timely_until net w history before after start until stop end timely parts within soon far) late
