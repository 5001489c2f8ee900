use Rattle.ripng_world.proofs.Growing.{reaches_first, reaches_still}
use Rattle.ripng_world.proofs.laws.generalises_walks.Goals as goal

pub returns-clause-unchanged : goal.returns-clause-unchanged
returns-clause-unchanged c = λ past from p metric tag walk unchanged reaches. reaches_first past unchanged from p metric tag walk reaches

pub returns-clause-still : goal.returns-clause-still
returns-clause-still c = λ past from p metric tag walk reaches. reaches_still past from p metric tag walk reaches
