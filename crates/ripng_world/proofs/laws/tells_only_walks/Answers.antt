use Rattle.ripng_world.proofs.Telling.{sends_true}
use Rattle.ripng_world.proofs.Unchanged.{sends_first}
use Rattle.ripng_world.proofs.laws.tells_only_walks.Goals as goal

pub returns-clause-since : goal.returns-clause-since
returns-clause-since c = λ past router old new happening answer sound moves. sends_true past router old happening answer new sound moves

pub returns-clause-fixed : goal.returns-clause-fixed
returns-clause-fixed c = λ net router old new happening answer sound moves. sends_first net router old happening answer new sound moves
