use Rattle.ripng_world.proofs.PacketsAfter.{arrive_after}
use Rattle.ripng_world.proofs.PacketsHealed.{all_arrive, one_way}
use Rattle.ripng_world.proofs.laws.packets_arrive.Goals as goal

pub returns-clause-healed : goal.returns-clause-healed
returns-clause-healed c = all_arrive

pub returns-clause-one_way : goal.returns-clause-one_way
returns-clause-one_way c = λ net fibs addr router way other distinct. one_way net distinct fibs addr router way other

pub returns-clause-after_rounds : goal.returns-clause-after_rounds
returns-clause-after_rounds c = arrive_after
