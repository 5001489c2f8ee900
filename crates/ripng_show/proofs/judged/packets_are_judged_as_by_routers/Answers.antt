use Rattle.ripng_show.proofs.Alike.{judged_alike}
use Rattle.ripng_show.proofs.judged.packets_are_judged_as_by_routers.Goals as goal

pub returns : goal.returns
returns c = judged_alike
