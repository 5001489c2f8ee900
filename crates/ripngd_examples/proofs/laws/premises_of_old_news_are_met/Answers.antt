use Rattle.std.proofs.Common.{[], ◌∷◌, refl}
use Rattle.ripng_phases.proofs.TwoRouters.{doc, is_network, learned, learner, nodes, one_route, state, told_once}
use Rattle.ripngd_examples.proofs.RecentExample.{history, holds_route, is_awake, is_cold, is_recent, late_enough, w0, w5}
use Rattle.ripngd_examples.proofs.laws.premises_of_old_news_are_met.Goals as goal

pub returns : goal.returns
returns c = (
  nodes,
  is_network,
  0 ∷ 0 ∷ [],
  w0,
  is_cold,
  history,
  w5,
  is_recent,
  1,
  state learner (one_route (told_once (learned 300))) 10_000 25_000 0,
  refl,
  is_awake,
  doc,
  told_once (learned 300),
  holds_route,
  late_enough,
)
