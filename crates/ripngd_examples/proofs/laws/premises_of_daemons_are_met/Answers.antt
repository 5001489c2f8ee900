use Rattle.std.proofs.Common.{refl}
use Rattle.ripng_phases.proofs.TwoRouters.{is_network}
use Rattle.ripngd_theorems.proofs.TwoDaemons.{doc, learned, learner_with, left, nodes, told_once, word_of}
use Rattle.router_core.specs.Timers.{next_regular}
use Rattle.ripngd_examples.proofs.AnyhowExample.{daemons, go_on_anyhow, history, holds_route}
use Rattle.ripngd_examples.proofs.laws.premises_of_daemons_are_met.Goals as goal

pub returns : goal.returns
returns c = λ stream. (
  nodes,
  is_network,
  history,
  daemons stream,
  go_on_anyhow stream,
  1,
  learner_with (told_once (learned 200)) 300 (next_regular 300 (word_of stream)) 0 (left stream),
  refl,
  doc,
  told_once (learned 200),
  holds_route,
  refl,
)
