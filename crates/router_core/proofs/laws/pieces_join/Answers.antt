use Rattle.std.proofs.Common.{subst, ◌+◌, ◌<◌}
use Rattle.router_core.proofs.Cutting.{joined-pieces}
use Rattle.router_core.proofs.CutPieces.{full, sized, counted}
use Rattle.router_core.proofs.laws.pieces_join.Goals as goal

pub returns-clause-joined : goal.returns-clause-joined
returns-clause-joined c = λ size xs some. joined-pieces size xs some

pub returns-clause-full : goal.returns-clause-full
returns-clause-full c = λ size place xs piece some more is. full size xs some place piece (subst (λ n. place + 1 < n) (counted size xs some) more) is

pub returns-clause-sized : goal.returns-clause-sized
returns-clause-sized c = λ size place xs piece some is. sized size xs some place piece is
