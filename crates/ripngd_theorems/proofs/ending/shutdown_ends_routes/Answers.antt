use Rattle.ripngd_theorems.proofs.LastUpdate.{neighbor_ends}
use Rattle.ripngd_theorems.proofs.LastUpdateDelivered.{delivered_ends}
use Rattle.ripngd_theorems.proofs.ending.shutdown_ends_routes.Goals as goal

pub returns-clause-heard : goal.returns-clause-heard
returns-clause-heard c = λ a a' b b' now iface on from answer happenings heard noisy here wide moves.
    neighbor_ends a a' b b' now iface on from answer happenings heard (c.shutdown_tells_losses.ensures a now answer a' moves) noisy here wide moves

pub returns-clause-delivered : goal.returns-clause-delivered
returns-clause-delivered c = λ net moments events later cold w w' end router iface other on now answer s t is_net is_cold run s_is noisy shuts.
    delivered_ends net moments events later cold w w' end router iface other on now answer s t (c.shutdown_tells_losses.ensures shuts.old now answer shuts.new shuts.moves)
    is_net is_cold run s_is noisy shuts
