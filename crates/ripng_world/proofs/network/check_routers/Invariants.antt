use Rattle.std.proofs.Common.{◌≡◌, ◌≤◌, ◌+◌, ◌++◌, All, take, length, vec_len}
use Rattle.std.specs.Vec.{vec_capacity}
use Rattle.std.specs.Vec.Iter.{into_iter_items}
use Rattle.router_core.specs.Config.{IsConfig}
use Rattle.router_core.proofs.ReasonsOfEach.{PassesBelow}
use Rattle.ripng_world.specs.Network.{HasNoLists, config_of}
use Rattle.ripng_world.specs.NetworkFaults.{router_reasons}
use Rattle.ripng_world.proofs.network.check_routers.Given as goal

abbrev pub invariant-loop-node : goal.invariant-loop-node
invariant-loop-node l = record {
  can_next : (goal.iterator-loop-node).can_next l.node-iterator;
  is_finite : (goal.iterator-loop-node).is_finite l.node-iterator;
  kept : l.routers.items ++ into_iter_items l.node-iterator ≡ into_iter_items l.initial.node-iterator;
  passes : PassesBelow router_reasons (into_iter_items l.initial.node-iterator) (vec_len l.routers);
  lawful : All (λ node. IsConfig (config_of node) × HasNoLists node) (take (vec_len l.routers) (into_iter_items l.initial.node-iterator));
  room : vec_len l.routers + length (into_iter_items l.node-iterator) ≤ vec_capacity l.routers;
}
