use Rattle.std.proofs.Common.{◌≡◌, ◌≤◌, ◌+◌, ◌++◌, map, take, length, vec_len}
use Rattle.std.specs.Vec.{vec_capacity}
use Rattle.std.specs.Vec.Iter.{into_iter_items}
use Rattle.ripng_world.specs.Stations.{network_of}
use Rattle.ripng_world.specs.World.{StartsFrom}
use Rattle.ripng_world.proofs.lab.Lab.cold.Given as goal

abbrev pub invariant-loop-router : goal.invariant-loop-router
invariant-loop-router g l = record {
  can_next : (goal.iterator-loop-router g).can_next l.router-iterator;
  is_finite : (goal.iterator-loop-router g).is_finite l.router-iterator;
  network : network_of l.stations.items ++ into_iter_items l.router-iterator ≡ into_iter_items l.initial.router-iterator;
  cold : StartsFrom 0 (network_of l.stations.items) (take (vec_len l.stations) l.moments) (map (λ s. s.state) l.stations.items) l.sent.items;
  room : vec_len l.stations + length (into_iter_items l.router-iterator) ≤ vec_capacity l.stations;
}
