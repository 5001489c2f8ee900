use Rattle.std.proofs.Common.{◌≡◌, ◌≤◌, ◌+◌, ◌++◌, map, length, vec_len}
use Rattle.std.specs.Vec.{vec_capacity}
use Rattle.std.specs.Vec.Iter.{into_iter_items}
use Rattle.ripng_world.specs.World.{sent_by}
use Rattle.ripng_world.proofs.station.file.Given as goal

abbrev pub invariant-loop-outgoing : goal.invariant-loop-outgoing
invariant-loop-outgoing l = record {
  can_next : (goal.iterator-loop-outgoing).can_next l.outgoing-iterator;
  is_finite : (goal.iterator-loop-outgoing).is_finite l.outgoing-iterator;
  rest : l.sent.items ++ map (sent_by l.router) (into_iter_items l.outgoing-iterator) ≡ l.initial.sent.items ++ map (sent_by l.router) (into_iter_items l.initial.outgoing-iterator);
  room : vec_len l.sent + length (into_iter_items l.outgoing-iterator) ≤ vec_capacity l.sent;
}
