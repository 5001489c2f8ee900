use Rattle.std.proofs.Common.{◌≡◌, ◌≤◌, drop, length, vec_len}
use Rattle.std.specs.Vec.{vec_capacity}
use Rattle.router_core.specs.Filters.{limit_at}
use Rattle.router_core.specs.Hearing.{hearing}
use Rattle.router_core.specs.Offers.{next_hop_at}
use Rattle.router_core.proofs.HearingLoop.{HeardBefore}
use Rattle.router_core.proofs.hear.hear.Given as goal

abbrev pub invariant-loop-place : goal.invariant-loop-place
invariant-loop-place g l = record {
  next : (goal.iterator-loop-place g).can_next l.place-iterator;
  ends : (goal.iterator-loop-place g).is_finite l.place-iterator;
  left : drop l.place-iterator.count l.fn.entries ≡ l.place-iterator.iter;
  within : l.place-iterator.count ≤ length l.fn.entries;
  heard : HeardBefore (hearing l.config l.gateway l.fn.entries (g.S.RouteStore.table l.fn.store) l.notes.items) (g.S.RouteStore.table l.store) l.changes.items l.quota.held l.place-iterator.count;
  limit : l.quota.limit ≡ limit_at l.config l.gateway.iface;
  hop : l.next_hop ≡ next_hop_at l.config l.gateway.from l.fn.entries l.place-iterator.count;
  notes_few : vec_len l.notes ≤ l.place-iterator.count;
  notes_room : length l.fn.entries ≤ vec_capacity l.notes;
  changes_few : vec_len l.changes ≤ l.place-iterator.count;
  changes_room : length l.fn.entries ≤ vec_capacity l.changes;
}
