use Rattle.std.proofs.Common.{◌≡◌, ◌≤◌, drop, length}
use Rattle.router_core.specs.Offers.{next_hop_at}
use Rattle.router_core.proofs.OfferedSteps.{offered_before}
use Rattle.router_core.proofs.offered.all_offered.Given as goal

abbrev pub invariant-loop-place : goal.invariant-loop-place
invariant-loop-place l = record {
  next : goal.iterator-loop-place.can_next l.place-iterator;
  ends : goal.iterator-loop-place.is_finite l.place-iterator;
  left : drop l.place-iterator.count l.fn.entries ≡ l.place-iterator.iter;
  within : l.place-iterator.count ≤ length l.fn.entries;
  hop : l.next_hop ≡ next_hop_at l.config l.gateway.from l.fn.entries l.place-iterator.count;
  made : l.all.items ≡ offered_before l.config l.gateway l.fn.entries l.place-iterator.count;
}
