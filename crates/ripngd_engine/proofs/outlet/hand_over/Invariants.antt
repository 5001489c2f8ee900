use Rattle.std.proofs.Common.{◌≡◌, ◌++◌, List}
use Rattle.std.specs.Vec.Iter.{into_iter_items}
use Rattle.router_core.specs.declared.answer.Outgoing.{Outgoing}
use Rattle.ripngd_engine.specs.Outlet.{HandsOver}
use Rattle.ripngd_engine.proofs.outlet.hand_over.Given as goal

abbrev pub invariant-loop-outgoing : goal.invariant-loop-outgoing
invariant-loop-outgoing g l = record {
  can_next : (goal.iterator-loop-outgoing g).can_next l.outgoing-iterator;
  is_finite : (goal.iterator-loop-outgoing g).is_finite l.outgoing-iterator;
  done : List Outgoing;
  all : done ++ into_iter_items l.outgoing-iterator ≡ into_iter_items l.initial.outgoing-iterator;
  hands : HandsOver g.V.TrafficObserver.takes l.initial.observer l.observer (g.L.Link.calls l.initial.link) (g.L.Link.calls l.link) done l.lost l.total;
  same : g.L.Link.interface_count l.link ≡ g.L.Link.interface_count l.initial.link;
}
