use Rattle.std.proofs.Common.{◌≡◌, ◌-◌, Ok}
use Rattle.std.specs.Prelude.{⊤}
use Rattle.ripng_phases.specs.Making.{GoesOn}
use Rattle.ripng_phases.proofs.making.hand_until.Given as goal

abbrev pub invariant-loop-course : goal.invariant-loop-course
invariant-loop-course g l = record {
  network : l.lab.network ≡ l.fn.lab.network;
  goes : GoesOn {X = ⊤} {F = ⊤} g.V.Observer.takes g.V.Observer.fails (Ok tt) (l.fn.lab, l.fn.watch) l.fn.course (l.lab, l.watch) l.course;
  told : l.course.told.items ≡ l.fn.course.told.items;
  until : l.course.until ≡ l.fn.course.until;
}

abbrev pub decreases-loop-course : goal.decreases-loop-course
decreases-loop-course g l = l.end - l.course.next
