use Rattle.std.proofs.Common.{◌≡◌, ℕ, ◌<◌, Ok, Some, length, slice_get}
use Rattle.std.specs.Prelude.{⊤}
use Rattle.ripng_phases.specs.Making.{GoesOn}
use Rattle.ripng_phases.specs.declared.acting.Update.{Update}
use Rattle.ripng_phases.proofs.making.tell_rest.Given as goal

abbrev pub invariant-loop-router : goal.invariant-loop-router
invariant-loop-router g l = record {
  network : l.lab.network ≡ l.fn.lab.network;
  goes : GoesOn {X = ⊤} {F = ⊤} g.V.Observer.takes g.V.Observer.fails (Ok tt) (l.fn.lab, l.fn.watch) l.fn.course (l.lab, l.watch) l.course;
  routers : length l.course.told.items ≡ length l.fn.course.told.items;
  told : (router : ℕ) → router < l.router → (u : Update) × (slice_get l.course.told.items router ≡ Some (Some u));
}
