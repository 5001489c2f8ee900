use Rattle.std.proofs.Common.{◌≡◌, [], ◌∷◌, ◌++◌, sym, subst, ap, ◌∙◌}
use Rattle.fib.specs.Undo.{undone, CanUndo}
use Rattle.fib.proofs.Undoing.{undone-push, can_pop}
use Rattle.fib.proofs.replaying.undo_all.Goals as goal

pub restore-requires : goal.restore-requires
restore-requires c =
    let all : c.loop-undo.done.items ≡ c.pop.new.self.items ++ c.in-Some.undo ∷ [] = c.in-Some.ensures.items in
    (can_pop c.pop.new.self.items c.in-Some.undo c.loop-undo.fib (subst (λ l. CanUndo l c.loop-undo.fib) all c.loop-undo.invariant.can)).0

pub loop-undo-preserved : goal.loop-undo-preserved
loop-undo-preserved c =
    let all : c.loop-undo.done.items ≡ c.pop.new.self.items ++ c.in-Some.undo ∷ [] = c.in-Some.ensures.items in
    rw c.restore.ensures (record {
      same = sym (undone-push c.pop.new.self.items c.in-Some.undo c.loop-undo.fib) ∙ ap (λ l. undone l c.loop-undo.fib) (sym all) ∙ c.loop-undo.invariant.same;
      can = (can_pop c.pop.new.self.items c.in-Some.undo c.loop-undo.fib (subst (λ l. CanUndo l c.loop-undo.fib) all c.loop-undo.invariant.can)).1;
    })
