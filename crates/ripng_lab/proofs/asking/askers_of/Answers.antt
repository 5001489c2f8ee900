use Rattle.std.proofs.Common.{◌≡◌, All, None, subst, sym}
use Rattle.std.proofs.lemmas.List.Elements.{All-push}
use Rattle.ripng_lab.proofs.asking.askers_of.Goals as goal

pub loop-number-preserved : goal.loop-number-preserved
loop-number-preserved c =
    subst (All (λ asker. asker.pace.loss ≡ None)) (sym c.in_ok-push.ensures.items)
    (All-push (λ asker. asker.pace.loss ≡ None) c.loop-number.askers.items c.in_ok-asker_at.field-0 c.loop-number.invariant c.in_ok-asker_at.ensures)
