-- No reason is the first to fail exactly where each passes.
use Rattle.std.proofs.Common.{◌≡◌, Bool, true, false, cond, List, [], ◌∷◌, Option, Some, None, refl, ap, ◌∙◌}
use Rattle.std.specs.List.{AllByRecursion}
use Rattle.ripng_wire.specs.Wire.{first_reason}

-- each reason passes
abbrev pub EachPasses : {F : Type 0} → List (Bool × F) → Type 0
EachPasses reasons = AllByRecursion (λ reason. reason.0 ≡ false) reasons

-- where no reason of some fails, the first of them passes and none of the others fails
none_here : {X : Type 0} (b : Bool) (x : X) (o : Option X) → cond b (Some x) o ≡ None → (b ≡ false) × (o ≡ None)
none_here true x o e = absurd cc
none_here false x o e = (refl, e)

-- where no reason fails, each passes
pub each_passes : {F : Type 0} (reasons : List (Bool × F)) → first_reason reasons ≡ None → EachPasses reasons
each_passes [] none = tt
each_passes (reason ∷ reasons) none =
    let here = none_here reason.0 reason.1 (first_reason reasons) none in
    (here.0, each_passes reasons here.1)

-- where each reason passes, none fails
pub none_fails : {F : Type 0} (reasons : List (Bool × F)) → EachPasses reasons → first_reason reasons ≡ None
none_fails [] passes = refl
none_fails (reason ∷ reasons) passes = ap (λ b. cond b (Some reason.1) (first_reason reasons)) passes.0 ∙ none_fails reasons passes.1
