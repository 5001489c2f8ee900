-- What becomes of packets, one router further.
use Rattle.std.proofs.Common.{◌≡◌, ◌<◌, ◌+◌, ◌∙◌, ℕ, ◌==◌, Bool, true, false, cond, List, [], ◌∷◌, ◌++◌, add-one, ap, drop, drop-cons, length, Result, Ok, Err, sym}
use Rattle.std.specs.List.{list_any}
use Rattle.ripng_world.specs.declared.path.PathEnd.TheVariants as end
use Rattle.ripng_lab_fates.specs.Ways.{pass, way_at, way_by, way_next}
use Rattle.ripng_lab_fates.specs.declared.outages.Change.{Change}
use Rattle.ripng_lab_fates.specs.declared.ways.Fate.{Fate}
use Rattle.ripng_lab_fates.specs.declared.ways.Fate.TheVariants as fate
use Rattle.ripng_lab_fates.specs.declared.ways.Step.{Step}
use Rattle.ripng_lab_fates.specs.declared.ways.Step.TheVariants.{Ends}
use Rattle.ripng_lab_fates.specs.declared.ways.Way.{Way}

module _ (all steps : List Step) (changes : List Change) (passed : List ℕ) (at : ℕ) where
  -- they go on to the next router, with so many steps left
  abbrev onward : List Step → ℕ → Way
  onward left next =
      cond (list_any (λ r. r == next) (passed ++ at ∷ [])) (way_at fate.Loops next) (way_by left steps changes (passed ++ at ∷ []) next)

  module _ (i : ℕ) (lt : i < length all) where
    one_step : way_by (drop i all) steps changes passed at ≡ way_next at (pass steps changes at) (onward (drop (i + 1) all))
    one_step =
        ap (λ (left : List Step). way_by left steps changes passed at) (drop-cons all i (Ends end.NoRoute) lt)
        ∙ ap (λ (k : ℕ). way_next at (pass steps changes at) (onward (drop k all))) (sym (add-one i))

    pub stops : (f : Fate) → pass steps changes at ≡ Err f → way_by (drop i all) steps changes passed at ≡ way_at f at
    stops f is = one_step ∙ ap (λ (r : Result ℕ Fate). way_next at r (onward (drop (i + 1) all))) is

    went : (next : ℕ) → pass steps changes at ≡ Ok next → way_by (drop i all) steps changes passed at ≡ onward (drop (i + 1) all) next
    went next is = one_step ∙ ap (λ (r : Result ℕ Fate). way_next at r (onward (drop (i + 1) all))) is

    pub circles : (next : ℕ) → pass steps changes at ≡ Ok next → list_any (λ r. r == next) (passed ++ at ∷ []) ≡ true
        → way_by (drop i all) steps changes passed at ≡ way_at fate.Loops next
    circles next is again =
        went next is ∙ ap (λ (b : Bool). cond b (way_at fate.Loops next) (way_by (drop (i + 1) all) steps changes (passed ++ at ∷ []) next)) again

    pub goes_on : (next : ℕ) → pass steps changes at ≡ Ok next → list_any (λ r. r == next) (passed ++ at ∷ []) ≡ false
        → way_by (drop i all) steps changes passed at ≡ way_by (drop (i + 1) all) steps changes (passed ++ at ∷ []) next
    goes_on next is new =
        went next is ∙ ap (λ (b : Bool). cond b (way_at fate.Loops next) (way_by (drop (i + 1) all) steps changes (passed ++ at ∷ []) next)) new

    -- the same of a list that was made so, and of what it is all equal to
    pub went_on : (next : ℕ) → pass steps changes at ≡ Ok next → list_any (λ r. r == next) (passed ++ at ∷ []) ≡ false
        → (now : List ℕ) → now ≡ passed ++ at ∷ [] → (all_of_it : Way) → way_by (drop i all) steps changes passed at ≡ all_of_it
        → way_by (drop (i + 1) all) steps changes now next ≡ all_of_it
    went_on next is new now made way before =
        ap (λ (rs : List ℕ). way_by (drop (i + 1) all) steps changes rs next) made ∙ sym (goes_on next is new) ∙ before
