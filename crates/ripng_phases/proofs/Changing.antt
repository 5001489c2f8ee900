-- In which of several phases some table last changed, as one more is made.
use Rattle.std.proofs.Common.{◌≡◌, ◌⊎◌, inl, inr, ℕ, suc, ◌+◌, ◌<◌, ◌≤◌, Bool, true, false, List, [], ◌∷◌, ◌++◌, length, Option, Some, None, refl, ap, sym, subst, ◌∙◌, arith}
use Rattle.std.specs.Prelude.{◌↔◌, IsTrue}
use Rattle.std.proofs.lemmas.List.{length-append, take-append-le, take_all}
use Rattle.ripng_world.specs.Network.{Network}
use Rattle.ripng_world.specs.World.{World}
use Rattle.ripng_phases.specs.Changing.{IsLastChange, last_change, shown_after, shown_in}
use Rattle.ripng_phases.specs.Phases.{Step, reached, steps_of}

module _ (net : Network) (w : World) (phases : List (List Step)) (steps : List Step) where
  -- what is shown after earlier ones stays
  as_before : (count : ℕ) → count ≤ length phases → shown_after net w (phases ++ steps ∷ []) count ≡ shown_after net w phases count
  as_before count few = ap (λ (ps : List (List Step)). shown_in net (reached w (steps_of ps))) (take-append-le count phases (steps ∷ []) few)

  one_longer : length (phases ++ steps ∷ []) ≡ suc (length phases)
  one_longer = longer (length (phases ++ steps ∷ [])) (length phases) (length-append phases (steps ∷ []))
    where
      longer : (m n : ℕ) → m ≡ n + 1 → m ≡ suc n
      longer m n e = omega arith

  -- no change of an earlier one, or of this one
  still : (phase : ℕ) → phase < length (phases ++ steps ∷ []) → (phase < length phases → shown_after net w phases (suc phase) ≡ shown_after net w phases phase)
      → shown_after net w (phases ++ steps ∷ []) (suc (length phases)) ≡ shown_after net w (phases ++ steps ∷ []) (length phases)
      → shown_after net w (phases ++ steps ∷ []) (suc phase) ≡ shown_after net w (phases ++ steps ∷ []) phase
  still phase in_all before here = by (split phase (length phases) (length (phases ++ steps ∷ [])) one_longer in_all)
    where
      split : (k n m : ℕ) → m ≡ suc n → k < m → (k < n) ⊎ (k ≡ n)
      split k n m e f = grind (arith, e, f)

      by : (phase < length phases) ⊎ (phase ≡ length phases) → shown_after net w (phases ++ steps ∷ []) (suc phase) ≡ shown_after net w (phases ++ steps ∷ []) phase
      by (inl early) = as_before (suc phase) early ∙ before early ∙ sym (as_before phase (weaker phase (length phases) early))
        where
          weaker : (k n : ℕ) → k < n → k ≤ n
          weaker k n e = omega arith
      by (inr last) = subst (λ (k : ℕ). shown_after net w (phases ++ steps ∷ []) (suc k) ≡ shown_after net w (phases ++ steps ∷ []) k) (sym last) here

  module _ (a b : World) (is_a : a ≡ reached w (steps_of phases)) (is_b : b ≡ reached w (steps_of (phases ++ steps ∷ []))) where
    at_begin : shown_after net w (phases ++ steps ∷ []) (length phases) ≡ shown_in net a
    at_begin =
        as_before (length phases) (itself (length phases)) ∙ ap (λ (ps : List (List Step)). shown_in net (reached w (steps_of ps))) (take_all (length phases) phases (itself (length phases)))
        ∙ ap (shown_in net) (sym is_a)
      where
        itself : (n : ℕ) → n ≤ n
        itself n = omega arith

    at_end : shown_after net w (phases ++ steps ∷ []) (suc (length phases)) ≡ shown_in net b
    at_end =
        ap (λ (ps : List (List Step)). shown_in net (reached w (steps_of ps))) (take_all (suc (length phases)) (phases ++ steps ∷ []) (all (length (phases ++ steps ∷ [])) (length phases) one_longer))
        ∙ ap (shown_in net) (sym is_b)
      where
        all : (m n : ℕ) → m ≡ suc n → m ≤ suc n
        all m n e = omega arith

    -- some table changed in this one
    changes_here : (shown_in net b ≡ shown_in net a → ⊥) → IsLastChange net w (phases ++ steps ∷ []) (Some (length phases))
    changes_here other = (
      within (length (phases ++ steps ∷ [])) (length phases) one_longer,
      λ same. other (sym at_end ∙ same ∙ at_begin),
      λ phase late in_all. absurd (none phase (length phases) (length (phases ++ steps ∷ [])) one_longer late in_all),
    )
      where
        within : (m n : ℕ) → m ≡ suc n → n < m
        within m n e = omega arith

        none : (k n m : ℕ) → m ≡ suc n → n < k → k < m → ⊥
        none k n m e f g = omega (arith, e, f, g)

    -- no table changed in this one
    changes_before : (last : Option ℕ) → shown_in net b ≡ shown_in net a → IsLastChange net w phases last → IsLastChange net w (phases ++ steps ∷ []) last
    changes_before None same was = λ phase in_all. still phase in_all (was phase) (at_end ∙ same ∙ sym at_begin)
    changes_before (Some last) same was = (
      within (length (phases ++ steps ∷ [])) (length phases) last one_longer was.0,
      λ e. was.1 (sym (as_before (suc last) was.0) ∙ e ∙ as_before last (weaker last (length phases) was.0)),
      λ phase late in_all. still phase in_all (was.2 phase late) (at_end ∙ same ∙ sym at_begin),
    )
      where
        within : (m n k : ℕ) → m ≡ suc n → k < n → k < m
        within m n k e f = omega (arith, e, f)

        weaker : (k n : ℕ) → k < n → k ≤ n
        weaker k n e = omega arith

    -- so it is once this one is made
    pub next_change : (last : Option ℕ) (stays : Bool) (count : ℕ) → length phases ≡ count → IsTrue stays ↔ (shown_in net b ≡ shown_in net a) → IsLastChange net w phases last
        → IsLastChange net w (phases ++ steps ∷ []) (last_change last stays count)
    next_change last true count is compared was = changes_before last (compared.0 refl) was
    next_change last false count is compared was = subst (λ (n : ℕ). IsLastChange net w (phases ++ steps ∷ []) (Some n)) is (changes_here (λ same. false_is_true (compared.1 same)))
      where
        false_is_true : false ≡ true → ⊥
        false_is_true e = cc
