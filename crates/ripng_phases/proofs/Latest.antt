-- The last moment of all routers, of one after another.
use Rattle.std.proofs.Common.{◌≡◌, ◌⊎◌, inl, inr, ℕ, ◌+◌, ◌<◌, ◌≤◌, max, List, Some, None, slice_get, refl, ap, sym, subst, ◌∙◌, arith}
use Rattle.route_table.proofs.TableLaws.{Some-same, None-Some}
use Rattle.router_core.specs.Machine.{State}
use Rattle.ripng_phases.specs.Making.{IsLatest}
use Rattle.ripng_phases.proofs.Handing.{next_of}

module _ (states : List State) where
  pub latest_none : IsLatest states 0 0
  latest_none = record { none_later = λ router s lt at. absurd (omega (arith, lt)); one_is = inl refl }

  module _ (n latest : ℕ) (is : IsLatest states n latest) where
    -- one that is not there
    pub latest_skip : slice_get states n ≡ None → IsLatest states (n + 1) latest
    latest_skip none = record { none_later = λ router s lt at. by router s at (next_of router n lt); one_is = is.one_is }
      where
        by : (router : ℕ) (s : State) → slice_get states router ≡ Some s → (router < n) ⊎ (router ≡ n) → s.last ≤ latest
        by router s at (inl old) = is.none_later router s old at
        by router s at (inr new) = absurd (None-Some s (sym none ∙ subst (λ (k : ℕ). slice_get states k ≡ Some s) new at))

    -- one more
    pub latest_next : (t : State) (m : ℕ) → slice_get states n ≡ Some t → m ≡ max t.last latest → IsLatest states (n + 1) m
    latest_next t m here m_is = record { none_later = λ router s lt at. by router s at (next_of router n lt); one_is = one (split t.last latest) }
      where
        split : (a b : ℕ) → (a ≤ b) ⊎ (b < a)
        split a b = grind arith

        by : (router : ℕ) (s : State) → slice_get states router ≡ Some s → (router < n) ⊎ (router ≡ n) → s.last ≤ m
        by router s at (inl old) = let le = is.none_later router s old at in omega (arith, le, m_is)
        by router s at (inr new) =
            let same = ap (λ (x : State). x.last) (Some-same s t (sym (subst (λ (k : ℕ). slice_get states k ≡ Some s) new at) ∙ here)) in omega (arith, same, m_is)

        one : (t.last ≤ latest) ⊎ (latest < t.last) → (m ≡ 0) ⊎ ((router : ℕ) × (s : State) × (slice_get states router ≡ Some s) × (s.last ≡ m))
        one (inl le) =
            let same : latest ≡ m = omega (arith, le, m_is) in
            elim is.one_is [
              | inl zero ↦ inl (sym same ∙ zero)
              | inr x ↦ inr (x.0, x.1, x.2, x.3 ∙ same)
            ]
        one (inr lt) = inr (n, t, here, omega (arith, lt, m_is))
