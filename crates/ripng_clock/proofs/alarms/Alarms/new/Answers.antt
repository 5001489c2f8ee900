use Rattle.std.proofs.Common.{◌≡◌, List, Option, Some, None, ℕ, slice_get, subst, refl}
use Rattle.ripng_clock.proofs.Times.{no_time, none_of}
use Rattle.ripng_clock.proofs.alarms.Alarms.new.Goals as goal

only_none : (P : Option ℕ → Type 0) → ((u : ℕ) → P (Some u) → ⊥) → (o : Option ℕ) → P o → o ≡ None
only_none P never None same = refl
only_none P never (Some u) same = absurd (never u same)

pub invariant_of-result : goal.invariant_of-result
invariant_of-result c =
    none_of c.in_ok-vec.field-0.items c.new.result
    (λ router time here. no_time c.args.routers router time
    (subst (λ (xs : List (Option ℕ)). slice_get xs router ≡ Some (Some time)) (c.in_ok-vec.ensures.items_if_clones_equal (only_none _ (λ x same. same))) here))
    c.new.ensures

pub returns-clause-none : goal.returns-clause-none
returns-clause-none c = λ router time here.
    no_time c.args.routers router time
    (subst (λ (xs : List (Option ℕ)). slice_get xs router ≡ Some (Some time)) (c.in_ok-vec.ensures.items_if_clones_equal (only_none _ (λ x same. same))) here)
