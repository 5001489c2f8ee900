use Rattle.std.proofs.Common.{◌≡◌, ◌≤◌, ℕ, Bool, true, false, None, Some, Option, IfSome, max, slice_get, subst, sym, arith}
use Rattle.std.specs.Bool.{then_some}
use Rattle.std.specs.Option.{MatchOption}
use Rattle.router_core.specs.Machine.{State}
use Rattle.ripng_phases.proofs.Outcomes.{if_new}
use Rattle.ripng_phases.proofs.making.due_moment.Goals as goal

-- what a test leaves is what it was
kept : (Q : ℕ → Type 0) (R : ℕ → Bool → Type 0) (o r : Option ℕ) → MatchOption o (r ≡ None) (λ x. (b : Bool) × R x b × (r ≡ then_some b x)) → IfSome o Q → IfSome r Q
kept Q R None r is q = subst (λ (r : Option ℕ). IfSome r Q) (sym is) tt
kept Q R (Some x) r (true, of, is) q = subst (λ (r : Option ℕ). IfSome r Q) (sym is) q
kept Q R (Some x) r (false, of, is) q = subst (λ (r : Option ℕ). IfSome r Q) (sym is) tt

pub returns-clause-due : goal.returns-clause-due
returns-clause-due g c =
    kept _ _ c.new.result c.filter.result c.filter.ensures
    (if_new _ _ c.new.result (λ due. (x : State) × (slice_get c.args.lab.now.world.states c.args.router ≡ Some x) × (x.regular ≤ max x.last due)) c.new.ensures
    (c.in_ok-router.field-0.now, sym c.in_ok-router.ensures.value, omega (arith, c.regular.ensures, c.ms.ensures.value, c.max-due.ensures)))
