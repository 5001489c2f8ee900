use Rattle.std.proofs.Common.{◌≡◌, ℕ, List, Option, Some, slice_get, subst, sym}
use Rattle.std.specs.Option.{IfSome}
use Rattle.ripng_clock.specs.Agenda.{IsUpTo}
use Rattle.ripng_clock.proofs.Times.{first_least, first_there}
use Rattle.ripng_clock.proofs.alarms.Alarms.first.Goals as goal

pub returns-clause-there : goal.returns-clause-there
returns-clause-there c =
    subst (λ (ts : List (Option ℕ)). IfSome c.first.result (λ f. slice_get ts f.1 ≡ Some (Some f.0))) c.self.view_is
    (first_there c.self.inside.times.items c.self.inside.order c.self.invariant c.first.result c.first.ensures.first)

pub returns-clause-least : goal.returns-clause-least
returns-clause-least c =
    subst (λ (ts : List (Option ℕ)). IfSome c.first.result (λ f. (router time : ℕ) → slice_get ts router ≡ Some (Some time) → IsUpTo f.0 f.1 time router)) c.self.view_is
    (first_least c.self.inside.times.items c.self.inside.order c.self.invariant c.first.result c.first.ensures.first)

pub returns-clause-none : goal.returns-clause-none
returns-clause-none c = λ none router time here.
    c.first.ensures.none none time router (c.self.invariant.listed router time (subst (λ (ts : List (Option ℕ)). slice_get ts router ≡ Some (Some time)) (sym c.self.view_is) here))
