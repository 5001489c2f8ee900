-- Rounds that were asked for, one event and one round after another.
use Rattle.std.proofs.Common.{◌≡◌, ℕ, List, [], ◌∷◌, ◌++◌, length, refl, sym, subst, ◌∙◌, ap, ap₂, take, get_or, Some, option_map, slice_get, ◌+◌, ◌<◌, arith, ◌≤◌, Bool, true, false, inl, inr}
use Rattle.std.specs.List.{enumerate_from}
use Rattle.std.proofs.lemmas.List.{take-map, map_more}
use Rattle.std.proofs.lemmas.Bool.{cases_lt, false≢true}
use Rattle.std.proofs.lemmas.List.FromFn.{length-enumerate_from, get_or-enumerate_from}
use Rattle.std.proofs.lemmas.Option.{slice_get-get_or, slice_get-map}
use Rattle.router_core.specs.declared.answer.Answer.{Answer}
use Rattle.ripng_world.specs.AskedRounds.{ticks_of}
use Rattle.ripng_world.specs.Network.{Network}
use Rattle.ripng_world.specs.Rounds.{AllTick, IsDueTick}
use Rattle.ripng_world.specs.World.{World, Event, Happens, Tick}

pub tick_on : (net : Network) (es : List Event) (e : Event) (answer : Answer) (w mid w' : World) → AllTick net w es mid → IsDueTick mid e → Happens net mid e answer w'
    → AllTick net w (es ++ e ∷ []) w'
tick_on net [] e answer w mid w' first due happens = (w', answer, subst (λ v. IsDueTick v e) first due, subst (λ v. Happens net v e answer w') first happens, refl)
tick_on net (x ∷ es) e answer w mid w' first due happens = (first.0, first.1, first.2, first.3, tick_on net es e answer first.0 mid w' first.4 due happens)

-- the ticks, each with its router
numbered_within : (ticks : List (ℕ × ℕ)) (n : ℕ) → n < length ticks → n < length (enumerate_from 0 ticks)
numbered_within ticks n here = subst (λ m. n < m) (sym (length-enumerate_from 0 ticks)) here

numbered_at : (ticks : List (ℕ × ℕ)) (n : ℕ) (t : ℕ × ℕ) → n < length ticks → t ≡ get_or ticks n t → get_or (enumerate_from 0 ticks) n (n, t) ≡ (n, t)
numbered_at ticks n t here is =
    let none : 0 + n ≡ n = omega arith in
    get_or-enumerate_from 0 ticks n (n, t) here ∙ ap₂ (λ (m : ℕ) (x : ℕ × ℕ). (m, x)) none (sym is)

-- one more tick
pub take_tick : (ticks : List (ℕ × ℕ)) (n : ℕ) (t : ℕ × ℕ) → n < length ticks → t ≡ get_or ticks n t
    → take (n + 1) (ticks_of ticks) ≡ take n (ticks_of ticks) ++ Tick n t.0 t.1 ∷ []
take_tick ticks n t here is =
    let f = λ (x : ℕ × (ℕ × ℕ)). Tick x.0 x.1.0 x.1.1 in
    let numbered = enumerate_from 0 ticks in
    take-map f (n + 1) numbered ∙ map_more f numbered n (n, t) (numbered_within ticks n here)
    ∙ ap₂ (λ (xs : List Event) (x : ℕ × (ℕ × ℕ)). xs ++ f x ∷ []) (sym (take-map f n numbered)) (numbered_at ticks n t here is)

pub tick_at : (ticks : List (ℕ × ℕ)) (n : ℕ) (t : ℕ × ℕ) → n < length ticks → t ≡ get_or ticks n t → slice_get (ticks_of ticks) n ≡ Some (Tick n t.0 t.1)
tick_at ticks n t here is =
    let f = λ (x : ℕ × (ℕ × ℕ)). Tick x.0 x.1.0 x.1.1 in
    let numbered = enumerate_from 0 ticks in
    slice_get-map f numbered n ∙ ap (option_map f) (slice_get-get_or numbered n (n, t) (numbered_within ticks n here) ∙ ap Some (numbered_at ticks n t here is))

pub undue : (b : Bool) (due now : ℕ) → b ≡ false → (due ≤ now → b ≡ true) → now < due
undue b due now not_due must =
    elim (cases_lt now due) [ inl h ↦ h | inr h ↦ absurd (false≢true (sym not_due ∙ must h)) ]
