-- Times in their order, each with a number.
use Rattle.std.specs.Prelude.{◌≡◌, ℕ, ◌<◌, ◌≤◌, ◌⊎◌, Contains, List, Option, Some, slice_get}
use Rattle.ripng_clock.specs.declared.agenda.Agenda.{Agenda}

-- the number has that time
abbrev pub Has : Agenda → ℕ → ℕ → Type 0
Has agenda time number = Contains agenda.entries.keys (time, number)

-- a time with its number comes before another, or is the same
abbrev pub IsUpTo : ℕ → ℕ → ℕ → ℕ → Type 0
IsUpTo time number time' number' = (time < time') ⊎ ((time ≡ time') × (number ≤ number'))

-- it comes before all others
abbrev pub IsFirst : Agenda → ℕ → ℕ → Type 0
IsFirst agenda time number = Has agenda time number × ((t n : ℕ) → Has agenda t n → IsUpTo time number t n)

-- the number has the time too, and else nothing is changed
pub record IsAdded (agenda : Agenda) (time number : ℕ) (agenda' : Agenda) : Type 0 where
  pub has : Has agenda' time number
  pub kept : (t n : ℕ) → Has agenda t n → Has agenda' t n
  pub only : (t n : ℕ) → Has agenda' t n → ((t ≡ time) × (n ≡ number)) ⊎ Has agenda t n

-- the number has that time no longer, and else nothing is changed
pub record IsRemoved (agenda : Agenda) (time number : ℕ) (agenda' : Agenda) : Type 0 where
  pub gone : Has agenda' time number → ⊥
  pub kept : (t n : ℕ) → Has agenda t n → ((t ≡ time) × (n ≡ number)) ⊎ Has agenda' t n
  pub only : (t n : ℕ) → Has agenda' t n → Has agenda t n

-- each number has the time that the list has for it, if it has one, and no other
pub record AreTimes (times : List (Option ℕ)) (agenda : Agenda) : Type 0 where
  pub listed : (number time : ℕ) → slice_get times number ≡ Some (Some time) → Has agenda time number
  pub only : (number time : ℕ) → Has agenda time number → slice_get times number ≡ Some (Some time)
