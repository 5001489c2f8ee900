-- Whether a script solves an exercise: a script in which a word `?` leaves one word free, and which leaves its events open if it has none.
use Rattle.std.specs.Prelude.{◌≡◌, ◌≢◌, ◌<◌, ◌⊎◌, ◌&&◌, ℕ, Bool, true, false, not, List, Option, None, Some, codes, filter, length, nat_lt, slice_get, take, All, HoldsAt}
use Rattle.std.specs.List.{AllZip}
use Rattle.ripng_lab.specs.declared.exercise.Role.{Role}
use Rattle.ripng_lab.specs.declared.exercise.Role.TheVariants.{Start, Event, Expectation, Look}
use Rattle.ripng_lab.specs.declared.exercise.Statement.{Statement}
use Rattle.ripng_lab.specs.declared.exercise.Unlike.{Unlike}
use Rattle.ripng_lab.specs.declared.exercise.Unlike.TheVariants.{OtherLine, MissingLine, AddedLine, NoStart, NoEvent}

-- a word of an exercise stands for a word: `?` for any, each other for itself
abbrev pub StandsFor : List ℕ → List ℕ → Type 0
StandsFor asked word = (asked ≡ codes "?") ⊎ (asked ≡ word)

-- a line of a solution is that of the exercise, with one word for each `?`
abbrev pub Fills : Statement → Statement → Type 0
Fills asked line = AllZip (λ w v. StandsFor w.now v.now) asked.words.items line.words.items

-- some line has this role
abbrev pub HasRole : List Statement → Role → Type 0
HasRole lines role = (place : ℕ) × (place < length lines) × HoldsAt (λ l. l.role ≡ role) lines place

-- none has
abbrev pub LacksRole : List Statement → Role → Type 0
LacksRole lines role = All (λ l. l.role ≢ role) lines

-- whether lines of a role count, where the events are open, or not
abbrev pub counts_as : Bool → Role → Bool
counts_as leaves_events Look = false
counts_as leaves_events Event = not leaves_events
counts_as leaves_events _ = true

abbrev pub counts : Bool → Statement → Bool
counts leaves_events line = counts_as leaves_events line.role

-- an exercise without an event leaves the events open
abbrev pub LeavesEvents : List Statement → Bool → Type 0
LeavesEvents exercise true = LacksRole exercise Event
LeavesEvents exercise false = HasRole exercise Event

-- Lines depart from those of an exercise in a place, up to which they are those: another line is there; or they end; or they go on.
abbrev pub Departs : List Statement → List Statement → Unlike → Type 0
Departs asked lines (OtherLine k l) =
    (i : ℕ) × (e s : Statement) × AllZip Fills (take i asked) (take i lines) × (slice_get asked i ≡ Some e) × (slice_get lines i ≡ Some s)
    × (Fills e s → ⊥) × (e.number ≡ k) × (s.number ≡ l)
Departs asked lines (MissingLine k) =
    (e : Statement) × AllZip Fills (take (length lines) asked) lines × (slice_get asked (length lines) ≡ Some e) × (e.number ≡ k)
Departs asked lines (AddedLine l) =
    (s : Statement) × AllZip Fills asked (take (length asked) lines) × (slice_get lines (length asked) ≡ Some s) × (s.number ≡ l)
Departs asked lines _ = ⊥

-- the lines that count
abbrev pub counted : Bool → List Statement → List Statement
counted free lines = filter (counts free) lines

-- A script solves an exercise: its lines that count are those of the exercise, one after another, with one word for each `?`; it starts
-- its network, and something happens.
abbrev pub Solves : List Statement → List Statement → Type 0
Solves exercise solution =
    (free : Bool) × LeavesEvents exercise free × AllZip Fills (counted free exercise) (counted free solution) × HasRole solution Start × HasRole solution Event

-- why it does not
abbrev pub IsUnlike : List Statement → List Statement → Unlike → Type 0
IsUnlike exercise solution NoStart = LacksRole solution Start
IsUnlike exercise solution NoEvent = LacksRole solution Event
IsUnlike exercise solution why = (free : Bool) × LeavesEvents exercise free × Departs (counted free exercise) (counted free solution) why

-- a script that ends at the line of a number, or after its last line, has done the line of this one
abbrev pub is_done : Option ℕ → ℕ → Bool
is_done None number = true
is_done (Some end) number = nat_lt number end

abbrev pub is_expectation : Role → Bool
is_expectation Expectation = true
is_expectation _ = false

-- a line is an expectation that is met
abbrev pub is_met : Option ℕ → Statement → Bool
is_met end line = is_expectation line.role && is_done end line.number
