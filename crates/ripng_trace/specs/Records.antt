-- What the records of a trace say of a router, and what a reader who applies them knows.
use Rattle.std.specs.Prelude.{◌≡◌, List, [], ◌∷◌}
use Rattle.ripng_trace.specs.Below.{Prefix6, next_due, RouteValue, ByPrefix, Table, State, KnownRouter, Timers}
use Rattle.std.specs.FinMap as map_of

-- the timers of a router, with the next deadline of a route and the first prefix whose route has it
abbrev pub timers_in : State → Timers
timers_in s = record { last = s.last; regular = s.regular; hold = s.hold; due = next_due s.table }

-- the router as a reader of its records knows it
abbrev pub known_as : State → KnownRouter
known_as s = record { table = s.table; timers = timers_in s }

-- a finite map once these prefixes are taken out
abbrev pub taken_out : {X : Type 0} → ByPrefix X → List Prefix6 → ByPrefix X
taken_out t [] = t
taken_out t (p ∷ ps) = taken_out (map_of.remove t p) ps

-- a table once these routes are put in, one after another
abbrev pub with_routes : Table → List (Prefix6 × RouteValue) → Table
with_routes t [] = t
with_routes t (e ∷ es) = with_routes (map_of.insert t e.0 e.1) es

-- a reader who knows one table and is told these routes and what is gone has the other
abbrev pub LeadsTo : Table → List (Prefix6 × RouteValue) → List Prefix6 → Table → Type 0
LeadsTo known routes gone table = with_routes (taken_out known gone) routes ≡ table
