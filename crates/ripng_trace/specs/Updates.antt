-- What the record of a tick says of updates: which was due.
use Rattle.std.specs.Prelude.{◌≡◌, ℕ, ◌==◌, max, not, if◌then◌else◌, List, Option, Some, None, is_some, option_and_then, slice_get}
use Rattle.ripng_trace.specs.Below.{list_any, first_changed, aged_table, State, is_regular_due, is_triggered_due, LabValue, Event, Tick, KnownRouter, Timers, UpdateRecord, Regular, Triggered, Held}
use Rattle.std.specs.FinMap as map_of

-- which update is due at a tick: a regular one; else, if a route is marked, a triggered one, or one that is held
abbrev pub due_update : State → ℕ → Option UpdateRecord
due_update s now =
    if is_regular_due s now then Some Regular
    else if is_triggered_due s now then Some Triggered
    else if list_any (λ t. t.1.changed) (map_of.entries (aged_table now s.table)) then Some Held
    else None

-- which was due at an event, by the lab before
abbrev pub due_at : LabValue → Event → Option UpdateRecord
due_at lab (Tick router now word) = option_and_then (λ s. due_update s (max s.last now)) (slice_get lab.world.states router)
due_at lab _ = None

-- the same by the timers of before and the router as it is now: each update moves its own timer
abbrev pub update_by : Timers → State → Option UpdateRecord
update_by before s =
    if not (s.regular == before.regular) then Some Regular
    else if not (s.hold == before.hold) then Some Triggered
    else if is_some (first_changed None s.table) then Some Held
    else None

-- and by the routers as they were known
abbrev pub TellsUpdate : List KnownRouter → LabValue → Event → Option UpdateRecord → Type 0
TellsUpdate routers lab (Tick router now word) update =
    (before : KnownRouter) (s : State) → slice_get routers router ≡ Some before → slice_get lab.world.states router ≡ Some s → update ≡ update_by before.timers s
TellsUpdate routers lab _ update = update ≡ None
