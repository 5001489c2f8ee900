-- Which update a tick sends, and which timers it sets (RFC 2080, 2.3 and 2.5.1).
use Rattle.std.specs.Prelude.{ℕ, ◌/◌, if◌then◌else◌, List, [], length, Option, Some, None}
use Rattle.router_core.specs.Settling.{settled_table}
use Rattle.router_core.specs.Machine.{State, is_regular_due, is_triggered_due}
use Rattle.router_core.specs.Timers.{next_regular, next_hold}
use Rattle.router_core.specs.Output.{Message, selected, update_messages}
use Rattle.router_core.specs.declared.tell.Selection.{Selection}
use Rattle.router_core.specs.declared.tell.Selection.TheVariants.{Every, Changed}

-- the update that is due: a regular one rather than a triggered one (RFC 2080, 2.5.1)
abbrev pub update_due : State → ℕ → Option Selection
update_due old now = if is_regular_due old now then Some Every else if is_triggered_due old now then Some Changed else None

-- the messages of an update, if one is due
abbrev pub update_of : State → ℕ → Option Selection → List Message
update_of old now None = []
update_of old now (Some which) = update_messages old.config (selected which) (settled_table now which old.table)

-- when the next regular update is due, after a tick (RFC 2080, 2.3)
abbrev pub regular_after : State → ℕ → ℕ → Option Selection → ℕ
regular_after old now word (Some Every) = next_regular now word
regular_after old now word _ = old.regular

-- until when triggered updates are delayed, after a tick (RFC 2080, 2.5.1)
abbrev pub hold_after : State → ℕ → ℕ → Option Selection → ℕ
hold_after old now word (Some Changed) = next_hold now word
hold_after old now word _ = old.hold

-- how many entries a datagram of these bytes has, rounded down (RFC 2080, 2.1)
abbrev pub entries_in : List ℕ → ℕ
entries_in bytes = length bytes / 20
