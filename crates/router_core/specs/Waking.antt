-- When a tick next has something to do (RFC 2080, 2.3 and 2.5.1).
use Rattle.std.specs.Prelude.{◌≡◌, ℕ, min, Bool, if◌then◌else◌, [], Option, Some, None}
use Rattle.std.specs.List.{list_any}
use Rattle.std.specs.FinMap as map_of
use Rattle.route_table.specs.Table.{Table}
use Rattle.route_table.specs.Due.{least_deadline}
use Rattle.router_core.specs.Machine.{State}
use Rattle.router_core.specs.declared.answer.Answer.{Answer}

-- the earlier of a moment and of another, if there is another
abbrev pub or_earlier : ℕ → Option ℕ → ℕ
or_earlier moment None = moment
or_earlier moment (Some other) = min moment other

-- a route change flag is set, so a triggered update is to come (RFC 2080, 2.5.1)
abbrev pub is_marked : Table → Bool
is_marked table = list_any (λ t. t.1.changed) (map_of.entries table)

-- when a triggered update may be sent, if a route change flag is set
abbrev pub triggered_at : State → Option ℕ
triggered_at s = if is_marked s.table then Some s.hold else None

-- the first of these: a regular update is due, a triggered one may be sent, a route times out or is deleted
abbrev pub wakes_at : State → ℕ
wakes_at s = or_earlier (or_earlier s.regular (triggered_at s)) (least_deadline (map_of.entries s.table))

-- a step answers nothing, and changes only the moment of the last step
pub record IsIdle (old : State) (now : ℕ) (answer : Answer) (new : State) : Type 0 where
  pub state : new ≡ record old { last = now }
  pub sends : answer.sends ≡ []
  pub changes : answer.changes ≡ []
