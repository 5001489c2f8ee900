-- Places in a sorted list of routes, and where the routes past a prefix begin.
use Rattle.std.specs.Prelude.{◌≡◌, ℕ, ◌<◌, ◌≤◌, true, false, Option, List, length}
use Rattle.prefix6.specs.Prefix.{Prefix6}
use Rattle.prefix6.specs.Places.{prefix_at}
use Rattle.route_table.specs.Route.{RouteValue}
use Rattle.route_table.specs.Table.{is_past}

-- the routes of a table in the order of their prefixes
abbrev pub Entries : Type 0
Entries = List (Prefix6 × RouteValue)

-- the index of the first entry past a prefix, or 0 without a prefix
pub record IsStartPast (es : Entries) (after : Option Prefix6) (i : ℕ) : Type 0 where
  pub in_range : i ≤ length es
  pub before : (j : ℕ) (d : Prefix6 × RouteValue) → j < i → j < length es → is_past after (prefix_at es j d) ≡ false
  pub here : (d : Prefix6 × RouteValue) → i < length es → is_past after (prefix_at es i d) ≡ true
