-- What is known of several routes without a look at them.
use Rattle.std.specs.Prelude.{◌≡◌, ℕ, Bool, true, false, ◌||◌, List, [], ◌∷◌, filter, Option, Some, None}
use Rattle.prefix6.specs.Prefix.{Prefix6}
use Rattle.route_table.specs.Route.{RouteValue, deadline}
use Rattle.route_table.specs.Due.{is_due, is_reached, earlier}
use Rattle.route_table.specs.declared.wanted.Wanted.{Wanted}
use Rattle.route_table.specs.declared.wanted.Wanted.TheVariants.{Any, Due, Changed, DueOrChanged}

-- the least deadline of some routes, and whether a route change flag is set
pub record SummaryValue : Type 0 where
  pub due : Option ℕ
  pub changed : Bool

-- the summary of two lists of routes together
abbrev pub both : SummaryValue → SummaryValue → SummaryValue
both a b = record { due = earlier a.due b.due; changed = a.changed || b.changed }

-- the summary of no routes
abbrev pub no_routes : SummaryValue
no_routes = record { due = None; changed = false }

-- the summary of one route
abbrev pub summary_of_route : RouteValue → SummaryValue
summary_of_route r = record { due = deadline r; changed = r.changed }

-- the summary of several routes
abbrev pub summary_of : List (Prefix6 × RouteValue) → SummaryValue
summary_of [] = no_routes
summary_of (e ∷ es) = both (summary_of_route e.1) (summary_of es)

-- a deadline that may be missing, from a number and whether it counts
abbrev pub unpacked : Bool → ℕ → Option ℕ
unpacked true n = Some n
unpacked false n = None

-- the number that is kept for a deadline: 0 if there is none
abbrev pub packed_ms : Option ℕ → ℕ
packed_ms None = 0
packed_ms (Some n) = n

-- the number is 0 if there is no deadline
abbrev pub IsPacked : ℕ → Bool → Type 0
IsPacked due_ms ages = ages ≡ false → due_ms ≡ 0

-- whether a search looks for a route
abbrev pub meets : Wanted → RouteValue → Bool
meets Any r = true
meets (Due by) r = is_due by r
meets Changed r = r.changed
meets (DueOrChanged by) r = is_due by r || r.changed

-- the entries that a search looks for
abbrev pub wanted_of : Wanted → List (Prefix6 × RouteValue) → List (Prefix6 × RouteValue)
wanted_of w es = filter (λ e. meets w e.1) es

-- whether a search may find a route among those of a summary
abbrev pub may_meet : Wanted → SummaryValue → Bool
may_meet Any s = true
may_meet (Due by) s = is_reached by s.due
may_meet Changed s = s.changed
may_meet (DueOrChanged by) s = is_reached by s.due || s.changed
