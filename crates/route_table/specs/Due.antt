-- Routes whose timer has ended, routes whose route change flag is set, and what a walk over them finds (RFC 2080, 2.3 and 2.5.1).
use Rattle.std.specs.Prelude.{◌≡◌, ◌≢◌, ℕ, ◌≤◌, Bool, false, ◌&&◌, nat_le, min, List, [], ◌∷◌, Option, Some, None, find, option_map, option_and_then}
use Rattle.std.specs.declared.cmp.Ordering.TheVariants.{Less}
use Rattle.std.specs.FinMap as map
use Rattle.prefix6.specs.Prefix.{Prefix6, prefix_cmp}
use Rattle.route_table.specs.Route.{RouteValue, deadline}
use Rattle.route_table.specs.Table.{Table, is_past, map_values}

-- whether there is a deadline, and it is reached
abbrev pub is_reached : ℕ → Option ℕ → Bool
is_reached now None = false
is_reached now (Some until) = nat_le until now

-- whether a route has a timer, and it has ended (RFC 2080, 2.3)
abbrev pub is_due : ℕ → RouteValue → Bool
is_due now r = is_reached now (deadline r)

-- the earlier of two deadlines, or the only one, if there is one
abbrev pub earlier : Option ℕ → Option ℕ → Option ℕ
earlier None b = b
earlier (Some a) None = Some a
earlier (Some a) (Some b) = Some (min a b)

-- the least deadline of the routes
abbrev pub least_deadline : List (Prefix6 × RouteValue) → Option ℕ
least_deadline [] = None
least_deadline (e ∷ es) = earlier (deadline e.1) (least_deadline es)

-- the first entry past a prefix whose route passes a test
abbrev pub first_where : (RouteValue → Bool) → Option Prefix6 → List (Prefix6 × RouteValue) → Option (Prefix6 × RouteValue)
first_where test after es = find (λ e. test e.1 && is_past after e.0) es

-- the first entry past a prefix whose timer has ended
abbrev pub first_due : ℕ → Option Prefix6 → Table → Option (Prefix6 × RouteValue)
first_due now after table = first_where (is_due now) after (map.entries table)

-- the first entry past a prefix whose route change flag is set
abbrev pub first_changed : Option Prefix6 → Table → Option (Prefix6 × RouteValue)
first_changed after table = first_where (λ r. r.changed) after (map.entries table)

-- the route with its route change flag cleared (RFC 2080, 2.5.1)
abbrev pub without_mark : RouteValue → Option RouteValue
without_mark r = Some (record r { changed = false })

-- the table with all route change flags cleared (RFC 2080, 2.5.1)
abbrev pub unmarked : Table → Table
unmarked table = map_values without_mark table

-- the least deadline, with the first prefix whose route has it
abbrev pub next_due : Table → Option (ℕ × Prefix6)
next_due table = option_and_then (λ least. option_map (λ e. (least, e.0)) (first_due least None table)) (least_deadline (map.entries table))

-- the deadline of the route to a prefix, if there is one
abbrev pub deadline_at : Table → Prefix6 → Option ℕ
deadline_at table p = option_and_then deadline (map.get table p)

-- the route to a prefix has this deadline, and every other is later, or equal for a prefix that comes after
pub record IsFirstDue (table : Table) (until : ℕ) (p : Prefix6) : Type 0 where
  pub its_deadline : deadline_at table p ≡ Some until
  pub earliest : (q : Prefix6) (other : ℕ) → deadline_at table q ≡ Some other → until ≤ other
  pub not_before : (q : Prefix6) → deadline_at table q ≡ Some until → prefix_cmp q p ≢ Less
