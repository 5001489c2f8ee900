-- Which routes an update advertises, and as what (RFC 2080, 2.3 and 2.5).
use Rattle.std.specs.Prelude.{ℕ, if◌then◌else◌, Option, Some, None, option_and_then}
use Rattle.route_table.specs.Route.{RouteValue}
use Rattle.route_table.specs.declared.wanted.Wanted.{Wanted}
use Rattle.route_table.specs.declared.wanted.Wanted.TheVariants.{Any, DueOrChanged}
use Rattle.route_table.specs.Table.{Table, map_values}
use Rattle.router_core.specs.Adoption.{lost}
use Rattle.router_core.specs.Ageing.{aged}
use Rattle.router_core.specs.Output.{selected}
use Rattle.router_core.specs.declared.tell.Selection.{Selection}
use Rattle.router_core.specs.declared.tell.Selection.TheVariants.{Every, Changed, Unreachable}

-- what is left of a route as an update is made: its timers are looked at, or at a shutdown it is unreachable
abbrev pub settled : ℕ → Selection → RouteValue → Option RouteValue
settled now Every = aged now
settled now Changed = aged now
settled now Unreachable = λ r. Some (lost now r)

-- the table as an update is made
abbrev pub settled_table : ℕ → Selection → Table → Table
settled_table now which table = map_values (settled now which) table

-- a route as an update advertises it, if it does
abbrev pub told_route : ℕ → Selection → RouteValue → Option RouteValue
told_route now which r = option_and_then (λ left. if selected which left then Some left else None) (settled now which r)

-- which routes an update may advertise: a triggered one only those whose timer has ended or whose route change flag is set
abbrev pub may_be_told : ℕ → Selection → Wanted
may_be_told now Every = Any
may_be_told now Changed = DueOrChanged now
may_be_told now Unreachable = Any
