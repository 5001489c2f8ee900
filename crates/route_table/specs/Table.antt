-- Tables of routes: finite maps from prefixes, in the order of address, then length (RFC 2080, 2.2).
use Rattle.std.specs.Prelude.{ℕ, Bool, true, List, Option, Some, None, filter, filter_map, option_map, find, codes}
use Rattle.std.specs.Ordering.{is_lt}
use Rattle.std.specs.FinMap as map
use Rattle.prefix6.specs.Prefix.{Prefix6, prefix_cmp}
use Rattle.route_table.specs.Route.{RouteValue}
use Rattle.route_table.specs.declared.store.AddRefused.{AddRefused}
use Rattle.route_table.specs.declared.store.AddRefused.TheVariants.{Full, NoMemory}

-- a finite map from prefixes
abbrev pub ByPrefix : Type 0 → Type 0
ByPrefix X = map.FinMap prefix_cmp X

-- a routing table: at most one route to each prefix
abbrev pub Table : Type 0
Table = ByPrefix RouteValue

-- the most routes of a table: this project's choice
abbrev pub table_limit : ℕ
table_limit = 65_536

-- the entries with f applied to their values; those for which f gives None are left out
abbrev pub map_entries : {X Y : Type 0} → (X → Option Y) → List (Prefix6 × X) → List (Prefix6 × Y)
map_entries f = filter_map (λ e. option_map (λ y. (e.0, y)) (f e.1))

-- the map with f applied to its values; those for which f gives None are left out
abbrev pub map_values : {X Y : Type 0} → (X → Option Y) → ByPrefix X → ByPrefix Y
map_values f m = map.from_entries (map_entries f (map.entries m))

-- the map with this value at a prefix, or with no value there
abbrev pub with_value : {X : Type 0} → ByPrefix X → Prefix6 → Option X → ByPrefix X
with_value m p None = map.remove m p
with_value m p (Some x) = map.insert m p x

-- the table after an update of a prefix, given its route before and after, if there is one
abbrev pub table_with : Prefix6 → Option (RouteValue × RouteValue) → Table → Table
table_with p None table = table
table_with p (Some made) table = map.insert table p made.1

-- whether a prefix comes after the given one, if any
abbrev pub is_past : Option Prefix6 → Prefix6 → Bool
is_past None p = true
is_past (Some after) p = is_lt (prefix_cmp after p)

-- the first entry past a prefix, or the first of all
abbrev pub first_past : Option Prefix6 → Table → Option (Prefix6 × RouteValue)
first_past after table = find (λ e. is_past after e.0) (map.entries table)

-- the entries past a prefix, or all of them
abbrev pub past : Option Prefix6 → List (Prefix6 × RouteValue) → List (Prefix6 × RouteValue)
past after es = filter (λ e. is_past after e.0) es

-- the number of a refusal, as tests print it
abbrev pub add_refused_number : AddRefused → ℕ
add_refused_number Full = 1
add_refused_number NoMemory = 2

-- the name of a refusal, as the variant is spelled
abbrev pub add_refused_name : AddRefused → List ℕ
add_refused_name Full = codes "Full"
add_refused_name NoMemory = codes "NoMemory"
