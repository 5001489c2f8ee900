-- The route to a prefix is changed in place, in one search (RFC 2080, 2.4.2).
use Rattle.std.specs.Prelude.{◌≡◌, List, Option, Some, None}
use Rattle.std.specs.FinMap as map
use Rattle.std.specs.FinMap.{find}
use Rattle.std.specs.FinMap.Entries.{put}
use Rattle.prefix6.specs.Prefix.{Prefix6, prefix_cmp}
use Rattle.route_table.specs.Route.{RouteValue}
use Rattle.route_table.specs.Table.{Table}

-- of some entries, the route to a prefix becomes another: `by` says of it, an answer and the other that this is so with that answer
pub record ChangesEntry {X : Type 0} (by : RouteValue → X → RouteValue → Type 0) (p : Prefix6) (old : List (Prefix6 × RouteValue)) (answer : X) (new : List (Prefix6 × RouteValue)) : Type 0 where
  pub before : RouteValue
  pub after : RouteValue
  pub held : find prefix_cmp p old ≡ Some before
  pub made : by before answer after
  pub placed : new ≡ put prefix_cmp p after old

-- the same of a table
pub record ChangesRoute {X : Type 0} (by : RouteValue → X → RouteValue → Type 0) (p : Prefix6) (old : Table) (answer : X) (new : Table) : Type 0 where
  pub before : RouteValue
  pub after : RouteValue
  pub held : map.get old p ≡ Some before
  pub made : by before answer after
  pub placed : new ≡ map.insert old p after

-- an update of a prefix: its route becomes another, with an answer; or there is none, and the table stays
abbrev pub Updates : {X : Type 0} → (RouteValue → X → RouteValue → Type 0) → Prefix6 → Table → Option X → Table → Type 0
Updates by p old None new = (map.get old p ≡ None) × (new ≡ old)
Updates by p old (Some answer) new = ChangesRoute by p old answer new

-- the same of entries
abbrev pub UpdatesEntries : {X : Type 0} → (RouteValue → X → RouteValue → Type 0) → Prefix6 → List (Prefix6 × RouteValue) → Option X → List (Prefix6 × RouteValue) → Type 0
UpdatesEntries by p old None new = (find prefix_cmp p old ≡ None) × (new ≡ old)
UpdatesEntries by p old (Some answer) new = ChangesEntry by p old answer new
