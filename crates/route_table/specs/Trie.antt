-- The trie of routes: the entries of its nodes, and the invariant of a fork.
use Rattle.std.specs.Prelude.{◌≡◌, ℕ, ◌+◌, ◌<◌, ◌≤◌, not, [], ◌∷◌, ◌++◌, length, T, All, Option, Some, None, Box}
use Rattle.std.specs.Ordering.{eq_by_cmp}
use Rattle.std.specs.FinMap.Entries.{put, where_key}
use Rattle.std.specs.declared.alloc.Global.{Global}
use Rattle.std.specs.FinMap.{is_sorted}
use Rattle.prefix6.specs.Prefix.{Prefix6, prefix_cmp}
use Rattle.prefix6.specs.Halves.{IsLow, IsHigh, IsWithin}
use Rattle.route_table.specs.Route.{RouteValue}
use Rattle.route_table.specs.Place.{Entries}
use Rattle.route_table.specs.Table.{table_limit}
use Rattle.route_table.specs.Summary.{SummaryValue, summary_of}
use Rattle.route_table.specs.declared.trie.Node.{Node}
use Rattle.route_table.specs.declared.trie.Node.TheVariants.{Empty, Leaf, Fork}

-- the entries below a node
abbrev pub linked : Node → Entries
linked Empty = []
linked (Leaf leaf) = leaf.value ∷ []
linked (Fork fork) = fork.value

-- the entry at a fork's own prefix, if there is one
abbrev pub owned : Option (Box (Prefix6 × RouteValue) Global) → Entries
owned None = []
owned (Some leaf) = leaf.value ∷ []

-- the route at a fork's own prefix
abbrev pub own_value : Option (Box (Prefix6 × RouteValue) Global) → Option RouteValue
own_value None = None
own_value (Some leaf) = Some leaf.value.1

-- the entries without the one of a prefix
abbrev pub without : Prefix6 → Entries → Entries
without p = where_key prefix_cmp (λ q. not (eq_by_cmp prefix_cmp p q))

-- the entries after an update of a prefix, given its route before and after, if there is one
abbrev pub entries_with : Prefix6 → Option (RouteValue × RouteValue) → Entries → Entries
entries_with p None es = es
entries_with p (Some made) es = put prefix_cmp p made.1 es

-- a fork's entries in order: its own, then those of its lower and of its upper half
abbrev pub in_turn : Entries → Entries → Entries → Entries
in_turn own low high = own ++ (low ++ high)

-- the entries of a fork, by its parts
abbrev pub fork_entries : Option (Box (Prefix6 × RouteValue) Global) → Node → Node → Entries
fork_entries own low high = in_turn (owned own) (linked low) (linked high)

-- a node that is not empty has a route
abbrev pub HasEntries : Node → Type 0
HasEntries Empty = Unit {0}
HasEntries (Leaf leaf) = Unit {0}
HasEntries (Fork fork) = 0 < length fork.value

-- the entries of a fork are divided by its prefix: at the prefix, under the next bit 0, and under the next bit 1
pub record AreParts (p : Prefix6) (own low high : Entries) : Type 0 where
  pub sorted : T (is_sorted prefix_cmp (in_turn own low high))
  pub at_prefix : All (λ e. e.0 ≡ p) own
  pub lower : All (λ e. IsLow p e.0) low
  pub upper : All (λ e. IsHigh p e.0) high

-- neither half has all entries, so paths are compressed
pub record AreShared (own low high : Entries) : Type 0 where
  pub not_low_alone : 0 < length low → 0 < length own + length high
  pub not_high_alone : 0 < length high → 0 < length own + length low

-- the invariant of a fork
pub record IsFork (p : Prefix6) (s : SummaryValue) (own : Option (Box (Prefix6 × RouteValue) Global)) (low high : Node) : Type 0 where
  pub parts : AreParts p (owned own) (linked low) (linked high)
  pub shared : AreShared (owned own) (linked low) (linked high)
  pub low_some : HasEntries low
  pub high_some : HasEntries high
  pub summed : s ≡ summary_of (fork_entries own low high)

-- entries that all lie in a prefix, as those of a fork do
pub record AreIn (p : Prefix6) (es : Entries) : Type 0 where
  pub sorted : T (is_sorted prefix_cmp es)
  pub some : 0 < length es
  pub within : All (λ e. IsWithin p e.0) es

-- the invariant of a whole trie with its count
pub record IsTrie (count : ℕ) (root : Node) : Type 0 where
  pub sorted : T (is_sorted prefix_cmp (linked root))
  pub some : HasEntries root
  pub counted : count ≡ length (linked root)
  pub few : count ≤ table_limit
