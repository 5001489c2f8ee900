-- Sorted blocks of routes, in the order of their prefixes.
use Rattle.std.specs.Prelude.{◌≡◌, ℕ, ◌+◌, ◌<◌, ◌≤◌, false, Option, List, [], ◌∷◌, ◌++◌, length, take, drop, slice_index_or, T, All}
use Rattle.std.specs.declared.cmp.Ordering.TheVariants.{Less}
use Rattle.std.specs.FinMap.{is_sorted}
use Rattle.prefix6.specs.Prefix.{Prefix6, prefix_cmp}
use Rattle.prefix6.specs.Places.{IsAt}
use Rattle.route_table.specs.Route.{RouteValue}
use Rattle.route_table.specs.Place.{Entries}
use Rattle.route_table.specs.Summary.{SummaryValue, both, summary_of_route}
use Rattle.route_table.specs.Table.{table_limit, is_past}

-- the most routes of a block
abbrev pub block_limit : ℕ
block_limit = 128

-- how many routes a full block keeps when it is split
abbrev pub half_block : ℕ
half_block = 64

-- the entries of blocks one after the other
abbrev pub joined : List Entries → Entries
joined [] = []
joined (b ∷ bs) = b ++ joined bs

-- the block at a place
abbrev pub block_at : List Entries → ℕ → Entries
block_at bs i = slice_index_or bs i []

-- a summary bounds a route: its deadline is not later than the route's, and its flag is set if the route's is
abbrev pub IsUnder : SummaryValue → RouteValue → Type 0
IsUnder s r = both s (summary_of_route r) ≡ s

-- a summary bounds each of the entries
abbrev pub Covers : SummaryValue → Entries → Type 0
Covers s es = All (λ e. IsUnder s e.1) es

-- the entries begin at the prefix, if there are any
abbrev pub StartsAt : Prefix6 → Entries → Type 0
StartsAt p [] = Unit {0}
StartsAt p (e ∷ es) = e.0 ≡ p

-- the invariant of a block
pub record IsBlock (first : Prefix6) (bound : SummaryValue) (es : Entries) : Type 0 where
  pub sorted : T (is_sorted prefix_cmp es)
  pub few : length es ≤ block_limit
  pub starts : StartsAt first es
  pub covered : Covers bound es

-- no block is empty
abbrev pub AreFilled : List Entries → Type 0
AreFilled bs = All (λ b. 0 < length b) bs

-- blocks in order, none of them empty
pub record AreBlocks (bs : List Entries) : Type 0 where
  pub sorted : T (is_sorted prefix_cmp (joined bs))
  pub filled : AreFilled bs

-- the invariant of the whole store
pub record IsStore (count : ℕ) (bound : SummaryValue) (bs : List Entries) : Type 0 where
  pub blocks : AreBlocks bs
  pub covered : Covers bound (joined bs)
  pub counted : count ≡ length (joined bs)
  pub few : count ≤ table_limit

-- the block in which a prefix is, or into which it would go
pub record IsHome (bs : List Entries) (p : Prefix6) (i : ℕ) : Type 0 where
  pub in_range : i < length bs
  pub below : All (λ e. prefix_cmp e.0 p ≡ Less) (joined (take i bs))
  pub above : All (λ e. prefix_cmp p e.0 ≡ Less) (joined (drop (i + 1) bs))

-- the block of a prefix and its place there
pub record IsPlaced (bs : List Entries) (p : Prefix6) (at : ℕ × ℕ) : Type 0 where
  pub home : IsHome bs p at.0
  pub place : IsAt (block_at bs at.0) p at.1

-- the home of a prefix has room for one more
pub record HasRoom (bs : List Entries) (p : Prefix6) (i : ℕ) : Type 0 where
  pub home : IsHome bs p i
  pub room : length (block_at bs i) < block_limit

-- before this block nothing is past the prefix
pub record IsStart (bs : List Entries) (after : Option Prefix6) (i : ℕ) : Type 0 where
  pub in_range : i ≤ length bs
  pub before : All (λ e. is_past after e.0 ≡ false) (joined (take i bs))
