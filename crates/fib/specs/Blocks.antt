-- Sorted blocks of entries, in the order of their prefixes.
use Rattle.std.specs.Prelude.{◌≡◌, ◌≢◌, ℕ, ◌+◌, ◌<◌, not, List, [], ◌∷◌, ◌++◌, length, take, drop, slice_index_or, T, All}
use Rattle.std.specs.declared.cmp.Ordering.TheVariants.{Less}
use Rattle.std.specs.Ordering.{eq_by_cmp}
use Rattle.std.specs.FinMap.{is_sorted}
use Rattle.std.specs.FinMap.Entries.{where_key}
use Rattle.prefix6.specs.Places.{IsAt, IsGap}
use Rattle.prefix6.specs.Prefix.{Prefix6, prefix_cmp}
use Rattle.fib.specs.declared.change.Hop.{Hop}
use Rattle.fib.specs.Entries.{Entry}
use Rattle.fib.specs.Forwarding.{Forward}

-- prefixes, each with what the table has there
abbrev pub Pairs : Type 0
Pairs = List (Prefix6 × Forward)

-- a hop and a metric, as the table has them
abbrev pub forward_in : Hop × ℕ → Forward
forward_in f = record { hop = f.0; metric = f.1 }

-- what an entry leaves at its prefix
abbrev pub forward_of_entry : Entry → Forward
forward_of_entry e = record { hop = e.1; metric = e.2 }

-- a block with so many entries or more is full
abbrev pub block_limit : ℕ
block_limit = 128

-- how many entries a full block keeps when it is split
abbrev pub half_block : ℕ
half_block = 64

-- the entries of blocks one after the other
abbrev pub joined : List Pairs → Pairs
joined [] = []
joined (b ∷ bs) = b ++ joined bs

-- the block at a place
abbrev pub block_at : List Pairs → ℕ → Pairs
block_at bs i = slice_index_or bs i []

-- the entries without the one of a prefix
abbrev pub without : Prefix6 → Pairs → Pairs
without p = where_key prefix_cmp (λ q. not (eq_by_cmp prefix_cmp p q))

-- the entries begin at the prefix, if there are any
abbrev pub StartsAt : Prefix6 → Pairs → Type 0
StartsAt p [] = Unit {0}
StartsAt p (e ∷ es) = e.0 ≡ p

-- the invariant of a block
pub record IsBlock (first : Prefix6) (es : Pairs) : Type 0 where
  pub sorted : T (is_sorted prefix_cmp es)
  pub starts : StartsAt first es

-- no block is empty
abbrev pub AreFilled : List Pairs → Type 0
AreFilled bs = All (λ b. 0 < length b) bs

-- blocks in order, none of them empty
pub record AreBlocks (bs : List Pairs) : Type 0 where
  pub sorted : T (is_sorted prefix_cmp (joined bs))
  pub filled : AreFilled bs

-- the invariant of a table
pub record IsFib (count : ℕ) (bs : List Pairs) : Type 0 where
  pub blocks : AreBlocks bs
  pub counted : count ≡ length (joined bs)

-- the block in which a prefix is, or into which it would go
pub record IsHome (bs : List Pairs) (p : Prefix6) (i : ℕ) : Type 0 where
  pub in_range : i < length bs
  pub below : All (λ e. prefix_cmp e.0 p ≡ Less) (joined (take i bs))
  pub above : All (λ e. prefix_cmp p e.0 ≡ Less) (joined (drop (i + 1) bs))

-- a block that is not the first begins no later than the prefix
abbrev pub IsFrom : List Pairs → Prefix6 → ℕ → Type 0
IsFrom bs p i = 0 < i → (d : Prefix6 × Forward) → prefix_cmp p (slice_index_or (block_at bs i) 0 d).0 ≢ Less

-- the block of a prefix and its place there
pub record IsPlaced (bs : List Pairs) (p : Prefix6) (at : ℕ × ℕ) : Type 0 where
  pub home : IsHome bs p at.0
  pub place : IsAt (block_at bs at.0) p at.1

-- the block into which a prefix would go and its place there, if there are blocks
pub record IsVacant (bs : List Pairs) (p : Prefix6) (at : ℕ × ℕ) : Type 0 where
  pub home : 0 < length bs → IsHome bs p at.0
  pub gap : 0 < length bs → IsGap (block_at bs at.0) p at.1
