-- The entries of a forwarding table as they are listed.
use Rattle.std.specs.Prelude.{◌≡◌, ◌≢◌, ℕ, ◌+◌, ◌<◌, ◌≤◌, T, List, Option, Some, None, map as each, length, take, drop, slice_index_or as get_or}
use Rattle.std.specs.declared.cmp.Ordering.TheVariants.{Greater}
use Rattle.std.specs.FinMap as map
use Rattle.std.specs.FinMap.{entries, from_sorted, is_sorted}
use Rattle.prefix6.specs.Prefix.{Prefix6, prefix_cmp}
use Rattle.fib.specs.declared.change.Hop.{Hop}
use Rattle.fib.specs.Forwarding.{Forward, Forwarding, IsMatch}

-- an entry: prefix, hop and metric
abbrev pub Entry : Type 0
Entry = Prefix6 × Hop × ℕ

-- an entry, as the table has it at its prefix
abbrev pub at_prefix : Entry → Prefix6 × Forward
at_prefix e = (e.0, record { hop = e.1; metric = e.2 })

-- a prefix and what the table has there, as an entry
abbrev pub fib_entry : Prefix6 × Forward → Entry
fib_entry e = (e.0, e.1.hop, e.1.metric)

-- the entries of a table in the order of address, then length
abbrev pub listed : Forwarding → List Entry
listed table = each fib_entry (entries table)

-- the table of a list of entries in that order
abbrev pub table_of : List Entry → Forwarding
table_of es = from_sorted (each at_prefix es)

-- the entries are in that order, at most one for each prefix
pub record AreInOrder (es : List Entry) : Type 0 where
  pub rising : T (is_sorted prefix_cmp (each at_prefix es))

-- no entry comes after the prefix
pub record AreUpTo (es : List Entry) (p : Prefix6) : Type 0 where
  pub up_to : (i : ℕ) (d : Entry) → i < length es → prefix_cmp (get_or es i d).0 p ≢ Greater

-- each entry from a place on comes after the prefix
pub record AreAllPast (es : List Entry) (p : Prefix6) (from : ℕ) : Type 0 where
  pub past : (i : ℕ) (d : Entry) → from ≤ i → i < length es → prefix_cmp (get_or es i d).0 p ≡ Greater

-- the last entry that does not come after the prefix stands at a place
pub record IsLastUpTo (es : List Entry) (p : Prefix6) (i : ℕ) : Type 0 where
  pub in_range : i < length es
  pub up_to : (d : Entry) → prefix_cmp (get_or es i d).0 p ≢ Greater
  pub rest : AreAllPast es p (i + 1)

-- the last entry that does not come after the prefix
pub record IsLastOf (es : List Entry) (p : Prefix6) (e : Entry) : Type 0 where
  pub place : ℕ
  pub last : IsLastUpTo es p place
  pub there : (d : Entry) → e ≡ get_or es place d

-- ---- what lies after a prefix
-- the entries from this place on are those after a prefix, or all of them
abbrev pub IsPast : List Entry → Option Prefix6 → ℕ → Type 0
IsPast es None begin = begin ≡ 0
IsPast es (Some p) begin = AreUpTo (take begin es) p × AreAllPast es p begin

-- the entries of a list after a prefix, or all of them
pub record AreAfter (es : List Entry) (after : Option Prefix6) (rest : List Entry) : Type 0 where
  pub begin : ℕ
  pub past : IsPast es after begin
  pub are : rest ≡ drop begin es

-- ---- the longest match
-- this is the entry of the longest prefix of a table that contains the address
pub record IsLongestEntry (table : Forwarding) (addr : ℕ) (e : Entry) : Type 0 where
  pub matches : IsMatch table addr e.0
  pub longest : (p : Prefix6) → IsMatch table addr p → p.len ≤ e.0.len
  pub stands : map.get table e.0 ≡ Some (record { hop = e.1; metric = e.2 })

-- it is that entry; or no prefix of the table contains the address
abbrev pub IsLookedUp : Forwarding → ℕ → Option Entry → Type 0
IsLookedUp table addr (Some e) = IsLongestEntry table addr e
IsLookedUp table addr None = (p : Prefix6) → ¬ (IsMatch table addr p)
