-- Forwarding tables, their changes, and the longest match.
use Rattle.std.specs.Prelude.{◌≡◌, ℕ, ◌≤◌, ◌==◌, ◌&&◌, Bool, true, false, IsTrue, if◌then◌else◌, List, reverse, Option, Some, None, IsSomeAnd, unwrap_or, find, option_map}
use Rattle.std.specs.FinMap as map
use Rattle.prefix6.specs.Prefix.{Prefix6, IsPrefix, Holds, prefix_cmp, same_prefix}
use Rattle.fib.specs.declared.change.Hop.{Hop}
use Rattle.fib.specs.declared.change.Hop.TheVariants.{Direct, Via}
use Rattle.fib.specs.declared.change.RouteChange.{RouteChange}
use Rattle.fib.specs.declared.change.RouteChange.TheVariants.{Install, Withdraw}

-- an entry: where packets to a prefix go, and at what metric
pub record Forward : Type 0 where
  pub hop : Hop
  pub metric : ℕ

-- a forwarding table: a finite map from prefixes to entries
abbrev pub Forwarding : Type 0
Forwarding = map.FinMap prefix_cmp Forward

-- whether two hops are equal
abbrev pub same_hop : Hop → Hop → Bool
same_hop Direct Direct = true
same_hop (Via i h) (Via j k) = i == j && h == k
same_hop _ _ = false

-- whether two entries are equal, or both are missing
abbrev pub same_forward : Option Forward → Option Forward → Bool
same_forward None None = true
same_forward (Some f) (Some g) = same_hop f.hop g.hop && f.metric == g.metric
same_forward _ _ = false

-- ---- changes

-- the prefix that a change is about
abbrev pub prefix_of : RouteChange → Prefix6
prefix_of (Install p hop metric) = p
prefix_of (Withdraw p) = p

-- the entry that a change leaves at its prefix
abbrev pub forward_of : RouteChange → Option Forward
forward_of (Install p hop metric) = Some (record { hop = hop; metric = metric })
forward_of (Withdraw p) = None

-- whether a change leaves an entry
abbrev pub is_install : RouteChange → Bool
is_install (Install p hop metric) = true
is_install (Withdraw p) = false

-- the change that leaves this entry at a prefix
abbrev pub change_to : Prefix6 → Option Forward → RouteChange
change_to p (Some f) = Install p f.hop f.metric
change_to p None = Withdraw p

-- the change from one entry to another, if they differ
abbrev pub change_between : Prefix6 → Option Forward → Option Forward → Option RouteChange
change_between p old new = if same_forward old new then None else Some (change_to p new)

-- the last change of a prefix, if there is one
abbrev pub last_change : List RouteChange → Prefix6 → Option RouteChange
last_change changes p = find (λ c. same_prefix (prefix_of c) p) (reverse changes)

-- the new table has at each prefix what its last change left, or without a change what the old one has
abbrev pub Replays : Forwarding → List RouteChange → Forwarding → Type 0
Replays old changes new = (p : Prefix6) → map.get new p ≡ unwrap_or (option_map forward_of (last_change changes p)) (map.get old p)

-- ---- the longest match

-- a prefix of the table that contains the address
pub record IsMatch (table : Forwarding) (addr : ℕ) (p : Prefix6) : Type 0 where
  pub is_prefix : IsPrefix p
  pub present : IsTrue (map.contains_key table p)
  pub holds : Holds p addr

-- the hop of the longest prefix of the table that contains the address (RFC 4632, 5.1; for IPv6, RFC 7608, 2)
pub record IsLongestMatch (table : Forwarding) (addr : ℕ) (hop : Hop) : Type 0 where
  pub prefix : Prefix6
  pub matches : IsMatch table addr prefix
  pub longest : (p : Prefix6) → IsMatch table addr p → p.len ≤ prefix.len
  pub its_hop : IsSomeAnd (map.get table prefix) (λ f. f.hop ≡ hop)
