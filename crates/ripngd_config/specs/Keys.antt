-- The schema of a configuration: the keys of its tables, each with what it holds.
use Rattle.std.specs.Prelude.{◌≡◌, ℕ, Bool, true, false, if◌then◌else◌, List, [], ◌∷◌, codes, is_some, ⊤, bytes_eq}
use Rattle.ripngd_config.specs.Below.{list_any, Members, get_member, member, no_members}

-- what a key holds (a number with its least and its greatest, a table with the keys that it may have, an array of values of a kind),
-- and the keys of a table: name, whether it is required, kind
mutual
  pub data Kind : Type 0 where
    number : ℕ → ℕ → Kind
    address : Kind
    prefix : Kind
    range : Kind
    truth : Kind
    table : (Members → Keys) → Kind
    array : Kind → Kind

  pub data Keys : Type 0 where
    no_keys : Keys
    key : List ℕ → Bool → Kind → Keys → Keys

-- an array of tables
abbrev pub sections : (Members → Keys) → Kind
sections keys = array (table keys)

-- the keys of a peer
abbrev pub peer_keys : Members → Keys
peer_keys ms = key (codes "address") true address
    (key (codes "local_port") true (number 1 65535)
    (key (codes "port") false (number 0 65535)
    (key (codes "hop_limit") false (number 0 255)
    (key (codes "group") false truth no_keys))))

-- the keys of a port of loopback, in place of a real link
abbrev pub local_keys : Keys
local_keys = key (codes "local_port") true (number 1 65535)
    (key (codes "group_port") false (number 1 65535)
    (key (codes "peer") false (sections peer_keys) no_keys))

-- the keys of the sockets of a real link, of which standard input, output and error are none
abbrev pub real_keys : Keys
real_keys = key (codes "descriptor") true (number 3 65535)
    (key (codes "group_descriptor") true (number 3 65535)
    (key (codes "far_descriptor") false (number 3 65535) no_keys))

-- the table is of a real link: it has the key `descriptor`
abbrev pub is_real_table : Members → Bool
is_real_table ms = is_some (get_member (codes "descriptor") ms)

-- the keys of the link that the table is of
abbrev pub link_keys : Members → Keys
link_keys ms = if is_real_table ms then real_keys else local_keys

-- the keys of an interface, with those of its link
abbrev pub keys_with : Keys → Keys
keys_with link = key (codes "address") true address
    (key (codes "cost") true (number 0 255)
    (key (codes "mtu") false (number 0 4294967295)
    (key (codes "zone") false (number 0 65535)
    (key (codes "accept") false (array range)
    (key (codes "reject") false (array range)
    (key (codes "limit") false (number 1 65536)
    (key (codes "passive") false truth
    (key (codes "announce") false (array range)
    (key (codes "announce_not") false (array range) link)))))))))

-- the keys of an interface
abbrev pub interface_keys : Members → Keys
interface_keys ms = keys_with (link_keys ms)

-- the keys of an owned prefix
abbrev pub prefix_keys : Members → Keys
prefix_keys ms = key (codes "prefix") true prefix
    (key (codes "tag") false (number 0 65535) no_keys)

-- the keys of the whole
abbrev pub document_keys : Members → Keys
document_keys ms = key (codes "seed") false (number 0 9223372036854775807)
    (key (codes "interface") false (sections interface_keys)
    (key (codes "prefix") false (sections prefix_keys) no_keys))

-- ---- which keys a table has

-- the names of keys
abbrev pub names_of : Keys → List (List ℕ)
names_of no_keys = []
names_of (key name required kind rest) = name ∷ names_of rest

-- the name is among them
abbrev pub is_listed : List (List ℕ) → List ℕ → Bool
is_listed names name = list_any (λ known. bytes_eq known name) names

-- the table has only these keys
abbrev pub HasOnlyOf : List (List ℕ) → Members → Type 0
HasOnlyOf names no_members = ⊤
HasOnlyOf names (member name d ms) = (is_listed names name ≡ true) × HasOnlyOf names ms

-- only these keys
abbrev pub HasOnly : (Members → Keys) → Members → Type 0
HasOnly keys ms = HasOnlyOf (names_of (keys ms)) ms
