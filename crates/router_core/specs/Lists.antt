-- What filters name, and what those of an interface let through, in or out. RFC 2080 has none; they are this project's choice.
use Rattle.std.specs.Prelude.{ℕ, ◌==◌, ◌&&◌, ◌||◌, not, nat_le, Bool, true, false, if◌then◌else◌, List}
use Rattle.std.specs.List.{list_any}
use Rattle.prefix6.specs.Prefix.{Prefix6, same_prefix, contains}
use Rattle.router_core.specs.declared.filter.Action.{Action}
use Rattle.router_core.specs.declared.filter.Action.TheVariants.{Accept, Reject}
use Rattle.router_core.specs.declared.filter.Filter.{Filter}

-- whether a filter accepts what it names
abbrev pub is_accept : Action → Bool
is_accept Accept = true
is_accept Reject = false

-- whether a prefix is another, or lies within it
abbrev pub is_within : Prefix6 → Prefix6 → Bool
is_within p q = nat_le p.len q.len && contains p q.addr

-- whether a filter names a prefix: its own alone, or each within that
abbrev pub names : Filter → Prefix6 → Bool
names f p = if f.is_longer then is_within f.prefix p else same_prefix f.prefix p

-- whether a filter of the interface rejects the prefix
abbrev pub is_rejected_by : List Filter → ℕ → Prefix6 → Bool
is_rejected_by filters iface p = list_any (λ f. f.iface == iface && not (is_accept f.action) && names f p) filters

-- whether a filter of the interface accepts the prefix
abbrev pub is_accepted_by : List Filter → ℕ → Prefix6 → Bool
is_accepted_by filters iface p = list_any (λ f. f.iface == iface && is_accept f.action && names f p) filters

-- whether the interface accepts what is named alone
abbrev pub accepts_named_alone : List Filter → ℕ → Bool
accepts_named_alone filters iface = list_any (λ f. f.iface == iface && is_accept f.action) filters

-- whether the filters of an interface let a prefix through: none rejects it, and one accepts it if there are any that accept
abbrev pub lets_through : List Filter → ℕ → Prefix6 → Bool
lets_through filters iface p =
    not (is_rejected_by filters iface p) && (not (accepts_named_alone filters iface) || is_accepted_by filters iface p)
