-- What one offer does to a table (RFC 2080, 2.4.2).
use Rattle.std.specs.Prelude.{ℕ, nat_le, Bool, ◌&&◌, not, if◌then◌else◌, Option, Some, None, is_none, is_some}
use Rattle.std.specs.FinMap as map_of
use Rattle.prefix6.specs.Prefix.{Prefix6}
use Rattle.fib.specs.declared.change.RouteChange.{RouteChange}
use Rattle.ripng_wire.specs.declared.rte.Rte.{Rte}
use Rattle.route_table.specs.Route.{RouteValue}
use Rattle.route_table.specs.Table.{Table, table_limit, with_value}
use Rattle.router_core.specs.Adoption.{Gateway, adopted}
use Rattle.router_core.specs.Changes.{change}
use Rattle.router_core.specs.Filters.{is_by, is_limit_reached}
use Rattle.router_core.specs.Offers.{Offer, prefix_named}
use Rattle.router_core.specs.declared.answer.NoteKind.{NoteKind}
use Rattle.router_core.specs.declared.answer.NoteKind.TheVariants.{TableFull, NoMemory, LimitReached}

-- an offer for a prefix, from a gateway, and the table before it
pub record Meeting : Type 0 where
  pub gateway : Gateway
  pub offer : Offer
  pub prefix : Prefix6
  pub table : Table

-- a meeting of these parts
abbrev pub meeting : Gateway → Offer → Prefix6 → Table → Meeting
meeting g o p table = record { gateway = g; offer = o; prefix = p; table = table }

-- the meeting of an entry at its place, with the next hop that is set there
abbrev pub entry_meeting : Gateway → Rte → ℕ → ℕ → Table → Meeting
entry_meeting g e next_hop place table =
    meeting g (record { metric = e.metric; tag = e.tag; next_hop = next_hop; place = place }) (prefix_named e) table

-- the route to the prefix before the offer
abbrev pub held : Meeting → Option RouteValue
held m = map_of.get m.table m.prefix

-- the route to the prefix after the offer
abbrev pub met : Meeting → Option RouteValue
met m = adopted m.gateway (held m) m.offer

-- the table after the offer
abbrev pub table_met : Meeting → Table
table_met m = with_value m.table m.prefix (met m)

-- the change of the forwarding entry
abbrev pub change_met : Meeting → Option RouteChange
change_met m = change m.prefix (held m) (met m)

-- the offer is for a first route to the prefix
abbrev pub adds : Meeting → Bool
adds m = is_none (held m) && is_some (met m)

-- the offer brings a route by way of the interface to a prefix that has none by it
abbrev pub brings : Meeting → Bool
brings m = not (is_by m.gateway.iface (held m)) && is_by m.gateway.iface (met m)

-- why the limit of the interface refuses the offer, if it does: it would bring a route more, and as many are held as may be
abbrev pub limit_refusal : Meeting → Option ℕ → ℕ → Option NoteKind
limit_refusal m limit held = if brings m && is_limit_reached limit held then Some LimitReached else None

-- why a first route cannot be added: the table is full, or memory ran out
abbrev pub refusal_of_new : Table → NoteKind
refusal_of_new table = if nat_le table_limit (map_of.len table) then TableFull else NoMemory
