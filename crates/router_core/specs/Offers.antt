-- What the entries of a Response offer (RFC 2080, 2.1.1 and 2.4.2).
use Rattle.std.specs.Prelude.{ℕ, ◌==◌, ◌&&◌, ◌||◌, not, nat_lt, Bool, if◌then◌else◌, List, [], ◌∷◌, ◌++◌, map, reverse, take, filter, find, codes, decimal, Option, Some, None, is_none}
use Rattle.std.specs.List.{enumerate_from}
use Rattle.prefix6.specs.Addr.{is_link_local}
use Rattle.prefix6.specs.Prefix.{Prefix6, cleared, is_routable, same_prefix}
use Rattle.ripng_wire.specs.declared.rte.Rte.{Rte}
use Rattle.ripng_wire.specs.Layout.{is_next_hop}
use Rattle.ripng_wire.specs.Wire.{first_reason}
use Rattle.route_table.specs.Route.{infinity}
use Rattle.router_core.specs.Config.{Config, is_address_of_one}
use Rattle.router_core.specs.declared.answer.NoteKind.{NoteKind}
use Rattle.router_core.specs.declared.answer.NoteKind.TheVariants.{BadLength, BadPrefix, BadMetric, TableFull, NoMemory, NotAccepted, LimitReached}

-- the number of a note, as it is printed
abbrev pub note_number : NoteKind → ℕ
note_number BadLength = 20
note_number BadPrefix = 21
note_number BadMetric = 22
note_number TableFull = 23
note_number NoMemory = 24
note_number NotAccepted = 25
note_number LimitReached = 26

-- the name of a note, as the variant is spelled
abbrev pub note_name : NoteKind → List ℕ
note_name BadLength = codes "BadLength"
note_name BadPrefix = codes "BadPrefix"
note_name BadMetric = codes "BadMetric"
note_name TableFull = codes "TableFull"
note_name NoMemory = codes "NoMemory"
note_name NotAccepted = codes "NotAccepted"
note_name LimitReached = codes "LimitReached"

-- a note as it is printed: `NUMBER NAME`
abbrev pub note_text : NoteKind → List ℕ
note_text kind = decimal (note_number kind) ++ (codes " " ++ note_name kind)

-- the prefix that an entry names: bits past its length are cleared (RFC 2080, 2.1)
abbrev pub prefix_named : Rte → Prefix6
prefix_named e = cleared e.addr e.len

-- the reasons to skip an entry, each with whether it applies (RFC 2080, 2.4.2)
abbrev pub entry_reasons : Rte → List (Bool × NoteKind)
entry_reasons e =
    (nat_lt 128 e.len, BadLength)
    ∷ (not (is_routable (prefix_named e)), BadPrefix)
    ∷ (e.metric == 0 || nat_lt infinity e.metric, BadMetric)
    ∷ []

-- the first reason to skip an entry, if there is one
abbrev pub flaw : Rte → Option NoteKind
flaw e = first_reason (entry_reasons e)

-- the entry offers a route: it is not a next hop entry, and there is no reason to skip it (RFC 2080, 2.4.2)
abbrev pub is_offer : Rte → Bool
is_offer e = not (is_next_hop e) && is_none (flaw e)

-- the next hop that a next hop entry sets: its address if it can be a neighbor's, and otherwise the source (RFC 2080, 2.1.1)
abbrev pub usable_hop : Config → ℕ → Option Rte → ℕ
usable_hop config source None = source
usable_hop config source (Some e) = if is_link_local e.addr && not (is_address_of_one config e.addr) then e.addr else source

-- the next hop of the entry at a place: the last next hop entry before it sets it (RFC 2080, 2.1.1)
abbrev pub next_hop_at : Config → ℕ → List Rte → ℕ → ℕ
next_hop_at config source entries place = usable_hop config source (find is_next_hop (reverse (take place entries)))

-- a route that an entry offers, before the cost of the interface is added (RFC 2080, 2.4.2)
pub record Offer : Type 0 where
  pub metric : ℕ
  pub tag : ℕ
  pub next_hop : ℕ
  pub place : ℕ

-- the offer of the entry at a place, from 0
abbrev pub offer_at : Config → ℕ → List Rte → ℕ → Rte → Offer
offer_at config source entries place e =
    record { metric = e.metric; tag = e.tag; next_hop = next_hop_at config source entries place; place = place }

-- what the entries offer for one prefix, in their order
abbrev pub offers : Config → ℕ → List Rte → Prefix6 → List Offer
offers config source entries p =
    map (λ t. offer_at config source entries t.0 t.1)
    (filter (λ t. is_offer t.1 && same_prefix (prefix_named t.1) p) (enumerate_from 0 entries))
