-- The JSON of each record (RFC 8259): an object that has a member for each field, in order; and its text.
use Rattle.std.specs.Prelude.{ℕ, List, [], ◌∷◌, Option, Some, None, Bool, true, false, map, codes, decimal, option_map, String, string_bytes}
use Rattle.ripng_trace.specs.Below.{Bor, Global, encode_lower, Json, null, boolean, number, string, array, object, Items, no_items, item, Members, no_members, member, print, json_tokens, Prefix6, written_addr, written_prefix, Hop, Direct, Via, RouteChange, Install, Withdraw, RouteValue, deadline, Origin, reason_name, fault_name, fault_number, note_name, note_number, Received, Destination, Group, Peer, Note, Fault, Interface, Change, Cost, Own, Disown, event_of, Sent, Event, Deliver, Stranger, Tick, Restart, Shutdown, LinkDown, LinkUp, Reconfigure, Action, AsideRecord, EventRecord, Happened, Numbers, OfferRecord, RouterRecord, StartRecord, Timers, UpdateRecord, Regular, Triggered, Held}
use Rattle.route_table.specs.declared.route.Origin.TheVariants as origin
use Rattle.ripng_trace.specs.declared.records.Action.TheVariants as action

-- the text: no space between the tokens, and in strings the shortest escapes
abbrev pub text_of : Json → List ℕ
text_of json = print (json_tokens json)

-- ---- values

abbrev pub number_of : ℕ → Json
number_of n = number (decimal n)

abbrev pub address_of : ℕ → Json
address_of a = string (written_addr a)

abbrev pub prefix_of : Prefix6 → Json
prefix_of p = string (written_prefix p)

-- bytes, in hexadecimal digits
abbrev pub hex_of : List ℕ → Json
hex_of bytes = string (encode_lower bytes)

-- what is not there is null
abbrev pub option_of : {X : Type 0} → (X → Json) → Option X → Json
option_of json None = null
option_of json (Some x) = json x

abbrev pub items_of : List Json → Items
items_of [] = no_items
items_of (json ∷ rest) = item json (items_of rest)

-- a list, item by item
abbrev pub list_of : {X : Type 0} → (X → Json) → List X → Json
list_of json xs = array (items_of (map json xs))

abbrev pub members_of : List (List ℕ × Json) → Members
members_of [] = no_members
members_of (m ∷ rest) = member m.0 m.1 (members_of rest)

-- an object, member by member
abbrev pub object_of : List (List ℕ × Json) → Json
object_of members = object (members_of members)

-- ---- a router

-- with the number of its link
unfoldable pub json_of_interface : Interface × Option ℕ → Json
json_of_interface r =
    object_of
    ((codes "addr", address_of r.0.addr)
    ∷ (codes "cost", number_of r.0.cost)
    ∷ (codes "mtu", number_of r.0.mtu)
    ∷ (codes "link", option_of number_of r.1)
    ∷ [])

unfoldable pub json_of_owned : Prefix6 × ℕ → Json
json_of_owned t = object_of ((codes "prefix", prefix_of t.0) ∷ (codes "tag", number_of t.1) ∷ [])

unfoldable pub json_of_due : ℕ × Prefix6 → Json
json_of_due d = object_of ((codes "until", number_of d.0) ∷ (codes "prefix", prefix_of d.1) ∷ [])

unfoldable pub json_of_timers : Timers → Json
json_of_timers r =
    object_of
    ((codes "last", number_of r.last)
    ∷ (codes "regular", number_of r.regular)
    ∷ (codes "hold", number_of r.hold)
    ∷ (codes "due", option_of json_of_due r.due)
    ∷ [])

-- from where a route was learned, if it is not the router's own
unfoldable pub json_of_origin : Origin → Json
json_of_origin origin.Own = null
json_of_origin (origin.Learned iface from next_hop) =
    object_of
    ((codes "iface", number_of iface)
    ∷ (codes "from", address_of from)
    ∷ (codes "next_hop", address_of next_hop)
    ∷ [])

-- a route to a prefix: which clock it has follows from its origin and its metric
unfoldable pub json_of_route : Prefix6 × RouteValue → Json
json_of_route e =
    object_of
    ((codes "prefix", prefix_of e.0)
    ∷ (codes "metric", number_of e.1.metric)
    ∷ (codes "tag", number_of e.1.tag)
    ∷ (codes "gateway", json_of_origin e.1.origin)
    ∷ (codes "until", option_of number_of (deadline e.1))
    ∷ (codes "marked", boolean e.1.changed)
    ∷ [])

unfoldable pub json_of_router : RouterRecord → Json
json_of_router r =
    object_of
    ((codes "quiet", boolean r.quiet)
    ∷ (codes "interfaces", list_of json_of_interface r.interfaces.items)
    ∷ (codes "prefixes", list_of json_of_owned r.prefixes.items)
    ∷ (codes "timers", json_of_timers r.timers)
    ∷ (codes "routes", list_of json_of_route r.routes.items)
    ∷ [])

-- ---- what happened

-- from where a datagram was sent
unfoldable pub json_of_sender : Bor Sent × Option ℕ → Json
json_of_sender r =
    object_of
    ((codes "router", number_of r.0.now.router)
    ∷ (codes "iface", number_of r.0.now.iface)
    ∷ (codes "addr", option_of address_of r.1)
    ∷ [])

-- the kind of what happened, and what there is to say of it
abbrev pub happened_as : List ℕ → List (List ℕ × Json) → Json
happened_as kind members = object_of ((codes "kind", string kind) ∷ members)

-- a datagram of no router; of a lie the port, the hop limit and the destination are those of every lie
unfoldable pub json_of_stranger : Bool → Received → Json
json_of_stranger false x =
    happened_as (codes "stranger")
    ((codes "iface", number_of x.iface)
    ∷ (codes "source", address_of x.source)
    ∷ (codes "port", number_of x.source_port)
    ∷ (codes "hop_limit", number_of x.hop_limit)
    ∷ (codes "group", boolean x.to_group)
    ∷ (codes "bytes", hex_of x.bytes)
    ∷ [])
json_of_stranger true x =
    happened_as (codes "liar")
    ((codes "iface", number_of x.iface)
    ∷ (codes "source", address_of x.source)
    ∷ (codes "bytes", hex_of x.bytes)
    ∷ [])

unfoldable pub json_of_reconfigured : Change → Json
json_of_reconfigured (Cost iface cost) = happened_as (codes "cost") ((codes "iface", number_of iface) ∷ (codes "cost", number_of cost) ∷ [])
json_of_reconfigured (Own p tag) = happened_as (codes "gain") ((codes "prefix", prefix_of p) ∷ (codes "tag", number_of tag) ∷ [])
json_of_reconfigured (Disown p) = happened_as (codes "drop") ((codes "prefix", prefix_of p) ∷ [])

-- an event, whether its stranger lies, and who sent the datagram of a delivery
abbrev pub json_by_event : Event → Bool → Option (Bor Sent × Option ℕ) → Json
json_by_event (Deliver datagram router iface now) is_forged sender =
    happened_as (codes "deliver")
    ((codes "datagram", number_of datagram)
    ∷ (codes "iface", number_of iface)
    ∷ (codes "sender", option_of json_of_sender sender)
    ∷ [])
json_by_event (Stranger router x) is_forged sender = json_of_stranger is_forged x
json_by_event (Tick router now word) is_forged sender = happened_as (codes "tick") ((codes "word", number_of word) ∷ [])
json_by_event (Restart router now) is_forged sender = happened_as (codes "restart") []
json_by_event (Shutdown router now) is_forged sender = happened_as (codes "shutdown") []
json_by_event (LinkDown router now iface) is_forged sender = happened_as (codes "link_down") ((codes "iface", number_of iface) ∷ [])
json_by_event (LinkUp router now iface) is_forged sender = happened_as (codes "link_up") ((codes "iface", number_of iface) ∷ [])
json_by_event (Reconfigure router now c) is_forged sender = json_of_reconfigured c

unfoldable pub json_of_happened : Happened → Json
json_of_happened h = json_by_event (event_of h.event.now) h.is_forged h.sender

-- ---- the answer

unfoldable pub json_of_fault : Fault → Json
json_of_fault fault = object_of ((codes "number", number_of (fault_number fault)) ∷ (codes "name", string (fault_name fault)) ∷ [])

unfoldable pub json_of_note : Note → Json
json_of_note n =
    object_of
    ((codes "entry", number_of n.entry)
    ∷ (codes "number", number_of (note_number n.kind))
    ∷ (codes "name", string (note_name n.kind))
    ∷ [])

unfoldable pub json_of_offer : OfferRecord → Json
json_of_offer r =
    object_of
    ((codes "entry", number_of r.entry)
    ∷ (codes "prefix", prefix_of r.prefix)
    ∷ (codes "metric", number_of r.metric)
    ∷ (codes "tag", number_of r.tag)
    ∷ (codes "next_hop", address_of r.next_hop)
    ∷ (codes "why", string (reason_name r.why))
    ∷ [])

abbrev pub update_name : UpdateRecord → List ℕ
update_name Regular = codes "regular"
update_name Triggered = codes "triggered"
update_name Held = codes "held"

abbrev pub json_of_update : UpdateRecord → Json
json_of_update update = string (update_name update)

-- where packets go, if not to a prefix of the router's own
unfoldable pub json_of_hop : Hop → Json
json_of_hop Direct = null
json_of_hop (Via iface next_hop) = object_of ((codes "iface", number_of iface) ∷ (codes "next_hop", address_of next_hop) ∷ [])

unfoldable pub json_of_change : RouteChange → Json
json_of_change (Install p hop metric) =
    object_of
    ((codes "change", string (codes "add"))
    ∷ (codes "prefix", prefix_of p)
    ∷ (codes "metric", number_of metric)
    ∷ (codes "via", json_of_hop hop)
    ∷ [])
json_of_change (Withdraw p) = object_of ((codes "change", string (codes "del")) ∷ (codes "prefix", prefix_of p) ∷ [])

-- to whom, if not to the group
unfoldable pub json_of_peer : Destination → Json
json_of_peer Group = null
json_of_peer (Peer addr port) = object_of ((codes "addr", address_of addr) ∷ (codes "port", number_of port) ∷ [])

unfoldable pub json_of_sent : ℕ × Bor Sent → Json
json_of_sent r =
    object_of
    ((codes "datagram", number_of r.0)
    ∷ (codes "router", number_of r.1.now.router)
    ∷ (codes "iface", number_of r.1.now.iface)
    ∷ (codes "peer", json_of_peer r.1.now.to)
    ∷ (codes "bytes", hex_of r.1.now.bytes)
    ∷ [])

-- ---- the records of lines

-- the line of the script, the record's name, and what there is to say
abbrev pub record_as : ℕ → List ℕ → List (List ℕ × Json) → Json
record_as line name members = object_of ((codes "line", number_of line) ∷ (codes "record", string name) ∷ members)

unfoldable pub json_of_start : StartRecord → Json
json_of_start r =
    record_as r.line (codes "start")
    ((codes "now", number_of r.now)
    ∷ (codes "routers", list_of json_of_router r.routers.items)
    ∷ (codes "sent", list_of json_of_sent r.sent.items)
    ∷ [])

unfoldable pub json_of_event : EventRecord → Json
json_of_event r =
    record_as r.line (codes "event")
    ((codes "router", number_of r.router)
    ∷ (codes "now", number_of r.now)
    ∷ (codes "event", json_of_happened r.happened)
    ∷ (codes "fault", option_of json_of_fault r.answer.now.fault)
    ∷ (codes "notes", list_of json_of_note r.answer.now.notes)
    ∷ (codes "offers", list_of json_of_offer r.offers.items)
    ∷ (codes "update", option_of json_of_update r.update)
    ∷ (codes "changes", list_of json_of_change r.answer.now.changes)
    ∷ (codes "sent", list_of json_of_sent r.sent.items)
    ∷ (codes "timers", option_of json_of_timers r.timers)
    ∷ (codes "routes", list_of json_of_route r.news.routes.items)
    ∷ (codes "gone", list_of prefix_of r.news.gone.items)
    ∷ [])

unfoldable pub json_of_hint : ℕ × String Global → Json
json_of_hint r = object_of ((codes "line", number_of r.0) ∷ (codes "text", string (string_bytes r.1)) ∷ [])

unfoldable pub json_of_counts : ℕ → Numbers → Option ℕ → Json
json_of_counts line numbers last =
    record_as line (codes "counts")
    ((codes "datagrams", number_of numbers.datagrams)
    ∷ (codes "entries", number_of numbers.entries)
    ∷ (codes "bytes", number_of numbers.bytes)
    ∷ (codes "regular", number_of numbers.regular)
    ∷ (codes "triggered", number_of numbers.triggered)
    ∷ (codes "requests", number_of numbers.requests)
    ∷ (codes "replies", number_of numbers.replies)
    ∷ (codes "changes", number_of numbers.changes)
    ∷ (codes "last", option_of number_of last)
    ∷ [])

abbrev pub json_by_action : ℕ → Action → Json
json_by_action line (action.Prints word lines text) = record_as line word.now ((codes "prints", list_of (λ text. string text.now) lines.items) ∷ [])
json_by_action line (action.Asks names router now lost lost_at) =
    record_as line (codes "asks") ((codes "router", number_of router) ∷ (codes "now", number_of now) ∷ (codes "lost", prefix_of lost) ∷ (codes "lost_at", number_of lost_at) ∷ [])
json_by_action line (action.Loses datagram) = record_as line (codes "lost") ((codes "datagram", number_of datagram) ∷ [])
json_by_action line (action.GoesRound rounds last) = record_as line (codes "rounds") ((codes "rounds", number_of rounds) ∷ (codes "last", option_of number_of last) ∷ [])
json_by_action line (action.Makes made) = record_as line (codes "phases") ((codes "phases", number_of made.phases) ∷ (codes "last", option_of number_of made.last) ∷ [])
json_by_action line (action.Runs until seed) = record_as line (codes "run") ((codes "until", number_of until) ∷ (codes "seed", number_of seed) ∷ [])
json_by_action line (action.Tallies numbers) = json_of_counts line numbers (option_map (λ change. change.at) numbers.last)
json_by_action line (action.Ends how why hint) = record_as line (codes "refused") ((codes "why", string why.now) ∷ (codes "hint", option_of json_of_hint hint) ∷ [])

unfoldable pub json_of_aside : AsideRecord → Json
json_of_aside r = json_by_action r.line r.action
