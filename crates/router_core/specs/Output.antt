-- What a router sends: updates, Requests and replies (RFC 2080, 2.4.1, 2.5 and 2.6).
use Rattle.std.specs.Prelude.{◌≡◌, ℕ, suc, zero, ◌+◌, ◌-◌, ◌*◌, ◌/◌, ◌==◌, ◌&&◌, nat_le, nat_lt, Bool, true, false, if◌then◌else◌, List, [], ◌∷◌, ◌++◌, map, length, filter, flat_map, slice_range, All, Option, Some, None}
use Rattle.std.specs.List.{enumerate_from}
use Rattle.std.specs.FinMap as map_of
use Rattle.prefix6.specs.Prefix.{Prefix6, cleared}
use Rattle.ripng_wire.specs.declared.rte.Rte.{Rte}
use Rattle.ripng_wire.specs.declared.rte.Command.{Command}
use Rattle.ripng_wire.specs.declared.rte.Command.TheVariants.{Request, Response}
use Rattle.ripng_wire.specs.Layout.{Spells, entries_for_mtu}
use Rattle.route_table.specs.Route.{RouteValue, infinity}
use Rattle.route_table.specs.Table.{Table}
use Rattle.route_table.specs.declared.route.Origin.{Origin}
use Rattle.route_table.specs.declared.route.Origin.TheVariants.{Own, Learned}
use Rattle.router_core.specs.Announcing.{is_passive, is_announced, announced}
use Rattle.router_core.specs.Config.{Config, mtu_at}
use Rattle.router_core.specs.Faults.{ripng_port}
use Rattle.router_core.specs.Offers.{prefix_named}
use Rattle.router_core.specs.Received.{Received}
use Rattle.router_core.specs.declared.answer.Destination.{Destination}
use Rattle.router_core.specs.declared.answer.Destination.TheVariants.{Group, Peer}
use Rattle.router_core.specs.declared.answer.Outgoing.{Outgoing}
use Rattle.router_core.specs.declared.tell.Selection.{Selection}
use Rattle.router_core.specs.declared.tell.Selection.TheVariants.{Every, Changed, Unreachable}

-- the route was learned on that interface
abbrev pub is_learned_on : ℕ → Origin → Bool
is_learned_on iface Own = false
is_learned_on iface (Learned on from next_hop) = on == iface

-- split horizon with poisoned reverse: a route is advertised as unreachable where it was learned (RFC 2080, 2.6)
abbrev pub told_entry : ℕ → Prefix6 × RouteValue → Rte
told_entry iface t =
    record {
      addr = t.0.addr;
      tag = t.1.tag;
      len = t.0.len;
      metric = if is_learned_on iface t.1.origin then infinity else t.1.metric;
    }

-- the entries that advertise those routes of a list on an interface
abbrev pub told_of : ℕ → (RouteValue → Bool) → List (Prefix6 × RouteValue) → List Rte
told_of iface which routes = map (told_entry iface) (filter (λ t. which t.1) routes)

-- the entries that advertise those routes of a table on an interface, in the order of prefixes
abbrev pub told : ℕ → (RouteValue → Bool) → Table → List Rte
told iface which table = told_of iface which (map_of.entries table)

-- all routes: those of a regular update (RFC 2080, 2.5)
abbrev pub every_route : RouteValue → Bool
every_route r = true

-- the routes whose route change flag is set: those of a triggered update (RFC 2080, 2.5.1)
abbrev pub is_changed : RouteValue → Bool
is_changed r = r.changed

-- the routes that an update advertises
abbrev pub selected : Selection → RouteValue → Bool
selected Every = every_route
selected Changed = is_changed
selected Unreachable = every_route

-- 0, 1, .., n - 1
abbrev pub numbers_below : ℕ → List ℕ
numbers_below zero = []
numbers_below (suc n) = numbers_below n ++ n ∷ []

-- a list cut into pieces of n, of which the last may be shorter
abbrev pub pieces : {X : Type 0} → ℕ → List X → List (List X)
pieces n xs = map (λ k. slice_range xs (n * k) (n * k + n)) (numbers_below ((length xs + (n - 1)) / n))

-- the reply to one entry, by the route to its prefix (RFC 2080, 2.4.1)
abbrev pub filled : Rte → Option RouteValue → Rte
filled e None = record e { metric = infinity }
filled e (Some r) = record e { metric = r.metric; tag = r.tag }

-- the reply to one entry, by the table
abbrev pub reply_entry : Table → Rte → Rte
reply_entry table e = filled e (if nat_le e.len 128 then map_of.get table (cleared e.addr e.len) else None)

-- the entry that asks for the whole table (RFC 2080, 2.4.1)
abbrev pub whole_table_request : Rte
whole_table_request = record { addr = 0; tag = 0; len = 0; metric = infinity }

-- a Request for the whole table, with any tag (RFC 2080, 2.4.1)
abbrev pub asks_for_all : List Rte → Bool
asks_for_all (e ∷ []) = e.addr == 0 && e.len == 0 && e.metric == infinity
asks_for_all _ = false

-- the reply to one entry on an interface: to a prefix that is not announced there, as if there were no route
abbrev pub reply_on : Config → ℕ → Table → Rte → Rte
reply_on config iface table e = if is_announced config iface (prefix_named e) then reply_entry table e else filled e None

-- the entries of the reply to a Request: the whole table with split horizon, or entry by entry (RFC 2080, 2.4.1), of what is
-- announced on the interface
abbrev pub reply : Config → ℕ → Table → List Rte → List Rte
reply config iface table asked =
    if asks_for_all asked then told iface every_route (announced config iface table) else map (reply_on config iface table) asked

-- a datagram before it is written as bytes
pub record Message : Type 0 where
  pub iface : ℕ
  pub to : Destination
  pub command : Command
  pub entries : List Rte

-- the Responses that carry a list of entries, as many in each as the MTU allows (RFC 2080, 2.1)
abbrev pub responses_at : ℕ → ℕ → Destination → List Rte → List Message
responses_at mtu iface to entries =
    map (λ piece. record { iface = iface; to = to; command = Response; entries = piece })
    (pieces (entries_for_mtu mtu) entries)

-- the Response that advertises these routes on an interface, to the group
abbrev pub told_message : ℕ → List (Prefix6 × RouteValue) → Message
told_message iface routes = record { iface = iface; to = Group; command = Response; entries = map (told_entry iface) routes }

-- the Responses that carry a list of entries on an interface
abbrev pub responses : Config → ℕ → Destination → List Rte → List Message
responses config iface to entries = responses_at (mtu_at config iface) iface to entries

-- the Request for the whole table on an interface, to the group (RFC 2080, 2.4.1)
abbrev pub request_on : ℕ → Message
request_on iface = record { iface = iface; to = Group; command = Request; entries = whole_table_request ∷ [] }

-- the Request of a router of its own on an interface (RFC 2080, 2.4.1); on a passive one it sends none (this project's choice)
abbrev pub asked_on : Config → ℕ → List Message
asked_on config iface = if is_passive config iface then [] else request_on iface ∷ []

-- the Requests of a router that starts, on each interface (RFC 2080, 2.4.1)
abbrev pub start_messages : Config → List Message
start_messages config = flat_map (λ t. asked_on config t.0) (enumerate_from 0 config.interfaces)

-- the Request of a router when the link of an interface comes up: that of its start, on that interface alone. On an interface that is
-- not there none is sent (this project's choice)
abbrev pub link_up_messages : Config → ℕ → List Message
link_up_messages config iface = if nat_lt iface (length config.interfaces) then asked_on config iface else []

-- the update on an interface, of what is announced there (RFC 2080, 2.5); on a passive one none is sent (this project's choice)
abbrev pub update_on : Config → (RouteValue → Bool) → Table → ℕ → List Message
update_on config which table iface =
    if is_passive config iface then [] else responses config iface Group (told iface which (announced config iface table))

-- an update on each interface (RFC 2080, 2.5)
abbrev pub update_messages : Config → (RouteValue → Bool) → Table → List Message
update_messages config which table = flat_map (λ t. update_on config which table t.0) (enumerate_from 0 config.interfaces)

-- the reply to a Request (RFC 2080, 2.4.1); on a passive interface routers get none (this project's choice)
abbrev pub reply_messages : Config → Table → Received → List Rte → List Message
reply_messages config table x asked =
    if is_passive config x.iface && x.source_port == ripng_port then []
    else responses config x.iface (Peer x.source x.source_port) (reply config x.iface table asked)

-- an entry advertises a route of the table, on an interface that announces it
pub record Advertises (config : Config) (iface : ℕ) (table : Table) (entry : Rte) : Type 0 where
  pub prefix : Prefix6
  pub route : RouteValue
  pub is_held : map_of.get table prefix ≡ Some route
  pub is_let_out : is_announced config iface prefix ≡ true
  pub is_of_it : entry ≡ told_entry iface (prefix, route)

-- a message goes out on an interface that is not passive, and has only what is announced there
pub record KeepsToLists (config : Config) (table : Table) (m : Message) : Type 0 where
  pub is_active : is_passive config m.iface ≡ false
  pub each : All (Advertises config m.iface table) m.entries

-- the datagram is the message, written as bytes
pub record IsSpelled (m : Message) (o : Outgoing) : Type 0 where
  pub iface : o.iface ≡ m.iface
  pub to : o.to ≡ m.to
  pub bytes : Spells m.command m.entries o.bytes

-- the datagrams are the messages, one after another
abbrev pub AreSpelled : List Message → List Outgoing → Type 0
AreSpelled [] [] = Unit {0}
AreSpelled (m ∷ ms) (o ∷ os) = IsSpelled m o × AreSpelled ms os
AreSpelled [] (o ∷ os) = ⊥
AreSpelled (m ∷ ms) [] = ⊥

-- the datagrams of the messages are appended to the old ones
pub record AddsSpelled (messages : List Message) (old new : List Outgoing) : Type 0 where
  pub added : List Outgoing
  pub behind : new ≡ old ++ added
  pub spelled : AreSpelled messages added
