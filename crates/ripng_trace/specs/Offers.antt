-- What the record of an event says of offers: what each was, and which row of the table of adoption it fell under.
use Rattle.std.specs.Prelude.{◌≡◌, ℕ, ◌<◌, ◌==◌, ◌&&◌, not, Bool, if◌then◌else◌, List, [], length, map, take, filter, fold, Option, Some, unwrap_or, slice_get}
use Rattle.ripng_trace.specs.Below.{enumerate_from, list_any, Prefix6, same_prefix, RouteValue, Table, adopted, metric_through, reason, State, Brings, Offered, Received, Note, LabValue, Event, Deliver, arrival_from, Sent, addr_at, KnownRouter, OfferRecord}
use Rattle.std.specs.FinMap as map_of

-- a datagram of the network as it comes to an interface of its link
abbrev pub came : LabValue → Sent → ℕ → ℕ → Received
came lab d iface now = arrival_from (unwrap_or (addr_at lab d.router d.iface) 0) d iface now

-- one of the notes is of that entry
abbrev pub is_noted : List Note → ℕ → Bool
is_noted notes place = list_any (λ n. n.entry == place) notes

-- what an offer makes of the route to a prefix, if it is for this one and its entry has no note
abbrev pub with_offer : List Note → Prefix6 → Option RouteValue → Offered → Option RouteValue
with_offer notes p held o = if same_prefix o.prefix p && not (is_noted notes o.offer.place) then adopted o.gateway held o.offer else held

-- the route to a prefix after some offers, one after another
abbrev pub route_after : Table → List Note → List Offered → Prefix6 → Option RouteValue
route_after table notes offers p = fold (with_offer notes p) (map_of.get table p) offers

-- an offer, and its row of the table of adoption
abbrev pub offer_record : Offered → Option RouteValue → OfferRecord
offer_record o held =
    record {
      entry = o.offer.place;
      prefix = o.prefix;
      metric = metric_through o.gateway o.offer;
      tag = o.offer.tag;
      next_hop = o.offer.next_hop;
      why = reason o.gateway held o.offer;
    }

-- some of all offers, numbered from this one on, except those whose entry has a note: each by what the table and all offers before
-- it left
abbrev pub records_from : Table → List Note → List Offered → ℕ → List Offered → List OfferRecord
records_from table notes all number some =
    map (λ t. offer_record t.1 (route_after table notes (take t.0 all) t.1.prefix)) (filter (λ t. not (is_noted notes t.1.offer.place)) (enumerate_from number some))

-- all of them
abbrev pub offer_records : Table → List Note → List Offered → List OfferRecord
offer_records table notes offers = records_from table notes offers 0 offers

-- the records tell of all offers that an arrival brings to a router that had this table
abbrev pub TellsArrival : Table → State → Received → List Note → List OfferRecord → Type 0
TellsArrival table s x notes records =
    x.iface < length s.config.interfaces → (offers : List Offered) × Brings s x offers × (records ≡ offer_records table notes offers)

-- the records tell of all offers of an event, by the routers as they were known; of none where no datagram of the network comes
abbrev pub TellsOffers : List KnownRouter → LabValue → Event → List Note → List OfferRecord → Type 0
TellsOffers routers lab (Deliver datagram router iface now) notes records =
    (known : KnownRouter) (s : State) (sent : Sent) → slice_get routers router ≡ Some known → slice_get lab.world.states router ≡ Some s → slice_get lab.world.sent datagram ≡ Some sent
    → TellsArrival known.table s (came lab sent iface now) notes records
TellsOffers routers lab _ notes records = records ≡ []
