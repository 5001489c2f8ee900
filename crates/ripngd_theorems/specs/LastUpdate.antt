-- What a neighbor receives of the last update of a router that shuts down, and which routes have ended then.
use Rattle.std.specs.Prelude.{◌≡◌, ℕ, ◌<◌, ◌≤◌, ◌==◌, ◌&&◌, if◌then◌else◌, List, [], ◌∷◌, ◌++◌, map, filter, length, All, Contains, Some, slice_get}
use Rattle.ripngd_theorems.specs.Below.{Prefix6, RouteValue, IsRoute, infinity, Table, Learned, State, Happening, Arrives, Moves, Answer, Outgoing, World, Event, Deliver, is_heard, Sent}
use Rattle.std.specs.FinMap as map_of

-- where the table's route to the prefix was learned on the interface from that address, it is unreachable
abbrev pub HasNoneBy : (iface from : ℕ) → Table → Prefix6 → Type 0
HasNoneBy iface from table p =
    (r : RouteValue) (next_hop : ℕ) → map_of.get table p ≡ Some r → r.origin ≡ Learned iface from next_hop → infinity ≤ r.metric

-- ---- of one router

-- each route of the table is lawful
abbrev pub AreRoutes : Table → Type 0
AreRoutes table = (p : Prefix6) (r : RouteValue) → map_of.get table p ≡ Some r → IsRoute r

-- what is received on the interface from that address: the bytes of a Response that is not refused
abbrev pub heard_from : (iface from : ℕ) → State → Happening → List (List ℕ)
heard_from iface from s (Arrives x) = if x.iface == iface && x.source == from && is_heard s x then x.bytes ∷ [] else []
heard_from iface from s _ = []

-- the happenings lead the router from one state to another, and this is all that it receives so on the way, in order
abbrev pub HearsFrom : (iface from : ℕ) → State → List Happening → List (List ℕ) → State → Type 0
HearsFrom iface from s [] heard s' = (heard ≡ []) × (s' ≡ s)
HearsFrom iface from s (h ∷ happenings) heard s' =
    (mid : State) × (answer : Answer) × (later : List (List ℕ)) × Moves s h answer mid × HearsFrom iface from mid happenings later s'
    × (heard ≡ heard_from iface from s h ++ later)

-- the bytes of what is sent on an interface
abbrev pub sent_on : ℕ → List Outgoing → List (List ℕ)
sent_on iface sends = map (λ o. o.bytes) (filter (λ o. o.iface == iface) sends)

-- all that was sent is received, in any order and any number of times, and nothing else is
pub record IsHeardWhole (sent heard : List (List ℕ)) : Type 0 where
  pub all : All (Contains heard) sent
  pub only : All (Contains sent) heard

-- ---- in a network

-- the datagram was sent after the first of two worlds, and before the second
abbrev pub IsSentBetween : World → World → ℕ → Type 0
IsSentBetween w w' datagram = (length w.sent ≤ datagram) × (datagram < length w'.sent)

-- what the router sent on its interface between two worlds is delivered to the interface of another router, in whatever order and
-- however often; and of all that it sent there until the last world, nothing else is
pub record IsDeliveredWhole (w w' end : World) (router iface other on : ℕ) (events : List Event) : Type 0 where
  pub all : (datagram : ℕ) (d : Sent) → slice_get w'.sent datagram ≡ Some d → IsSentBetween w w' datagram → d.iface ≡ iface
      → (now : ℕ) × Contains events (Deliver datagram other on now)
  pub only : (datagram now : ℕ) (d : Sent) → Contains events (Deliver datagram other on now) → slice_get end.sent datagram ≡ Some d → d.router ≡ router → d.iface ≡ iface
      → IsSentBetween w w' datagram
