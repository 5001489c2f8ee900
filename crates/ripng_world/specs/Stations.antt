-- Routers of a network at their places.
use Rattle.std.specs.Prelude.{◌≡◌, ℕ, ◌<◌, ◌*◌, ◌/◌, max, ⊤, List, map, length, Some, slice_get}
use Rattle.ripng_world.specs.Below.{coded_table, State, Happening, Arrives, Ticks, Restarts, Reconfigures, ShutsDown, LinkGoesDown, LinkComesUp, NamesInterface, Change, Sent}
use Rattle.std.specs.FinMap as map_of
use Rattle.std.specs.Coded.{codes}
use Rattle.ripng_world.specs.Network.{Network, Node, config_of}
use Rattle.ripng_world.specs.World.{World, Event, Deliver, Stranger, Tick, Restart, Shutdown, LinkDown, LinkUp, Reconfigure, arrival_from}

-- a router that runs, and what it was configured to be when it started
pub record StationValue : Type 0 where
  pub node : Node
  pub state : State

-- how tables are coded, and all that is made of them
pub ruleset coded_states = (codes, coded_table)

-- the network of these routers
abbrev pub network_of : List StationValue → Network
network_of stations = map (λ s. s.node) stations

-- the world of these routers, with what was sent and changed
abbrev pub world_of : List StationValue → List Sent → List (ℕ × Change) → World
world_of stations sent reconfigurations = record { states = map (λ s. s.state) stations; sent = sent; reconfigurations = reconfigurations }

-- what the event is for its router, where datagrams come from these addresses
abbrev pub IsFor : (Sent → ℕ) → List Sent → Event → Happening → Type 0
IsFor address sent (Deliver datagram router iface now) h = (d : Sent) × (slice_get sent datagram ≡ Some d) × (h ≡ Arrives (arrival_from (address d) d iface now))
IsFor address sent (Stranger router x) h = h ≡ Arrives x
IsFor address sent (Tick router now word) h = h ≡ Ticks now word
IsFor address sent (Restart router now) h = h ≡ Restarts now
IsFor address sent (Shutdown router now) h = h ≡ ShutsDown now
IsFor address sent (LinkDown router now iface) h = h ≡ LinkGoesDown now iface
IsFor address sent (LinkUp router now iface) h = h ≡ LinkComesUp now iface
IsFor address sent (Reconfigure router now c) h = h ≡ Reconfigures now c

-- the datagram and the interface that it names are there
abbrev pub IsPlaced : Node → List Sent → Event → Type 0
IsPlaced node sent (Deliver datagram router iface now) = (datagram < length sent) × (iface < length node.interfaces)
IsPlaced node sent (Stranger router x) = x.iface < length node.interfaces
IsPlaced node sent (Reconfigure router now c) = NamesInterface (config_of node) c
IsPlaced node sent _ = ⊤

-- no answer to it has more datagrams
abbrev pub most_sends : State → Happening → ℕ
most_sends s (Arrives x) = max (map_of.len s.table) (length x.bytes / 20)
most_sends s (Ticks now word) = map_of.len s.table * length s.config.interfaces
most_sends s (Restarts now) = length s.config.interfaces
most_sends s (Reconfigures now c) = 0
most_sends s (ShutsDown now) = map_of.len s.table * length s.config.interfaces
most_sends s (LinkGoesDown now iface) = 0
most_sends s (LinkComesUp now iface) = 1
