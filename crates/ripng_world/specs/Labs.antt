-- A lab: a lawful network that has run since a cold start, and what then holds.
use Rattle.std.specs.Prelude.{◌≡◌, ℕ, ◌<◌, ◌≤◌, ◌==◌, nat_le, not, Bool, false, List, [], ◌∷◌, ◌++◌, map, ◌⊎◌, length, Option, Some, None, IfNone, IfSome, is_none, option_map, option_and_then, slice_get, unwrap_or, codes}
use Rattle.ripng_world.specs.Below.{AllByRecursion, option_map_or, Prefix6, first_reason, RouteValue, infinity, State, Happening, Received, reconfigure_reasons, reconfigure_fault, Answer, Change, Cost, Own, Disown, ReconfigureRefused, LabError, NoSuchRouter, NoSuchInterface, NoSuchDatagram, OtherLink, NotAStranger, OutOfMemory, NotALiar, Sent}
use Rattle.std.specs.FinMap as map_of
use Rattle.router_core.specs.declared.reconfiguring.ReconfigureRefused.TheVariants as refused
use Rattle.ripng_world.specs.Network.{Network, Node, IsNetwork, interface_at}
use Rattle.ripng_world.specs.Rounds.{router_of}
use Rattle.ripng_world.specs.Stations.{StationValue, IsFor, IsPlaced, network_of, world_of}
use Rattle.ripng_world.specs.Walks.{IsTableBacked, IsLeast}
use Rattle.ripng_world.specs.Past.{IsTableBackedSince, IsLeastSince}
use Rattle.ripng_world.specs.Truth.{IsSoundDatagram}
use Rattle.ripng_world.specs.TruthSince.{IsSoundDatagramSince}
use Rattle.ripng_world.specs.World.{World, Event, Deliver, Stranger, Tick, Restart, Shutdown, LinkDown, LinkUp, Reconfigure, Happens, RouterMoves, WorldRun, IsCold, address_at, is_heard, past_of, reconfigurations_in}

-- what callers see of a lab: the network as it started, and the world
pub record LabValue : Type 0 where
  pub network : Network
  pub world : World

-- the lab of these routers, of what was sent and of what was changed
abbrev pub lab_of : List StationValue → List Sent → List (ℕ × Change) → LabValue
lab_of stations sent reconfigurations = record { network = network_of stations; world = world_of stations sent reconfigurations }

-- the network is lawful, and the world is what some events made of a cold one
pub record HasRun (net : Network) (w : World) : Type 0 where
  pub lawful : IsNetwork net
  pub moments : List ℕ
  pub events : List Event
  pub cold : World
  pub is_cold : IsCold net moments cold
  pub run : WorldRun net cold events w

-- ---- what holds of every network that has run

-- it holds of every router
abbrev pub InEachRouter : (ℕ → State → Type 0) → World → Type 0
InEachRouter holds w = (router : ℕ) (state : State) → slice_get w.states router ≡ Some state → holds router state

-- no route below infinity is below such a least cost
abbrev pub HasNoneBelow : (Prefix6 → ℕ → Type 0) → State → Type 0
HasNoneBelow least state =
    (p : Prefix6) (r : RouteValue) (metric : ℕ) → map_of.get state.table p ≡ Some r → r.metric < infinity → least p metric → metric ≤ r.metric

-- every route below infinity of every router is backed by a walk at costs in force since the cold start
abbrev pub AreRoutesBackedSince : Network → World → Type 0
AreRoutesBackedSince net w = InEachRouter (λ router state. IsTableBackedSince (past_of net w) router state.table) w

-- no such route is below the least such cost
abbrev pub HasNoneBelowLeastSince : Network → World → ℕ → State → Type 0
HasNoneBelowLeastSince net w router state = HasNoneBelow (λ p metric. IsLeastSince (past_of net w) router p metric) state

-- the same of every router
abbrev pub HaveNoneBelowLeastSince : Network → World → Type 0
HaveNoneBelowLeastSince net w = InEachRouter (HasNoneBelowLeastSince net w) w

-- every entry below infinity of every Response ever sent advertises such a walk from its sender
abbrev pub AreDatagramsSoundSince : Network → World → Type 0
AreDatagramsSoundSince net w = AllByRecursion (λ d. IsSoundDatagramSince (past_of net w) d.router d.bytes) w.sent

-- ---- and what holds where costs and owners are fixed

-- every route below infinity of every router is backed by a walk
abbrev pub AreRoutesBacked : Network → World → Type 0
AreRoutesBacked net w = InEachRouter (λ router state. IsTableBacked net router state.table) w

-- no such route is below the least cost
abbrev pub HasNoneBelowLeast : Network → ℕ → State → Type 0
HasNoneBelowLeast net router state = HasNoneBelow (λ p metric. IsLeast net router p metric) state

-- the same of every router
abbrev pub HaveNoneBelowLeast : Network → World → Type 0
HaveNoneBelowLeast net w = InEachRouter (HasNoneBelowLeast net) w

-- every entry below infinity of every Response ever sent advertises a walk from its sender
abbrev pub AreDatagramsSound : Network → List Sent → Type 0
AreDatagramsSound net sent = AllByRecursion (λ d. IsSoundDatagram net d.router d.bytes) sent

-- all three, while no change was done
pub record HoldsFixed (net : Network) (w : World) : Type 0 where
  pub backed : w.reconfigurations ≡ [] → AreRoutesBacked net w
  pub least : w.reconfigurations ≡ [] → HaveNoneBelowLeast net w
  pub truth : w.reconfigurations ≡ [] → AreDatagramsSound net w.sent

-- ---- what every call of a lab keeps

-- whatever the call did, and however it ended, all this holds of the lab
pub record Keeps (lab : LabValue) : Type 0 where
  pub backed : AreRoutesBackedSince lab.network lab.world
  pub least : HaveNoneBelowLeastSince lab.network lab.world
  pub truth : AreDatagramsSoundSince lab.network lab.world
  pub fixed : HoldsFixed lab.network lab.world

-- ---- steps

-- the event happens. The answer that is given lacks its sends, which are now among all that were sent
abbrev pub HappensGiving : LabValue → Event → Answer → World → Type 0
HappensGiving lab e given w = (answer : Answer) × Happens lab.network lab.world e answer w × (given ≡ record answer { sends = [] })

-- ---- which events are refused

-- the link of an interface, if there is such a router and interface
abbrev pub link_at : Network → ℕ → ℕ → Option ℕ
link_at net router iface = option_map (λ i. i.link) (interface_at net router iface)

-- the link that a datagram was sent on
abbrev pub link_of_datagram : LabValue → ℕ → Option ℕ
link_of_datagram lab datagram = option_and_then (λ d. link_at lab.network d.router d.iface) (slice_get lab.world.sent datagram)

-- both are there, and are one link
abbrev pub is_one_link : Option ℕ → Option ℕ → Bool
is_one_link (Some a) (Some b) = a == b
is_one_link _ _ = false

-- the router would take the arrival for a Response of its link
abbrev pub is_heard_at : World → ℕ → Received → Bool
is_heard_at w router x = option_map_or (λ s. is_heard s x) (slice_get w.states router) false

-- the router must be there
abbrev pub missing_router_reasons : Network → ℕ → List (Bool × LabError)
missing_router_reasons net router = (nat_le (length net) router, NoSuchRouter) ∷ []

-- and so must the interface
abbrev pub missing_interface_reasons : Network → ℕ → ℕ → List (Bool × LabError)
missing_interface_reasons net router iface = missing_router_reasons net router ++ (is_none (interface_at net router iface), NoSuchInterface) ∷ []

-- a change of cost names an interface, and one of a prefix names none
abbrev pub named_reasons : Network → ℕ → Change → List (Bool × LabError)
named_reasons net router (Cost iface cost) = missing_interface_reasons net router iface
named_reasons net router (Own p tag) = missing_router_reasons net router
named_reasons net router (Disown p) = missing_router_reasons net router

-- the reasons to refuse an event before its router is asked, in their order
abbrev pub event_reasons : LabValue → Event → List (Bool × LabError)
event_reasons lab (Deliver datagram router iface now) =
    missing_interface_reasons lab.network router iface
    ++ (nat_le (length lab.world.sent) datagram, NoSuchDatagram)
    ∷ (not (is_one_link (link_of_datagram lab datagram) (link_at lab.network router iface)), OtherLink)
    ∷ []
event_reasons lab (Stranger router x) = missing_interface_reasons lab.network router x.iface ++ (is_heard_at lab.world router x, NotAStranger) ∷ []
event_reasons lab (Tick router now word) = missing_router_reasons lab.network router
event_reasons lab (Restart router now) = missing_router_reasons lab.network router
event_reasons lab (Shutdown router now) = missing_router_reasons lab.network router
event_reasons lab (LinkDown router now iface) = missing_interface_reasons lab.network router iface
event_reasons lab (LinkUp router now iface) = missing_interface_reasons lab.network router iface
event_reasons lab (Reconfigure router now c) = named_reasons lab.network router c

-- the first reason that applies, before the router itself is asked
abbrev pub event_fault : LabValue → Event → Option LabError
event_fault lab e = first_reason (event_reasons lab e)

-- a router's own refusal, where out of memory is the lab's
abbrev pub refusal_of : ReconfigureRefused → LabError
refusal_of refused.OutOfMemory = OutOfMemory
refusal_of why = LabError.ReconfigureRefused why

-- the reasons to refuse the router itself
abbrev pub asked_reasons : World → Event → List (Bool × LabError)
asked_reasons w (Reconfigure router now c) =
    option_map_or (λ s. map (λ t. (t.0, LabError.ReconfigureRefused t.1)) (reconfigure_reasons s.config s.table c)) (slice_get w.states router) []
asked_reasons w _ = []

-- the first reason of all that applies
abbrev pub step_fault : LabValue → Event → Option LabError
step_fault lab e = first_reason (event_reasons lab e ++ asked_reasons lab.world e)

-- an event is refused by the first reason that applies, or out of memory once the router is to be asked
abbrev pub IsRefusal : LabValue → Event → LabError → Type 0
IsRefusal lab e why = (step_fault lab e ≡ Some why) ⊎ ((event_fault lab e ≡ None) × (why ≡ OutOfMemory))

-- the router of the event is there, and so is what the event names
abbrev pub IsPlacedIn : LabValue → Event → Type 0
IsPlacedIn lab e = (node : Node) × (slice_get lab.network (router_of e) ≡ Some node) × IsPlaced node lab.world.sent e

-- its router moves as the event has it. The answer that is given lacks its sends
pub record Acts (lab : LabValue) (e : Event) (given : Answer) (w : World) : Type 0 where
  pub happening : Happening
  pub is_for : IsFor (λ d. address_at lab.network d.router d.iface) lab.world.sent e happening
  pub answer : Answer
  pub moves : RouterMoves lab.world (router_of e) happening answer w
  pub given_is : given ≡ record answer { sends = [] }
  pub lawful : (node : Node) → slice_get lab.network (router_of e) ≡ Some node → length moves.old.config.interfaces ≡ length node.interfaces

-- why a router in this state refuses the event, once it is asked
abbrev pub own_refusal : State → Event → LabError
own_refusal s (Reconfigure router now c) = refusal_of (unwrap_or (reconfigure_fault s.config s.table c) refused.OutOfMemory)
own_refusal s _ = OutOfMemory

-- out of memory, or why its router refuses the event
abbrev pub IsOwnRefusal : World → Event → LabError → Type 0
IsOwnRefusal w e why = (why ≡ OutOfMemory) ⊎ ((s : State) × (slice_get w.states (router_of e) ≡ Some s) × (why ≡ own_refusal s e))

-- how a step ends, given why it was refused, if it was: the change of the event is added to those done, or nothing is changed
pub record StepEnds (lab : LabValue) (e : Event) (refusal : Option LabError) (lab' : LabValue) : Type 0 where
  pub reconfigurations : IfNone refusal (lab'.world.reconfigurations ≡ lab.world.reconfigurations ++ reconfigurations_in (e ∷ []))
  pub passes : IfNone refusal (step_fault lab e ≡ None)
  pub refused : IfSome refusal (IsRefusal lab e)
  pub unchanged : IfSome refusal (λ _. lab' ≡ lab)

-- so the event at a place is refused
pub record IsRefusedNext (lab : LabValue) (events : List Event) (place : ℕ) (why : LabError) : Type 0 where
  pub event : Event
  pub event_is : slice_get events place ≡ Some event
  pub reason : IsRefusal lab event why

-- the name of a refusal, and its number
abbrev pub lab_error_name : LabError → List ℕ × ℕ
lab_error_name NoSuchRouter = (codes "NoSuchRouter", 1)
lab_error_name NoSuchInterface = (codes "NoSuchInterface", 2)
lab_error_name NoSuchDatagram = (codes "NoSuchDatagram", 3)
lab_error_name OtherLink = (codes "OtherLink", 4)
lab_error_name NotAStranger = (codes "NotAStranger", 5)
lab_error_name OutOfMemory = (codes "OutOfMemory", 6)
lab_error_name (LabError.ReconfigureRefused why) = (codes "ReconfigureRefused", 7)
lab_error_name NotALiar = (codes "NotALiar", 8)
