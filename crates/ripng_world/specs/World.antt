-- A network that runs: the state of each router, and every datagram ever sent.
use Rattle.std.specs.Prelude.{◌≡◌, ℕ, ◌<◌, suc, Bool, true, false, ◌&&◌, List, [], ◌∷◌, ◌++◌, length, map, filter_map, Option, Some, None, is_none, unwrap_or, option_map, slice_get, slice_set, IsFalse}
use Rattle.ripng_world.specs.Below.{is_response, Received, fault, ripng_port, State, Happening, Arrives, Ticks, Restarts, Reconfigures, ShutsDown, LinkGoesDown, LinkComesUp, Moves, Starts, Answer, Outgoing, Destination, Group, Peer, Change, Sent}
use Rattle.ripng_world.specs.Network.{Network, Node, AreLinked, AreZoned, config_of, interface_at}
use Rattle.ripng_world.specs.Past.{Past}

-- the routers' states, and all that was sent since the cold start
pub record World : Type 0 where
  pub states : List State
  pub sent : List Sent
  pub reconfigurations : List (ℕ × Change)  -- that routers have done, each with its router

-- all that was in force since the cold start
abbrev pub past_of : Network → World → Past
past_of net w = record { net = net; reconfigurations = w.reconfigurations }

-- what may happen to a network. The loss of a datagram is no event: it is never delivered
pub data Event : Type 0 where
  Deliver : (datagram router iface now : ℕ) → Event
  Stranger : (router : ℕ) → Received → Event
  Tick : (router now word : ℕ) → Event
  Restart : (router now : ℕ) → Event
  Reconfigure : (router now : ℕ) → Change → Event
  Shutdown : (router now : ℕ) → Event
  LinkDown : (router now iface : ℕ) → Event
  LinkUp : (router now iface : ℕ) → Event

-- a datagram with the router that sent it
abbrev pub sent_by : ℕ → Outgoing → Sent
sent_by router o = record { router = router; iface = o.iface; to = o.to; bytes = o.bytes }

-- what is added to the changes done
abbrev pub reconfigurations_of : ℕ → Happening → List (ℕ × Change)
reconfigurations_of router (Reconfigures now c) = (router, c) ∷ []
reconfigurations_of router _ = []

-- one router moves, what it sends and the change that it does are added, and all else stays
pub record RouterMoves (w : World) (router : ℕ) (happening : Happening) (answer : Answer) (w' : World) : Type 0 where
  pub old : State
  pub new : State
  pub old_is : slice_get w.states router ≡ Some old
  pub moves : Moves old happening answer new
  pub states : w'.states ≡ slice_set w.states router new
  pub sent : w'.sent ≡ w.sent ++ map (sent_by router) answer.sends
  pub reconfigurations : w'.reconfigurations ≡ w.reconfigurations ++ reconfigurations_of router happening

-- it goes to all routers of the link
abbrev pub is_to_group : Destination → Bool
is_to_group Group = true
is_to_group (Peer addr port) = false

-- the address of an interface
abbrev pub address_at : Network → ℕ → ℕ → ℕ
address_at net router iface = unwrap_or (option_map (λ i. i.interface.addr) (interface_at net router iface)) 0

-- a datagram as it comes to an interface, from an address
abbrev pub arrival_from : ℕ → Sent → ℕ → ℕ → Received
arrival_from source d iface now =
    record {
      now = now;
      iface = iface;
      source = source;
      source_port = ripng_port;
      hop_limit = 255;
      to_group = is_to_group d.to;
      bytes = d.bytes;
    }

-- a datagram of the network as it comes to an interface of its link
abbrev pub arrival_of : Network → Sent → ℕ → ℕ → Received
arrival_of net d iface now = arrival_from (address_at net d.router d.iface) d iface now

-- any datagram ever sent, to any interface of the link that it was sent on
pub record Delivers (net : Network) (w : World) (datagram router iface now : ℕ) (answer : Answer) (w' : World) : Type 0 where
  pub sent : Sent
  pub sent_is : slice_get w.sent datagram ≡ Some sent
  pub linked : AreLinked net sent.router sent.iface router iface
  pub moves : RouterMoves w router (Arrives (arrival_of net sent iface now)) answer w'

-- a Response that a router takes to be of its link
abbrev pub is_heard : State → Received → Bool
is_heard s x = is_response x.bytes && is_none (fault s.config x)

-- any arrival but such a Response
pub record Intrudes (w : World) (router : ℕ) (x : Received) (answer : Answer) (w' : World) : Type 0 where
  pub moves : RouterMoves w router (Arrives x) answer w'
  pub known : x.iface < length moves.old.config.interfaces
  pub unheard : IsFalse (is_heard moves.old x)

-- the event may happen, with this answer of the router that moves
abbrev pub Happens : Network → World → Event → Answer → World → Type 0
Happens net w (Deliver datagram router iface now) answer w' = Delivers net w datagram router iface now answer w'
Happens net w (Stranger router x) answer w' = Intrudes w router x answer w'
Happens net w (Tick router now word) answer w' = RouterMoves w router (Ticks now word) answer w'
Happens net w (Restart router now) answer w' = RouterMoves w router (Restarts now) answer w'
Happens net w (Shutdown router now) answer w' = RouterMoves w router (ShutsDown now) answer w'
Happens net w (LinkDown router now iface) answer w' = RouterMoves w router (LinkGoesDown now iface) answer w'
Happens net w (LinkUp router now iface) answer w' = RouterMoves w router (LinkComesUp now iface) answer w'
Happens net w (Reconfigure router now c) answer w' = RouterMoves w router (Reconfigures now c) answer w'

-- the events happen one after another
abbrev pub WorldRun : Network → World → List Event → World → Type 0
WorldRun net w [] w' = w' ≡ w
WorldRun net w (e ∷ events) w' = (mid : World) × (answer : Answer) × Happens net w e answer mid × WorldRun net mid events w'

-- the changes of the reconfigurations among the events, each with its router, in order
abbrev pub reconfiguration_in : Event → Option (ℕ × Change)
reconfiguration_in (Reconfigure router now c) = Some (router, c)
reconfiguration_in _ = None

-- the changes among events
abbrev pub reconfigurations_in : List Event → List (ℕ × Change)
reconfigurations_in events = filter_map reconfiguration_in events

-- the routers from a number on start in order, each at its moment
abbrev pub StartsFrom : ℕ → List Node → List ℕ → List State → List Sent → Type 0
StartsFrom n [] [] [] sent = sent ≡ []
StartsFrom n (node ∷ nodes) (now ∷ moments) (s ∷ states) sent =
    (answer : Answer) × (rest : List Sent) × Starts (config_of node) now answer s × StartsFrom (suc n) nodes moments states rest
    × (sent ≡ map (sent_by n) answer.sends ++ rest)
StartsFrom n _ _ _ sent = ⊥

-- every router has just started, each link is in one zone to it, and nothing was changed
pub record IsCold (net : Network) (moments : List ℕ) (w : World) : Type 0 where
  pub zoned : AreZoned net
  pub starts : StartsFrom 0 net moments w.states w.sent
  pub unchanged : w.reconfigurations ≡ []
