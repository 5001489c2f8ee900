-- Networks of daemons, and all that is known of the links between them.
use Rattle.std.specs.Prelude.{◌≡◌, ℕ, ◌<◌, ◌&&◌, ◌⊎◌, ⊤, List, [], ◌∷◌, ◌++◌, length, map, filter_map, flat_map, Contains, Option, None, Some, is_none, slice_get, IsFalse}
use Rattle.ripngd_theorems.specs.Below.{AllByRecursion, is_response, Config, fault, Outgoing, Network, Node, AreLinked, AreZoned, config_of, Past, World, Event, IsCold, WorldRun, address_at, sent_by, Sent, Call, Datagram, Gave, Handed, Machine, arrival}
use Rattle.ripngd_theorems.specs.Daemons.{Act, Listen, Happened, Lives, reconfigurations_by, own_deeds}

-- the datagram that a call handed to a link, if it is such a call
abbrev pub handed_in : Call → Option Outgoing
handed_in (Handed o went) = Some o
handed_in _ = None

-- the datagrams that a deed handed to its router's link, whether they went out or not
abbrev pub handed_by : Happened → List Sent
handed_by h = map (sent_by h.router) (filter_map handed_in h.deed.trace.calls)

-- a datagram that was handed to a link comes from it as it is: with the address of the interface that sent it, from the port of
-- RIPng (RFC 2080, 2.1), and with hop limit 255 (RFC 2080, 2.5)
pub record IsCopyOf (net : Network) (sent : Sent) (router : ℕ) (d : Datagram) : Type 0 where
  pub linked : AreLinked net sent.router sent.iface router d.iface
  pub source : d.source ≡ address_at net sent.router sent.iface
  pub port : d.source_port ≡ 521
  pub hops : d.hop_limit ≡ 255
  pub bytes : d.bytes ≡ sent.bytes

-- such a datagram was handed over before
pub record IsOfTheLink (net : Network) (handed : List Sent) (router : ℕ) (d : Datagram) : Type 0 where
  pub sent : Sent
  pub before : Contains handed sent
  pub copy : IsCopyOf net sent router d

-- or it is an outside host's: no Response, or one that the router refuses (RFC 2080, 2.4.2), at an interface that it has
pub record IsOfAStranger (config : Config) (d : Datagram) : Type 0 where
  pub known : d.iface < length config.interfaces
  pub unheard : (now : ℕ) → IsFalse (is_response d.bytes && is_none (fault config (arrival now d)))

-- all that is known of what a link gives: nothing of what comes, when, how often or in which order
abbrev pub IsGiven : Network → List Sent → ℕ → Config → Act → Type 0
IsGiven net handed router config (Listen (Gave d)) = IsOfTheLink net handed router d ⊎ IsOfAStranger config d
IsGiven net handed router config _ = ⊤

-- the same of each deed, where this was handed over before the first
abbrev pub AreGiven : Network → List Sent → List Happened → Type 0
AreGiven net handed [] = ⊤
AreGiven net handed (h ∷ order) =
    ((node : Node) → slice_get net h.router ≡ Some node → IsGiven net handed h.router (config_of node) h.deed.act) × AreGiven net (handed ++ handed_by h) order

-- the deeds lead each daemon of a network from what it was, or from none, to what it is
abbrev pub LiveOn : Network → List Happened → (ℕ → Option Machine) → (ℕ → Option Machine) → Type 0
LiveOn net order daemons daemons' =
    (router : ℕ) (node : Node) → slice_get net router ≡ Some node → Lives (config_of node) (daemons router) (own_deeds router order) (daemons' router)

-- a network of daemons ran: all their deeds in an order in which they happened, of which each daemon's own are its life, from
-- no daemon at all on, over such links. To each router a link is in one zone (RFC 4007, 5), as it is where no zone is named
pub record HaveRun (net : Network) (order : List Happened) (daemons : ℕ → Option Machine) : Type 0 where
  pub zoned : AreZoned net
  pub known : AllByRecursion (λ h. h.router < length net) order
  pub lives : LiveOn net order (λ router. None) daemons
  pub given : AreGiven net [] order

-- all that the deeds handed over, in order
abbrev pub all_handed : List Happened → List Sent
all_handed order = flat_map handed_by order

-- all that was in force in the network since the first starts
abbrev pub past_of_daemons : Network → List Happened → Past
past_of_daemons net order = record { net = net; reconfigurations = reconfigurations_by order }

-- a run of the network from a cold start, in which exactly these changes were done, that sends all that was handed over and leaves
-- each router as its daemon is
pub record IsRunOf (net : Network) (order : List Happened) (daemons : ℕ → Option Machine) : Type 0 where
  pub moments : List ℕ
  pub cold : World
  pub is_cold : IsCold net moments cold
  pub events : List Event
  pub after : World
  pub run : WorldRun net cold events after
  pub reconfigurations : after.reconfigurations ≡ reconfigurations_by order
  pub sent : (d : Sent) → Contains (all_handed order) d → (number : ℕ) × (slice_get after.sent number ≡ Some d)
  pub states : (router : ℕ) (m : Machine) → router < length net → daemons router ≡ Some m → slice_get after.states router ≡ Some m.router
