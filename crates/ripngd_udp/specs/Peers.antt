-- Who is on the link of an interface: its peers, how they change while the router runs, and why a change is refused; on a real link
-- whoever sends.
use Rattle.std.specs.Prelude.{◌≡◌, ◌==◌, not, nat_le, ℕ, Bool, true, List, [], ◌∷◌, ◌++◌, false, length, Option, None, Some, codes, slice_get, slice_set}
use Rattle.std.specs.List.{filter, list_any}
use Rattle.ripng_wire.specs.Wire.{first_reason}
use Rattle.ripngd_engine.specs.Peers.{has_clash, is_real}
use Rattle.ripngd_engine.specs.declared.peer.Peer.{Peer}
use Rattle.ripngd_engine.specs.declared.peer.Place.{Place}
use Rattle.ripngd_engine.specs.declared.peer.Socket.{Socket}
use Rattle.ripngd_engine.specs.declared.peer.Socket.TheVariants.{Local, Inherited}
use Rattle.ripngd_udp.specs.declared.peer_refused.PeerRefused.{PeerRefused}
use Rattle.ripngd_udp.specs.declared.peer_refused.PeerRefused.TheVariants.{NoSuchInterface, BadPort, PortTwice, OwnAddress, PeerTwice, PeersFull, NoSuchPeer, OutOfMemory, RealLink}

-- an interface on its link: its addresses, and its peers
pub record OnLink : Type 0 where
  pub place : Place
  pub peers : List Peer

-- the interface at a place, with these peers
abbrev pub on_link : Place → List Peer → OnLink
on_link place peers = record { place = place; peers = peers }

-- an interface at each place, with the peers of that place
abbrev pub links_at : List Place → List (List Peer) → List OnLink
links_at [] lists = []
links_at (place ∷ places) [] = []
links_at (place ∷ places) (peers ∷ lists) = on_link place peers ∷ links_at places lists

-- one of the peers has the address
abbrev pub has_peer_address : List Peer → ℕ → Bool
has_peer_address peers addr = list_any (λ p. p.addr == addr) peers

-- the port for the group, where there is one
abbrev pub group_port_of : Socket → Option ℕ
group_port_of (Local port group_port) = group_port
group_port_of (Inherited alone group far) = None

-- the port is that for the group
abbrev pub is_port : Option ℕ → ℕ → Bool
is_port None port = false
is_port (Some p) port = p == port

-- it is the group port of one of these
abbrev pub is_group_port : List OnLink → ℕ → Bool
is_group_port links port = list_any (λ i. is_port (group_port_of i.place.socket) port) links

-- ---- which changes are refused: each reason, with whether it applies

-- why an interface does not get the peer, in order
abbrev pub peer_reasons : OnLink → Peer → List (Bool × PeerRefused)
peer_reasons i peer =
    (i.place.addr == peer.addr, OwnAddress) ∷ (has_clash i.peers peer, PeerTwice) ∷ (nat_le 256 (length i.peers), PeersFull) ∷ []

-- why the interface of a number does not get it, if there is that interface
abbrev pub adding_reasons_at : List OnLink → Option OnLink → Peer → List (Bool × PeerRefused)
adding_reasons_at links None peer = (true, NoSuchInterface) ∷ []
adding_reasons_at links (Some i) peer =
    (is_real i.place.socket, RealLink) ∷ (peer.local_port == 0, BadPort) ∷ (is_group_port links peer.local_port, PortTwice) ∷ peer_reasons i peer

-- the first reason not to add a peer
abbrev pub adding_fault : List OnLink → ℕ → Peer → Option PeerRefused
adding_fault links iface peer = first_reason (adding_reasons_at links (slice_get links iface) peer)

-- why a peer of that address is not removed from it
abbrev pub removing_reasons_at : Option OnLink → ℕ → List (Bool × PeerRefused)
removing_reasons_at None addr = (true, NoSuchInterface) ∷ []
removing_reasons_at (Some i) addr = (not (has_peer_address i.peers addr), NoSuchPeer) ∷ []

-- the first reason not to remove it
abbrev pub removing_fault : List OnLink → ℕ → ℕ → Option PeerRefused
removing_fault links iface addr = first_reason (removing_reasons_at (slice_get links iface) addr)

-- memory is refused only where there is no other reason, and any other is the first
abbrev pub RefusesFor : Option PeerRefused → PeerRefused → Type 0
RefusesFor fault OutOfMemory = fault ≡ None
RefusesFor fault why = fault ≡ Some why

-- ---- what a change does

-- one more peer, after the others
abbrev pub with_peer : OnLink → Peer → OnLink
with_peer i peer = record i { peers = i.peers ++ peer ∷ [] }

-- the peers without that of an address
abbrev pub without_peer : OnLink → ℕ → OnLink
without_peer i addr = record i { peers = filter (λ p. not (p.addr == addr)) i.peers }

-- the interface of a number is changed so, and no other
pub record ChangesLink (change : OnLink → OnLink) (iface : ℕ) (before after : List OnLink) : Type 0 where
  pub link : OnLink
  pub was : slice_get before iface ≡ Some link
  pub is : after ≡ slice_set before iface (change link)

-- a refusal as it is printed: its number and its name
abbrev pub peer_refused_text : PeerRefused → List ℕ
peer_refused_text NoSuchInterface = codes "51 NoSuchInterface"
peer_refused_text BadPort = codes "61 BadPort"
peer_refused_text PortTwice = codes "62 PortTwice"
peer_refused_text OwnAddress = codes "63 OwnAddress"
peer_refused_text PeerTwice = codes "64 PeerTwice"
peer_refused_text PeersFull = codes "65 PeersFull"
peer_refused_text NoSuchPeer = codes "66 NoSuchPeer"
peer_refused_text OutOfMemory = codes "67 OutOfMemory"
peer_refused_text RealLink = codes "68 RealLink"
