-- Ports and peers that stand twice.
use Rattle.std.specs.Prelude.{◌≡◌, ◌≢◌, ◌==◌, ◌||◌, ◌⊎◌, ℕ, Bool, true, false, List, Option, All, None, Some, slice_get, take, ⊤, AllPairs}
use Rattle.ripngd_config.specs.Below.{list_any, has_clash, Peer, Socket, Inherited, Local, ConfigFault, OutOfMemory, PeerTwice, PortTwice, InterfaceTable}

-- the number is that, if there is one
abbrev pub is_number : Option ℕ → ℕ → Bool
is_number None n = false
is_number (Some m) n = m == n

-- one of the sockets of a real link has the descriptor
abbrev pub has_descriptor : Socket → ℕ → Bool
has_descriptor (Local port group_port) n = false
has_descriptor (Inherited alone group far) n = alone == n || (group == n || is_number far n)

-- the descriptor, if there is one
abbrev pub has_some_descriptor : Socket → Option ℕ → Bool
has_some_descriptor socket None = false
has_some_descriptor socket (Some n) = has_descriptor socket n

-- the interface stands at the local port
abbrev pub is_at : Socket → ℕ → Bool
is_at (Local port group_port) p = port == p
is_at (Inherited alone group far) p = false

-- two interfaces have one local port, or a descriptor in common
abbrev pub share_socket : Socket → Socket → Bool
share_socket one (Local port group_port) = is_at one port
share_socket one (Inherited alone group far) = has_descriptor one alone || (has_descriptor one group || has_some_descriptor one far)

-- an earlier interface has the local port of this one, or one of its descriptors
abbrev pub has_port : List InterfaceTable → InterfaceTable → Bool
has_port earlier t = list_any (λ u. share_socket u.socket t.socket) earlier

-- no two interfaces stand at one local port, or have a descriptor in common
abbrev pub ArePortsDistinct : List InterfaceTable → Type 0
ArePortsDistinct = AllPairs (λ t u. share_socket t.socket u.socket ≡ false)

-- one of the peers has the local port
abbrev pub has_peer_at : ℕ → List Peer → Bool
has_peer_at port peers = list_any (λ p. p.local_port == port) peers

-- the interface, or one of its peers, has the local port
abbrev pub stands_at : ℕ → InterfaceTable → Bool
stands_at port t = is_at t.socket port || has_peer_at port t.peers.items

-- an interface or a peer has this local port, if there is one
abbrev pub is_taken : List InterfaceTable → Option ℕ → Bool
is_taken interfaces None = false
is_taken interfaces (Some port) = list_any (λ t. stands_at port t) interfaces

-- the group port is the local port of one of them; of a real link, one descriptor stands for two of its sockets
abbrev pub has_group_of : List InterfaceTable → Socket → Bool
has_group_of interfaces (Local port group_port) = is_taken interfaces group_port
has_group_of interfaces (Inherited alone group far) = alone == group || (is_number far alone || is_number far group)

-- that of this interface is
abbrev pub has_group_port : List InterfaceTable → InterfaceTable → Bool
has_group_port interfaces t = has_group_of interfaces t.socket

-- no group port is such a local port, and the descriptors of an interface are distinct
abbrev pub AreGroupPortsApart : List InterfaceTable → Type 0
AreGroupPortsApart interfaces = All (λ t. has_group_port interfaces t ≡ false) interfaces

-- two peers of other addresses and other local ports
pub record AreApart (p q : Peer) : Type 0 where
  pub addr : p.addr ≢ q.addr
  pub local_port : p.local_port ≢ q.local_port

-- any two peers are apart
abbrev pub ArePeersDistinct : List Peer → Type 0
ArePeersDistinct = AllPairs AreApart

-- the peers of each interface are
abbrev pub AreAllPeersDistinct : List InterfaceTable → Type 0
AreAllPeersDistinct interfaces = All (λ t. ArePeersDistinct t.peers.items) interfaces

-- ---- which of them is a duplicate

-- the interface of that number: an earlier one has its local port or a descriptor of it, or its group port or a descriptor is taken
pub record IsPortTwice (interfaces : List InterfaceTable) (index : ℕ) : Type 0 where
  pub interface : InterfaceTable
  pub there : slice_get interfaces index ≡ Some interface
  pub twice : (has_port (take index interfaces) interface ≡ true) ⊎ (has_group_port interfaces interface ≡ true)

-- the peer of that number: it has the address or the local port of an earlier one
pub record IsPeerTwice (peers : List Peer) (index : ℕ) : Type 0 where
  pub peer : Peer
  pub there : slice_get peers index ≡ Some peer
  pub twice : has_clash (take index peers) peer ≡ true

-- such a peer of the interface of that number
pub record HasPeerTwice (interfaces : List InterfaceTable) (index : ℕ) : Type 0 where
  pub interface : InterfaceTable
  pub there : slice_get interfaces index ≡ Some interface
  pub peer : ℕ
  pub twice : IsPeerTwice interface.peers.items peer

-- out of memory, or the refusal is of a duplicate port or peer
abbrev pub RefusesTwice : List InterfaceTable → ConfigFault → Type 0
RefusesTwice interfaces (PortTwice path) = (index : ℕ) × IsPortTwice interfaces index
RefusesTwice interfaces (PeerTwice path) = (index : ℕ) × HasPeerTwice interfaces index
RefusesTwice interfaces OutOfMemory = ⊤
RefusesTwice interfaces _ = ⊥
