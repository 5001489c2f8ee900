-- To whom a datagram goes, and by which address of the system.
use Rattle.std.specs.Prelude.{ℕ, ◌≡◌, ◌+◌, ◌*◌, ◌^◌, ◌==◌, ◌||◌, Bool, true, Option, None, Some, IsSomeAnd, List, [], ◌∷◌, option_map}
use Rattle.std.specs.List.{find}
use Rattle.std.specs.Net.Addr.{IsIpv6OfBits, MatchIp, ipv4_octets}
use Rattle.std.specs.Net.Socket.{socket_ip, socket_port}
use Rattle.std.specs.declared.net.socket_addr.SocketAddr.{SocketAddr}
use Rattle.router_core.specs.declared.answer.Destination.{Destination}
use Rattle.router_core.specs.declared.answer.Destination.TheVariants as destination
use Rattle.ripngd_engine.specs.Peers.{is_real, sender_of}
use Rattle.ripngd_engine.specs.declared.peer.Peer.{Peer}
use Rattle.ripngd_engine.specs.declared.peer.Sender.{Sender}
use Rattle.ripngd_engine.specs.declared.peer.Socket.{Socket}
use Rattle.ripngd_engine.specs.declared.peer.Socket.TheVariants.{Local, Inherited}
use Rattle.ripngd_udp.specs.Peers.{OnLink, has_peer_address}

-- the group of all RIPng routers, FF02::9, and their port (RFC 2080, sections 2.1 and 2.5)
abbrev pub group_address : ℕ
group_address = 0xff02 * 2 ^ 112 + 9

-- their port
abbrev pub ripng_port : ℕ
ripng_port = 521

-- a port of 127.0.0.1
abbrev pub IsLocal : ℕ → SocketAddr → Type 0
IsLocal port a = MatchIp (socket_ip a) (λ ip. ipv4_octets ip ≡ 127 ∷ 0 ∷ 0 ∷ 1 ∷ []) (λ ip. ⊥) × (socket_port a ≡ port)

-- a port of an IPv6 address
abbrev pub IsAt : ℕ → ℕ → SocketAddr → Type 0
IsAt addr port a = MatchIp (socket_ip a) (λ ip. ⊥) (λ ip. IsIpv6OfBits ip addr) × (socket_port a ≡ port)

-- the peer gets what goes to that destination
abbrev pub is_meant : Peer → Destination → Bool
is_meant peer destination.Group = true
is_meant peer (destination.Peer addr port) = peer.addr == addr

-- something can be sent there: on a real link always, else to the group, or to an address that a peer has
abbrev pub is_known : OnLink → Destination → Bool
is_known i destination.Group = true
is_known i (destination.Peer addr port) = is_real i.place.socket || has_peer_address i.peers addr

-- the one port of loopback that gets all of it is that for the group, if there is one
abbrev pub SharesLocal : Option ℕ → Destination → Option SocketAddr → Type 0
SharesLocal (Some group_port) destination.Group shared = IsSomeAnd shared (IsLocal group_port)
SharesLocal None destination.Group shared = shared ≡ None
SharesLocal group_port (destination.Peer addr port) shared = shared ≡ None

-- the one address of a real link that gets all of it is that of the group, or of who asked
abbrev pub SharesReal : Destination → Option SocketAddr → Type 0
SharesReal destination.Group shared = IsSomeAnd shared (IsAt group_address ripng_port)
SharesReal (destination.Peer addr port) shared = IsSomeAnd shared (IsAt addr port)

-- this address gets all that goes to the destination by these sockets; with none, each peer that is meant gets a copy
abbrev pub Shares : Socket → Destination → Option SocketAddr → Type 0
Shares (Local port group_port) to shared = SharesLocal group_port to shared
Shares (Inherited alone group far) to shared = SharesReal to shared

-- who sent a datagram that came from a port of loopback: the first peer at that port, if there is one
abbrev pub sender_from : List Peer → ℕ → Option Sender
sender_from peers port = option_map sender_of (find (λ p. p.local_port == port) peers)
