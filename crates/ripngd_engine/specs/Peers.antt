-- Neighbors on the link of an interface, and whether the link is real.
use Rattle.std.specs.Prelude.{◌==◌, ◌||◌, Bool, true, false, List}
use Rattle.std.specs.List.{list_any}
use Rattle.ripngd_engine.specs.declared.peer.Peer.{Peer}
use Rattle.ripngd_engine.specs.declared.peer.Sender.{Sender}
use Rattle.ripngd_engine.specs.declared.peer.Socket.{Socket}
use Rattle.ripngd_engine.specs.declared.peer.Socket.TheVariants.{Local, Inherited}

-- one of these has the address or the local port of the peer
abbrev pub has_clash : List Peer → Peer → Bool
has_clash peers peer = list_any (λ q. q.addr == peer.addr || q.local_port == peer.local_port) peers

-- the sockets are those of a real link
abbrev pub is_real : Socket → Bool
is_real (Local port group_port) = false
is_real (Inherited alone group far) = true

-- who sent a datagram of the peer: each has the peer's address, port and hop limit, and came to the group if those of the peer do
abbrev pub sender_of : Peer → Sender
sender_of peer = record { addr = peer.addr; port = peer.port; hop_limit = peer.hop_limit; to_group = peer.to_group }
