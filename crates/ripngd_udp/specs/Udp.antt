-- A link of sockets: why it could not be bound, and as what a datagram of a sender arrives.
use Rattle.std.specs.Prelude.{ℕ, ◌≡◌, ◌≤◌, List, [], Option, length, map, Contains, ⊤}
use Rattle.ripngd_engine.specs.declared.peer.Peer.{Peer}
use Rattle.ripngd_engine.specs.declared.peer.Place.{Place}
use Rattle.ripngd_engine.specs.declared.peer.Sender.{Sender}
use Rattle.ripngd_engine.specs.Link.{Call, no_queue}
use Rattle.ripngd_engine.specs.declared.link.Queue.{Queue}
use Rattle.ripngd_engine.specs.declared.link.Received.{Received}
use Rattle.ripngd_udp.specs.Peers.{OnLink, links_at}
use Rattle.ripngd_udp.specs.declared.udp.UdpError.{UdpError}
use Rattle.ripngd_udp.specs.declared.udp.UdpError.TheVariants.{Bind, OutOfMemory}

-- what contracts see of a link: its interfaces and who is on the link of each, the sends that failed when they had waited, the
-- arrivals that were not kept, those from ports of no peer, what waits to be sent on each, and each call that a router made of it, in order
pub record LinkState : Type 0 where
  pub interfaces : ℕ
  pub on_links : List OnLink
  pub failed_sends : ℕ
  pub lost_arrivals : ℕ
  pub strangers : ℕ
  pub queues : List Queue
  pub calls : List Call

-- what contracts see of the ports of a run: the peers on the links that were bound last, and the calls of the link that was closed
-- since
pub record PortsState : Type 0 where
  pub on_links : Option (List OnLink)
  pub calls : Option (List Call)

-- a link with these interfaces that has lost nothing, where nothing waits, and that no router has called
abbrev pub new_link : List Place → List (List Peer) → LinkState
new_link places lists =
    record {
      interfaces = length places;
      on_links = links_at places lists;
      failed_sends = 0;
      lost_arrivals = 0;
      strangers = 0;
      queues = map (λ p. no_queue) places;
      calls = [];
    }

-- some more of what waited was sent, or could not be, and nothing else is different
abbrev pub SendsLate : LinkState → LinkState → Type 0
SendsLate old new = (old.failed_sends ≤ new.failed_sends) × (new ≡ record old { failed_sends = new.failed_sends; queues = new.queues })

-- some more was lost, or was sent of what waited, and nothing else is different
abbrev pub GoesOn : LinkState → LinkState → Type 0
GoesOn old new =
    (old.failed_sends ≤ new.failed_sends) × (old.lost_arrivals ≤ new.lost_arrivals) × (old.strangers ≤ new.strangers)
    × (new ≡ record old { failed_sends = new.failed_sends; lost_arrivals = new.lost_arrivals; strangers = new.strangers; queues = new.queues })

-- a socket that is named is that of one of these places
abbrev pub NamesSocketOf : List Place → UdpError → Type 0
NamesSocketOf places (Bind socket cause) = Contains (map (λ p. p.socket) places) socket
NamesSocketOf places OutOfMemory = ⊤

-- a datagram of `len` bytes, as one of the sender
abbrev pub as_of : Sender → ℕ → ℕ → Received
as_of sender iface len =
    record {
      iface = iface;
      source = sender.addr;
      source_port = sender.port;
      hop_limit = sender.hop_limit;
      to_group = sender.to_group;
      len = len;
    }
