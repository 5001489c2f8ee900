-- How datagrams wait to be sent on an interface.
use Rattle.std.specs.Prelude.{ℕ, ◌+◌, ◌++◌, ◌/◌, ◌==◌, ◌&&◌, ◌||◌, Bool, true, false, if◌then◌else◌, List, [], ◌∷◌, Option, None, Some, length, max, nat_le, nat_lt}
use Rattle.std.specs.List.{list_any, sum_by}
use Rattle.router_core.specs.declared.answer.Destination.{Destination}
use Rattle.router_core.specs.declared.answer.Destination.TheVariants as destination
use Rattle.router_core.specs.declared.answer.Outgoing.{Outgoing}
use Rattle.ripngd_udp.specs.declared.pace.Rate.{Rate}
use Rattle.ripngd_engine.specs.declared.link.Queue.{Queue}
use Rattle.ripngd_engine.specs.declared.peer.Socket.TheVariants.{Local, Inherited}
use Rattle.ripngd_engine.specs.declared.peer.Socket.{Socket}
use Rattle.ripngd_udp.specs.Peers.{OnLink}

-- how many datagrams may go at once on an interface with so many peers: its share of the 64 that the socket of a peer may get, and at least one
abbrev pub share_among : ℕ → ℕ
share_among peers = max 1 (64 / max 1 peers)

-- the rate of an interface with so many peers: its share, and as much again 16 milliseconds later
abbrev pub rate_among : ℕ → Rate
rate_among peers = record { share = share_among peers; pause_ms = 16 }

-- the rate of a real link: one datagram, and another one 3 milliseconds later
abbrev pub real_rate : Rate
real_rate = record { share = 1; pause_ms = 3 }

-- the rate of loopback beside so many peers: undivided where the port for the group gets what goes to all
abbrev pub local_rate : Option ℕ → ℕ → Rate
local_rate None peers = rate_among peers
local_rate (Some group_port) peers = rate_among 1

-- the rate of sockets beside so many peers
abbrev pub rate_by : Socket → ℕ → Rate
rate_by (Local port group_port) peers = local_rate group_port peers
rate_by (Inherited alone group far) peers = real_rate

-- the rate of an interface on its link
abbrev pub rate_of : OnLink → Rate
rate_of i = rate_by i.place.socket (length i.peers)

-- one datagram may go at a moment: the pause is over, or some are left of the share before it
abbrev pub may_go : ℕ → ℕ → ℕ → Bool
may_go opens left now = nat_le opens now || nat_lt 0 left

-- none waits, and one may go out
abbrev pub goes_at_once : List Outgoing → ℕ → ℕ → ℕ → Bool
goes_at_once waiting opens left now = length waiting == 0 && may_go opens left now

-- what waits after a send: the same where the datagram went out at once or was lost; else also the datagram, after the others
abbrev pub waiting_after : Bool → List Outgoing → Outgoing → Bool → List Outgoing
waiting_after true waiting d ok = waiting
waiting_after false waiting d ok = if ok then waiting ++ d ∷ [] else waiting

-- ---- answers to Requests

-- how many answers a datagram to that destination is: one to who asked, and all else goes to the group
abbrev pub answers_of : Destination → ℕ
answers_of destination.Group = 0
answers_of (destination.Peer addr port) = 1

-- how many of these answer Requests
abbrev pub answers_in : List Outgoing → ℕ
answers_in waiting = sum_by (λ d. answers_of d.to) waiting

-- how many datagrams these are, and how many of them answers
abbrev pub queue_of : List Outgoing → Queue
queue_of waiting = record { waiting = length waiting; answers = answers_in waiting }

-- one more for that destination may wait: 4,096 in all, and of them 1,200 answers
abbrev pub may_wait : List Outgoing → Destination → Bool
may_wait waiting to = nat_lt (length waiting) 4096 && nat_le (answers_in waiting + answers_of to) 1200

-- it goes to that address alone
abbrev pub is_to : Destination → ℕ → Bool
is_to destination.Group addr = false
is_to (destination.Peer other port) addr = other == addr

-- an answer to that address waits
abbrev pub owes : List Outgoing → ℕ → Bool
owes waiting addr = list_any (λ d. is_to d.to addr) waiting
