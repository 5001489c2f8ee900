-- How datagrams that came to an interface wait for the router, and are given to it.
use Rattle.std.specs.Prelude.{ℕ, ◌≡◌, ◌+◌, ◌<◌, ◌≤◌, ◌++◌, Bool, MatchBool, List, [], ◌∷◌, length, min, take, vec_len}
use Rattle.std.specs.List.{sum_by}
use Rattle.ripngd_engine.specs.declared.peer.Sender.{Sender}
use Rattle.ripngd_engine.specs.declared.link.Received.{Received}
use Rattle.ripngd_udp.specs.declared.receive_queue.Datagram.{Datagram}
use Rattle.ripngd_udp.specs.Udp.{as_of}

-- how many bytes these datagrams have together
abbrev pub bytes_of : List Datagram → ℕ
bytes_of waiting = sum_by (λ h. vec_len h.bytes) waiting

-- on an interface 16,384 datagrams may wait, with 32 MiB together
pub record MayWait (waiting : List Datagram) : Type 0 where
  pub few : length waiting ≤ 16384
  pub small : bytes_of waiting ≤ 33554432

-- a datagram of this many bytes may wait with them
abbrev pub HasRoom : List Datagram → ℕ → Type 0
HasRoom waiting len = (length waiting < 16384) × (bytes_of waiting + len ≤ 33554432)

-- a datagram of that sender waits after the others
pub record Behind (waiting after : List Datagram) (sender : Sender) (bytes : List ℕ) : Type 0 where
  pub last : Datagram
  pub in_order : after ≡ waiting ++ last ∷ []
  pub sender_is : last.sender ≡ sender
  pub bytes_are : last.bytes.items ≡ bytes

-- it waits after the others, or only this one is lost
abbrev pub Keeps : List Datagram → List Datagram → Sender → List ℕ → Bool → Type 0
Keeps waiting after sender bytes kept = MatchBool kept (Behind waiting after sender bytes) (after ≡ waiting)

-- the first datagram is given, as one of its sender on the interface, as much of it as fits the buffer
pub record Gives (iface : ℕ) (waiting after : List Datagram) (buffer : List ℕ) (r : Received) : Type 0 where
  pub first : Datagram
  pub in_order : waiting ≡ first ∷ after
  pub as_sent : r ≡ as_of first.sender iface r.len
  pub len_is : r.len ≡ min (vec_len first.bytes) (length buffer)
  pub bytes_are : take r.len buffer ≡ take r.len first.bytes.items
